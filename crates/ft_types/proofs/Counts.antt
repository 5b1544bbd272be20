-- How many there are.
use Rattle.std.proofs.Common.{◌≡◌, ap, refl, suc, List, [], ◌∷◌, length, map}
use Rattle.ft_grammar.specs.declared.syntax.Ast.{Ast}
use Rattle.ft_grammar.specs.declared.syntax.Pattern.{Pattern}
use Rattle.ft_grammar.specs.declared.syntax.Premise.{Premise}
use Rattle.ft_meaning.specs.Trees.{premise, form, forms, pattern, patterns}
use Rattle.ft_meaning.specs.Typing.{form_count, pattern_count}

pub count_forms : (es : List Ast) → form_count (forms (map form es)) ≡ length es
count_forms [] = refl
count_forms (e ∷ es) = ap suc (count_forms es)

pub count_patterns : (ps : List Pattern) → pattern_count (patterns (map pattern ps)) ≡ length ps
count_patterns [] = refl
count_patterns (p ∷ ps) = ap suc (count_patterns ps)

pub count_premises : (ps : List Premise) → length (map premise ps) ≡ length ps
count_premises [] = refl
count_premises (p ∷ ps) = ap suc (count_premises ps)
