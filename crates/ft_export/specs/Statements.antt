-- The text of domains, and which lists of a table's expressions can be written.
use Rattle.std.specs.Prelude.{ℕ, List, [], ◌∷◌, ◌++◌, codes, map}
use Rattle.std.specs.List.{flat_map}
use Rattle.ft_theory.specs.Expressions.{Expression}
use Rattle.ft_theory.specs.Small.{IsSmall}
use Rattle.ft_items.specs.Texts.{spaced, expression_text, ItsNumbersFit}
use Rattle.ft_syntax.specs.Table.{tree}

-- a domain in braces
abbrev pub domain_text : List Expression → ℕ → List ℕ
domain_text ts e = codes "{" ++ expression_text (tree ts e) ++ codes "}"

-- the domains, one after the other
abbrev pub domains_text : List Expression → List ℕ → List ℕ
domains_text ts es = flat_map (domain_text ts) es

-- a letter and expressions, with a space before each
abbrev pub lettered_text : List Expression → List ℕ → List ℕ → List ℕ
lettered_text ts letter es = spaced (letter ∷ map (λ e. expression_text (tree ts e)) es)

-- each of the expressions is small, and its numbers fit
abbrev pub EachFits : List Expression → List ℕ → Type 0
EachFits ts [] = Unit {0}
EachFits ts (e ∷ es) = (IsSmall (tree ts e) × ItsNumbersFit (tree ts e)) × EachFits ts es
