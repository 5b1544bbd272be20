-- The cases after the first one.
use Rattle.std.proofs.Common.{◌≡◌, ◌-◌, ◌∙◌, sym, ap, List, length, map, take, drop, length-drop, refl, [], ◌∷◌}
use Rattle.std.specs.Prelude.{Result}
use Rattle.ft_grammar.specs.declared.syntax.Case.{Case}
use Rattle.ft_meaning.specs.Trees.{ValueType, cases}
use Rattle.ft_meaning.specs.Typing.{TypeFault, Scope, ensure_cases}
use Rattle.ft_meaning.proofs.Written.{case}
use Rattle.ft_types.proofs.Cases.{cases_same}

take_whole : {A : Type 0} (xs : List A) → take (length xs) xs ≡ xs
take_whole [] = refl
take_whole (x ∷ xs) = ap (λ l. x ∷ l) (take_whole xs)

rest_all : (cs : List Case) → take (length cs - 1) (drop 1 cs) ≡ drop 1 cs
rest_all cs = ap (λ n. take n (drop 1 cs)) (sym (length-drop 1 cs)) ∙ take_whole (drop 1 cs)

pub cases_rest : (cs : List Case) (A B C : ValueType) (s t : Scope) (r : Result (Unit {0}) TypeFault) → B ≡ A → t ≡ s
    → ensure_cases (cases (map case (take (length cs - 1) (drop 1 cs)))) B C t ≡ r → ensure_cases (cases (map case (drop 1 cs))) A C s ≡ r
cases_rest cs A B C s t r a b h = cases_same (drop 1 cs) A B C s t r a b (ap (λ xs. ensure_cases (cases (map case xs)) B C t) (sym (rest_all cs)) ∙ h)
