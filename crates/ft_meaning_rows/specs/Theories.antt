-- Theories that several rows declare, and the lines that these write.
use Rattle.std.specs.Prelude.{List, [], ◌∷◌, ◌++◌, codes}
use Rattle.ft_meaning.specs.Texts.{Text}

-- zero and successors
abbrev pub natural_numbers : List Text
natural_numbers = codes "rule Nat type" ∷ codes "rule O : Nat" ∷ codes "rule S (n : Nat) : Nat" ∷ []

abbrev pub natural_numbers_accepted : List Text
natural_numbers_accepted = codes "accepted Nat" ∷ codes "accepted O" ∷ codes "accepted S" ∷ []

-- and their sums
abbrev pub addition : List Text
addition = natural_numbers ++
    codes "rule plus (m : Nat) (n : Nat) : Nat" ∷
    codes "rule plusO (n : Nat) : plus O n == n : Nat" ∷
    codes "rule plusS (m : Nat) (n : Nat) : plus (S m) n == S (plus m n) : Nat" ∷
    []

abbrev pub addition_accepted : List Text
addition_accepted = natural_numbers_accepted ++ codes "accepted plus" ∷ codes "accepted plusO" ∷ codes "accepted plusS" ∷ []

-- functions that depend on their argument
abbrev pub functions : List Text
functions =
    codes "rule Pi (A type) ({x : A} B type) type" ∷
    codes "rule lam (A type) ({x : A} B type) ({x : A} e : B{x}) : Pi A B" ∷
    codes "rule app (A type) ({x : A} B type) (f : Pi A B) (a : A) : B{a}" ∷
    codes "rule beta (A type) ({x : A} B type) ({x : A} e : B{x}) (a : A) : app A B (lam A B e) a == e{a} : B{a}" ∷
    []

abbrev pub functions_accepted : List Text
functions_accepted = codes "accepted Pi" ∷ codes "accepted lam" ∷ codes "accepted app" ∷ codes "accepted beta" ∷ []

-- two types that are equal by a rule that computes, a term of the first, and a function on the second
abbrev pub two_types : List Text
two_types =
    codes "rule U type" ∷
    codes "rule T type" ∷
    codes "rule eq : U == T" ∷
    codes "rule u : U" ∷
    codes "rule f (x : T) : T" ∷
    codes "computation eq" ∷
    []

abbrev pub two_types_accepted : List Text
two_types_accepted = codes "accepted U" ∷ codes "accepted T" ∷ codes "accepted eq" ∷ codes "accepted u" ∷ codes "accepted f" ∷ []
