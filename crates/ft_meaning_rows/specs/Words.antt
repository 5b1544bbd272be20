-- Worked rows: words on judgements, local values, conditions and patterns.
use Rattle.std.specs.Prelude.{List, [], ◌∷◌, ◌++◌, codes}
use Rattle.ft_meaning_rows.specs.Theories.{natural_numbers, natural_numbers_accepted, addition, addition_accepted, two_types, two_types_accepted}
use Rattle.ft_meaning_rows.specs.Written.{Row, plenty}

-- words on equations
abbrev pub equations : Row
equations = record {
  source =
      addition ++
      codes "show refl Nat" ∷
      codes "show sym (plusO O)" ∷
      codes "show left (plusO O)" ∷
      codes "show right (plusO O)" ∷
      codes "show typeof (plusO O)" ∷
      codes "show rewrite ({x : Nat} S x) (plusO O)" ∷
      codes "show trans (plusS O O) (congruence S (plus O O :: nil judgement) (plusO O :: nil judgement))" ∷
      codes "show trans (refl O) (refl (S O))" ∷
      [];
  budget = plenty;
  written =
      addition_accepted ++
      codes "|- Nat == Nat" ∷
      codes "|- O == plus(O, O) : Nat" ∷
      codes "|- plus(O, O) : Nat" ∷
      codes "|- O : Nat" ∷
      codes "|- Nat type" ∷
      codes "|- S(plus(O, O)) == S(O) : Nat" ∷
      codes "|- plus(S(O), O) == S(O) : Nat" ∷
      codes "error 14:6 refused SidesDiffer: found S(O), wanted O" ∷
      [];
  status = 11;
}

-- words on other judgements
abbrev pub parts : Row
parts = record {
  source =
      natural_numbers ++
      codes "show domain ({x : Nat} S x)" ∷
      codes "show argument (S (S O)) 1" ∷
      codes "show fill (boundaryof O) (S O)" ∷
      codes "show {x : Nat} widen O x" ∷
      codes "show {x : Nat} argument x 1" ∷
      [];
  budget = plenty;
  written =
      natural_numbers_accepted ++
      codes "|- Nat type" ∷
      codes "|- S(O) : Nat" ∷
      codes "|- S(O) : Nat" ∷
      codes "|- {@0 : Nat} O : Nat" ∷
      codes "error 8:16 refused NotApplication" ∷
      [];
  status = 11;
}

-- a term and an equation at an equal type
abbrev pub conversions : Row
conversions = record {
  source =
      two_types ++
      codes "show convert u eq" ∷
      codes "show convert (refl u) eq" ∷
      [];
  budget = plenty;
  written =
      two_types_accepted ++
      codes "|- u : T" ∷
      codes "|- u == u : T" ∷
      [];
  status = 0;
}

-- a local value, and the two ways of a condition, the second with a comment
abbrev pub local : Row
local = record {
  source =
      natural_numbers ++
      codes "show let x = S O in S x" ∷
      codes "show if true then O else S O" ∷
      codes "show if false then O else S O -- and so on" ∷
      [];
  budget = plenty;
  written =
      natural_numbers_accepted ++
      codes "|- S(S(O)) : Nat" ∷
      codes "|- O : Nat" ∷
      codes "|- S(O) : Nat" ∷
      [];
  status = 0;
}

-- pairs, lists, options and the unit
abbrev pub patterns : Row
patterns = record {
  source =
      natural_numbers ++
      codes "show match (O, true) with | (x, false) -> S x | (x, _) -> x end" ∷
      codes "show match O :: S O :: nil judgement with | nil -> O | x :: y :: z -> y end" ∷
      codes "show match some O with | none -> S O | some x -> x end" ∷
      codes "show match () with | () -> O end" ∷
      [];
  budget = plenty;
  written =
      natural_numbers_accepted ++
      codes "|- O : Nat" ∷
      codes "|- S(O) : Nat" ∷
      codes "|- O : Nat" ∷
      codes "|- O : Nat" ∷
      [];
  status = 0;
}

-- an equation among the premises, whose argument has no text
abbrev pub equation_premise : Row
equation_premise = record {
  source =
      natural_numbers ++
      codes "rule same (A type) (a : A) (b : A) (a == b : A by p) type" ∷
      codes "show same Nat O O (refl O)" ∷
      [];
  budget = plenty;
  written =
      natural_numbers_accepted ++
      codes "accepted same" ∷
      codes "|- same(Nat, O, O, *) type" ∷
      [];
  status = 0;
}

-- the rows
abbrev pub words : List Row
words = equations ∷ parts ∷ conversions ∷ local ∷ patterns ∷ equation_premise ∷ []
