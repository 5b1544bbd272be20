-- Worked rows: rules that the equality checker does not take.
use Rattle.std.specs.Prelude.{List, [], ◌∷◌, ◌++◌, codes}
use Rattle.ft_meaning_rows.specs.Theories.{natural_numbers, natural_numbers_accepted}
use Rattle.ft_meaning_rows.specs.Written.{Row, plenty}

-- a computation rule with an equation among its premises
abbrev pub premise_of_equations : Row
premise_of_equations = record {
  source =
      natural_numbers ++
      codes "rule shift (a : Nat) (b : Nat) (a == b : Nat by p) : S a == S b : Nat" ∷
      codes "computation shift" ∷
      [];
  budget = plenty;
  written =
      natural_numbers_accepted ++
      codes "accepted shift" ∷
      codes "error 5:13 shape: equation premise 3" ∷
      [];
  status = 14;
}

-- one whose left side is a premise alone
abbrev pub left_premise : Row
left_premise = record {
  source =
      natural_numbers ++
      codes "rule zero (a : Nat) : a == O : Nat" ∷
      codes "computation zero" ∷
      [];
  budget = plenty;
  written =
      natural_numbers_accepted ++
      codes "accepted zero" ∷
      codes "error 5:13 shape: bad left side" ∷
      [];
  status = 14;
}

-- one with a premise that its left side leaves open
abbrev pub not_on_left : Row
not_on_left = record {
  source =
      natural_numbers ++
      codes "rule any (a : Nat) : O == a : Nat" ∷
      codes "computation any" ∷
      [];
  budget = plenty;
  written =
      natural_numbers_accepted ++
      codes "accepted any" ∷
      codes "error 5:13 shape: premise 1 undetermined" ∷
      [];
  status = 14;
}

-- an extensionality rule for types
abbrev pub type_equation : Row
type_equation = record {
  source =
      natural_numbers ++
      codes "rule flat : Nat == Nat" ∷
      codes "extensionality flat" ∷
      [];
  budget = plenty;
  written =
      natural_numbers_accepted ++
      codes "accepted flat" ∷
      codes "error 5:16 shape: not an equation" ∷
      [];
  status = 14;
}

-- one with a single premise
abbrev pub one_side : Row
one_side = record {
  source =
      natural_numbers ++
      codes "rule same (x : Nat) : x == x : Nat" ∷
      codes "extensionality same" ∷
      [];
  budget = plenty;
  written =
      natural_numbers_accepted ++
      codes "accepted same" ∷
      codes "error 5:16 shape: bad left side" ∷
      [];
  status = 14;
}

-- one with an equation before its last terms
abbrev pub early_equation : Row
early_equation = record {
  source =
      natural_numbers ++
      codes "rule late (a : Nat) (b : Nat) (a == b : Nat by p) (x : Nat) (y : Nat) : x == y : Nat" ∷
      codes "extensionality late" ∷
      [];
  budget = plenty;
  written =
      natural_numbers_accepted ++
      codes "accepted late" ∷
      codes "error 5:16 shape: equation premise 3" ∷
      [];
  status = 14;
}

-- one with a premise that its type leaves open
abbrev pub not_in_type : Row
not_in_type = record {
  source =
      natural_numbers ++
      codes "rule more (a : Nat) (x : Nat) (y : Nat) : x == y : Nat" ∷
      codes "extensionality more" ∷
      [];
  budget = plenty;
  written =
      natural_numbers_accepted ++
      codes "accepted more" ∷
      codes "error 5:16 shape: premise 1 undetermined" ∷
      [];
  status = 14;
}

-- the rows
abbrev pub shapes : List Row
shapes = premise_of_equations ∷ left_premise ∷ not_on_left ∷ type_equation ∷ one_side ∷ early_equation ∷ not_in_type ∷ []
