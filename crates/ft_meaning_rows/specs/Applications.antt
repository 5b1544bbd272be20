-- Worked rows: rules without binders, and shown applications of rules.
use Rattle.std.specs.Prelude.{List, [], ◌∷◌, ◌++◌, codes}
use Rattle.ft_meaning_rows.specs.Theories.{natural_numbers, natural_numbers_accepted}
use Rattle.ft_meaning_rows.specs.Written.{Row, plenty}

-- the natural number 2
abbrev pub two : Row
two = record {
  source = natural_numbers ++ codes "show S (S O)" ∷ [];
  budget = plenty;
  written = natural_numbers_accepted ++ codes "|- S(S(O)) : Nat" ∷ [];
  status = 0;
}

-- no command
abbrev pub empty : Row
empty = record {
  source = [];
  budget = plenty;
  written = [];
  status = 0;
}

-- a rule of the name of an earlier one
abbrev pub repeated_rule : Row
repeated_rule = record {
  source =
      codes "rule Nat type" ∷
      codes "rule Nat type" ∷
      [];
  budget = plenty;
  written =
      codes "accepted Nat" ∷
      codes "error 2:6 rule Nat declared twice" ∷
      [];
  status = 9;
}

-- a budget that suffices
abbrev pub six_units : Row
six_units = record {
  source = natural_numbers ++ codes "show S (S O)" ∷ [];
  budget = 6;
  written = natural_numbers_accepted ++ codes "|- S(S(O)) : Nat" ∷ [];
  status = 0;
}

-- a unit less
abbrev pub five_units : Row
five_units = record {
  source = natural_numbers ++ codes "show S (S O)" ∷ [];
  budget = 5;
  written = natural_numbers_accepted ++ codes "error 4:11 budget spent" ∷ [];
  status = 13;
}

-- a budget that is spent in a conclusion
abbrev pub two_units : Row
two_units = record {
  source = natural_numbers ++ codes "show S (S O)" ∷ [];
  budget = 2;
  written =
      codes "accepted Nat" ∷
      codes "accepted O" ∷
      codes "error 3:20 budget spent" ∷
      [];
  status = 13;
}

-- and in a premise
abbrev pub one_unit : Row
one_unit = record {
  source = natural_numbers ++ codes "show S (S O)" ∷ [];
  budget = 1;
  written =
      codes "accepted Nat" ∷
      codes "accepted O" ∷
      codes "error 3:13 budget spent" ∷
      [];
  status = 13;
}

-- a type where a term belongs is to be coerced
abbrev pub type_for_term : Row
type_for_term = record {
  source = natural_numbers ++ codes "show S Nat" ∷ [];
  budget = plenty;
  written = natural_numbers_accepted ++ codes "error 4:8 unhandled coerce" ∷ [];
  status = 10;
}

-- a term as a type
abbrev pub term_for_type : Row
term_for_type = record {
  source =
      codes "rule Nat type" ∷
      codes "rule O : Nat" ∷
      codes "rule P : O" ∷
      [];
  budget = plenty;
  written =
      codes "accepted Nat" ∷
      codes "accepted O" ∷
      codes "error 3:8 refused WrongForm" ∷
      [];
  status = 11;
}

-- a rule without its argument
abbrev pub too_few : Row
too_few = record {
  source = natural_numbers ++ codes "show S" ∷ [];
  budget = plenty;
  written = natural_numbers_accepted ++ codes "error 4:6 S takes 1, given 0" ∷ [];
  status = 8;
}

-- a rule with an argument too many
abbrev pub too_many : Row
too_many = record {
  source =
      codes "rule Nat type" ∷
      codes "show Nat Nat" ∷
      [];
  budget = plenty;
  written =
      codes "accepted Nat" ∷
      codes "error 2:6 Nat takes 0, given 1" ∷
      [];
  status = 8;
}

-- a name without a meaning
abbrev pub unbound : Row
unbound = record {
  source = codes "show x" ∷ [];
  budget = plenty;
  written = codes "error 1:6 unbound x" ∷ [];
  status = 8;
}

-- two premises of one name
abbrev pub premise_twice : Row
premise_twice = record {
  source = codes "rule C (A type) (A type) type" ∷ [];
  budget = plenty;
  written = codes "error 1:18 A declared twice" ∷ [];
  status = 8;
}

-- the rows
abbrev pub applications : List Row
applications =
    two ∷ empty ∷ repeated_rule ∷ six_units ∷ five_units ∷ two_units ∷
    one_unit ∷ type_for_term ∷ term_for_type ∷ too_few ∷ too_many ∷ unbound ∷
    premise_twice ∷ []
