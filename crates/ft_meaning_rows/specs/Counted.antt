-- Worked rows whose units are counted.
use Rattle.std.specs.Prelude.{[], ◌∷◌, ◌++◌, codes}
use Rattle.ft_meaning_rows.specs.Theories.{natural_numbers, natural_numbers_accepted, addition, addition_accepted}
use Rattle.ft_meaning_rows.specs.Written.{Row, plenty}

-- one number shown
abbrev pub one_numeral : Row
one_numeral = record {
  source = natural_numbers ++
      codes "show S O" ∷
      [];
  budget = plenty;
  written = natural_numbers_accepted ++
      codes "|- S(O) : Nat" ∷
      [];
  status = 0;
}

-- two numbers
abbrev pub two_numerals : Row
two_numerals = record {
  source = natural_numbers ++
      codes "show S O" ∷
      codes "show S (S O)" ∷
      [];
  budget = plenty;
  written = natural_numbers_accepted ++
      codes "|- S(O) : Nat" ∷
      codes "|- S(S(O)) : Nat" ∷
      [];
  status = 0;
}

-- seven numbers
abbrev pub seven_numerals : Row
seven_numerals = record {
  source = natural_numbers ++
      codes "show S O" ∷
      codes "show S (S O)" ∷
      codes "show S (S (S O))" ∷
      codes "show S (S (S (S O)))" ∷
      codes "show S (S (S (S (S O))))" ∷
      codes "show S (S (S (S (S (S O)))))" ∷
      codes "show O" ∷
      [];
  budget = plenty;
  written = natural_numbers_accepted ++
      codes "|- S(O) : Nat" ∷
      codes "|- S(S(O)) : Nat" ∷
      codes "|- S(S(S(O))) : Nat" ∷
      codes "|- S(S(S(S(O)))) : Nat" ∷
      codes "|- S(S(S(S(S(O))))) : Nat" ∷
      codes "|- S(S(S(S(S(S(O)))))) : Nat" ∷
      codes "|- O : Nat" ∷
      [];
  status = 0;
}

-- one sum compared
abbrev pub one_sum : Row
one_sum = record {
  source = addition ++
      codes "computation plusO" ∷
      codes "computation plusS" ∷
      codes "show equal (plus (S O) (S O)) (S (S O))" ∷
      [];
  budget = plenty;
  written = addition_accepted ++
      codes "|- plus(S(O), S(O)) == S(S(O)) : Nat" ∷
      [];
  status = 0;
}

-- two sums
abbrev pub two_sums : Row
two_sums = record {
  source = addition ++
      codes "computation plusO" ∷
      codes "computation plusS" ∷
      codes "show equal (plus (S O) (S O)) (S (S O))" ∷
      codes "show equal (plus (S (S O)) (S (S O))) (S (S (S (S O))))" ∷
      [];
  budget = plenty;
  written = addition_accepted ++
      codes "|- plus(S(O), S(O)) == S(S(O)) : Nat" ∷
      codes "|- plus(S(S(O)), S(S(O))) == S(S(S(S(O)))) : Nat" ∷
      [];
  status = 0;
}
