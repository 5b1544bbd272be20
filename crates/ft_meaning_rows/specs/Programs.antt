-- Worked rows: binders, substitution, matching and what is shown.
use Rattle.std.specs.Prelude.{List, [], ◌∷◌, ◌++◌, codes}
use Rattle.ft_meaning_rows.specs.Theories.{natural_numbers, natural_numbers_accepted, functions, functions_accepted}
use Rattle.ft_meaning_rows.specs.Written.{Row, plenty}

-- the rule of functions that computes
abbrev pub beta : Row
beta = record {
  source = natural_numbers ++ functions ++ codes "show beta Nat ({x : Nat} Nat) ({x : Nat} S x) O" ∷ [];
  budget = plenty;
  written = natural_numbers_accepted ++ functions_accepted ++ codes "|- app(Nat, {@0} Nat, lam(Nat, {@0} Nat, {@0} S(@0)), O) == S(O) : Nat" ∷ [];
  status = 0;
}

-- a judgement under a domain
abbrev pub abstracted : Row
abstracted = record {
  source = natural_numbers ++ codes "show {x : Nat} S x" ∷ [];
  budget = plenty;
  written = natural_numbers_accepted ++ codes "|- {@0 : Nat} S(@0) : Nat" ∷ [];
  status = 0;
}

-- sixteen applications by doubling
abbrev pub doubled : Row
doubled = record {
  source =
      natural_numbers ++
      codes "let f1 = {x : Nat} S x" ∷
      codes "let f2 = {x : Nat} f1{f1{x}}" ∷
      codes "let f4 = {x : Nat} f2{f2{x}}" ∷
      codes "let f8 = {x : Nat} f4{f4{x}}" ∷
      codes "let f16 = {x : Nat} f8{f8{x}}" ∷
      codes "show f16{O}" ∷
      [];
  budget = plenty;
  written = natural_numbers_accepted ++ codes "|- S(S(S(S(S(S(S(S(S(S(S(S(S(S(S(S(O)))))))))))))))) : Nat" ∷ [];
  status = 0;
}

-- a value takes none
abbrev pub value_with_arguments : Row
value_with_arguments = record {
  source =
      natural_numbers ++
      codes "let x = O" ∷
      codes "show x O" ∷
      [];
  budget = plenty;
  written = natural_numbers_accepted ++ codes "error 5:6 x takes 0, given 1" ∷ [];
  status = 8;
}

-- no case matches
abbrev pub no_case : Row
no_case = record {
  source =
      codes "rule Nat type" ∷
      codes "show match none judgement with | some e -> e end" ∷
      [];
  budget = plenty;
  written =
      codes "accepted Nat" ∷
      codes "error 2:6 no match" ∷
      [];
  status = 12;
}

-- a truth value is not shown
abbrev pub truth_shown : Row
truth_shown = record {
  source = codes "show true" ∷ [];
  budget = plenty;
  written = codes "error 1:6 type bool, wanted judgement" ∷ [];
  status = 8;
}

-- a name twice in a pattern
abbrev pub twice_in_pattern : Row
twice_in_pattern = record {
  source = codes "show match ((), ()) with | (a, a) -> a end" ∷ [];
  budget = plenty;
  written = codes "error 1:32 a declared twice" ∷ [];
  status = 8;
}

-- a pair against a truth value
abbrev pub wanted_pair : Row
wanted_pair = record {
  source = codes "show match true with | (a, b) -> a end" ∷ [];
  budget = plenty;
  written = codes "error 1:24 type bool, wanted pair" ∷ [];
  status = 8;
}

-- the text of a type
abbrev pub inner_pair : Row
inner_pair = record {
  source = codes "show ((), (true, ()))" ∷ [];
  budget = plenty;
  written = codes "error 1:6 type unit * (bool * unit), wanted judgement" ∷ [];
  status = 8;
}

-- an application is matched, and its argument taken
abbrev pub matched : Row
matched = record {
  source = natural_numbers ++ codes "show match S (S O) with | @O -> O | @S n -> n end" ∷ [];
  budget = plenty;
  written = natural_numbers_accepted ++ codes "|- S(O) : Nat" ∷ [];
  status = 0;
}

-- equal arguments
abbrev pub congruent : Row
congruent = record {
  source = natural_numbers ++ codes "show congruence S (O :: nil judgement) (refl O :: nil judgement)" ∷ [];
  budget = plenty;
  written = natural_numbers_accepted ++ codes "|- S(O) == S(O) : Nat" ∷ [];
  status = 0;
}

-- a list and an option are shown
abbrev pub members : Row
members = record {
  source =
      natural_numbers ++
      codes "show O :: Nat :: nil judgement" ∷
      codes "show some (natural O)" ∷
      codes "show none judgement" ∷
      [];
  budget = plenty;
  written =
      natural_numbers_accepted ++
      codes "|- O : Nat" ∷
      codes "|- Nat type" ∷
      codes "|- Nat == Nat" ∷
      codes "none" ∷
      [];
  status = 0;
}

-- a theory in which each type has a term and any two types are equal: what its rules give is shown
abbrev pub inconsistent : Row
inconsistent = record {
  source =
      codes "rule Nat type" ∷
      codes "rule any (A type) : A" ∷
      codes "rule all (A type) (B type) : A == B" ∷
      codes "show all Nat Nat" ∷
      codes "show convert (any Nat) (all Nat Nat)" ∷
      [];
  budget = plenty;
  written =
      codes "accepted Nat" ∷
      codes "accepted any" ∷
      codes "accepted all" ∷
      codes "|- Nat == Nat" ∷
      codes "|- any(Nat) : Nat" ∷
      [];
  status = 0;
}

-- the rows
abbrev pub programs : List Row
programs =
    beta ∷ abstracted ∷ doubled ∷ value_with_arguments ∷ no_case ∷ truth_shown ∷
    twice_in_pattern ∷ wanted_pair ∷ inner_pair ∷ matched ∷ congruent ∷ members ∷
    inconsistent ∷ []
