-- Worked rows: the equality checker.
use Rattle.std.specs.Prelude.{List, [], ◌∷◌, ◌++◌, codes}
use Rattle.ft_meaning_rows.specs.Theories.{natural_numbers, natural_numbers_accepted, addition, addition_accepted, functions, functions_accepted, two_types, two_types_accepted}
use Rattle.ft_meaning_rows.specs.Written.{Row, plenty}

-- no conversion without a handler
abbrev pub not_coerced : Row
not_coerced = record {
  source = two_types ++ codes "show f u" ∷ [];
  budget = plenty;
  written = two_types_accepted ++ codes "error 7:8 unhandled coerce" ∷ [];
  status = 10;
}

-- a handler that converts
abbrev pub coerced : Row
coerced = record {
  source = two_types ++ codes "show handle f u with | coerce p -> match p with | (j, b) -> match equal (typeof j) (typeof b) with | some e -> f (convert j e) | none -> j end end end" ∷ [];
  budget = plenty;
  written = two_types_accepted ++ codes "|- f(u) : T" ∷ [];
  status = 0;
}

-- an operation that the case for it performs goes outwards
abbrev pub coerced_again : Row
coerced_again = record {
  source = two_types ++ codes "show handle f u with | coerce p -> match p with | (j, b) -> f j end end" ∷ [];
  budget = plenty;
  written = two_types_accepted ++ codes "error 7:63 unhandled coerce" ∷ [];
  status = 10;
}

-- types that differ are named
abbrev pub wrong_conversion : Row
wrong_conversion = record {
  source = two_types ++ codes "show convert u (refl T)" ∷ [];
  budget = plenty;
  written = two_types_accepted ++ codes "error 7:6 refused TypeDiffers: found U, wanted T" ∷ [];
  status = 11;
}

-- 1 + 1 == 2 by computation
abbrev pub one_and_one : Row
one_and_one = record {
  source =
      addition ++
      codes "computation plusO" ∷
      codes "computation plusS" ∷
      codes "show equal (plus (S O) (S O)) (S (S O))" ∷
      [];
  budget = plenty;
  written = addition_accepted ++ codes "|- plus(S(O), S(O)) == S(S(O)) : Nat" ∷ [];
  status = 0;
}

-- not without the second rule
abbrev pub without_a_rule : Row
without_a_rule = record {
  source =
      addition ++
      codes "computation plusO" ∷
      codes "show equal (plus (S O) (S O)) (S (S O))" ∷
      [];
  budget = plenty;
  written = addition_accepted ++ codes "none" ∷ [];
  status = 0;
}

-- the sides are those given
abbrev pub turned : Row
turned = record {
  source =
      addition ++
      codes "computation plusO" ∷
      codes "computation plusS" ∷
      codes "show equal (S (S O)) (plus (S O) (S O))" ∷
      [];
  budget = plenty;
  written = addition_accepted ++ codes "|- S(S(O)) == plus(S(O), S(O)) : Nat" ∷ [];
  status = 0;
}

-- an extensionality rule
abbrev pub eta : Row
eta = record {
  source =
      codes "rule Unit type" ∷
      codes "rule eta (x : Unit) (y : Unit) : x == y : Unit" ∷
      codes "extensionality eta" ∷
      codes "show {a : Unit} {b : Unit} match equal a b with | some e -> e end" ∷
      [];
  budget = plenty;
  written =
      codes "accepted Unit" ∷
      codes "accepted eta" ∷
      codes "|- {@0 : Unit} {@1 : Unit} @0 == @1 : Unit" ∷
      [];
  status = 0;
}

-- types are compared where they differ
abbrev pub computed_under_types : Row
computed_under_types = record {
  source =
      codes "rule U type" ∷
      codes "rule T type" ∷
      codes "rule eq : U == T" ∷
      codes "rule t : T" ∷
      codes "computation eq" ∷
      [] ++
      functions ++
      codes "computation beta" ∷
      codes "show match equal (Pi U ({x : U} T)) (Pi T ({x : T} T)) with | some e -> normal (app T ({x : T} T) (convert (lam U ({x : U} T) ({x : U} t)) e) t) end" ∷
      [];
  budget = plenty;
  written =
      codes "accepted U" ∷
      codes "accepted T" ∷
      codes "accepted eq" ∷
      codes "accepted t" ∷
      [] ++
      functions_accepted ++
      codes "|- app(T, {@0} T, lam(U, {@0} T, {@0} t), t) == t : T" ∷
      [];
  status = 0;
}

-- a rule that never ends
abbrev pub endless : Row
endless = record {
  source =
      codes "rule Nat type" ∷
      codes "rule l : Nat" ∷
      codes "rule ll : l == l : Nat" ∷
      codes "computation ll" ∷
      codes "show normal l" ∷
      [];
  budget = 1000;
  written =
      codes "accepted Nat" ∷
      codes "accepted l" ∷
      codes "accepted ll" ∷
      codes "error 5:6 budget spent" ∷
      [];
  status = 13;
}

-- what is not equal
abbrev pub unequal : Row
unequal = record {
  source = natural_numbers ++ codes "show match equal O (S O) with | some e -> e end" ∷ [];
  budget = plenty;
  written = natural_numbers_accepted ++ codes "error 4:6 no match" ∷ [];
  status = 12;
}

-- a symbol's rule does not compute
abbrev pub no_equation : Row
no_equation = record {
  source =
      codes "rule Nat type" ∷
      codes "rule O : Nat" ∷
      codes "computation O" ∷
      [];
  budget = plenty;
  written =
      codes "accepted Nat" ∷
      codes "accepted O" ∷
      codes "error 3:13 shape: not an equation" ∷
      [];
  status = 14;
}

-- a type and a term are not compared
abbrev pub type_and_term : Row
type_and_term = record {
  source = natural_numbers ++ codes "show equal Nat O" ∷ [];
  budget = plenty;
  written = natural_numbers_accepted ++ codes "error 4:6 refused WrongForm" ∷ [];
  status = 11;
}

-- the rows
abbrev pub equality : List Row
equality =
    not_coerced ∷ coerced ∷ coerced_again ∷ wrong_conversion ∷ one_and_one ∷ without_a_rule ∷
    turned ∷ eta ∷ computed_under_types ∷ endless ∷ unequal ∷ no_equation ∷
    type_and_term ∷ []
