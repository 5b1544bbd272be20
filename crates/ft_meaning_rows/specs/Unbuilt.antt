-- Worked rows: parts that are not built at a stage. Nothing is run, and the first such part is told.
use Rattle.std.specs.Prelude.{[], ◌∷◌, ◌++◌, codes}
use Rattle.ft_meaning_rows.specs.Theories.{natural_numbers}
use Rattle.ft_meaning_rows.specs.Written.{Row, plenty}

-- a named value, where applications alone are built
abbrev pub value_unbuilt : Row
value_unbuilt = record {
  source = natural_numbers ++ codes "let x = O" ∷ [];
  budget = plenty;
  written = codes "error 4:1 not yet" ∷ [];
  status = 7;
}

-- a binder
abbrev pub binder_unbuilt : Row
binder_unbuilt = record {
  source = codes "rule P ({x : Nat} B type) type" ∷ [];
  budget = plenty;
  written = codes "error 1:9 not yet" ∷ [];
  status = 7;
}

-- a call of an earlier premise
abbrev pub premise_unbuilt : Row
premise_unbuilt = record {
  source = codes "rule P (A type) (a : A) type" ∷ [];
  budget = plenty;
  written = codes "error 1:22 not yet" ∷ [];
  status = 7;
}

-- an operation, before they are built
abbrev pub operation_unbuilt : Row
operation_unbuilt = record {
  source =
      codes "rule Nat type" ∷
      codes "operation p unit : bool" ∷
      [];
  budget = plenty;
  written = codes "error 2:1 not yet" ∷ [];
  status = 7;
}

-- a question of equality
abbrev pub equality_unbuilt : Row
equality_unbuilt = record {
  source = natural_numbers ++ codes "show (some (equal O O))" ∷ [];
  budget = plenty;
  written = codes "error 4:13 not yet" ∷ [];
  status = 7;
}
