-- Worked rows: operations and handlers.
use Rattle.std.specs.Prelude.{List, [], ◌∷◌, ◌++◌, codes}
use Rattle.ft_meaning_rows.specs.Theories.{natural_numbers, natural_numbers_accepted}
use Rattle.ft_meaning_rows.specs.Written.{Row, plenty}

-- a variable that is leaked is named
abbrev pub leaked : Row
leaked = record {
  source =
      codes "rule A type" ∷
      codes "operation leak judgement : judgement" ∷
      codes "let y = handle {x : A} perform leak x with | leak z -> z end" ∷
      codes "show y" ∷
      codes "rule C (a : typeof y) type" ∷
      [];
  budget = plenty;
  written =
      codes "accepted A" ∷
      codes "x#0 : A |- x#0 : A" ∷
      codes "error 5:8 premise 1 keeps x#0" ∷
      [];
  status = 9;
}

-- and is refused in a conclusion too
abbrev pub leaked_in_conclusion : Row
leaked_in_conclusion = record {
  source =
      codes "rule A type" ∷
      codes "operation leak judgement : judgement" ∷
      codes "let y = handle {x : A} perform leak x with | leak z -> z end" ∷
      codes "rule C : typeof y" ∷
      [];
  budget = plenty;
  written =
      codes "accepted A" ∷
      codes "error 4:8 conclusion keeps x#0" ∷
      [];
  status = 9;
}

-- a variable on which another rests is not bound
abbrev pub dependent : Row
dependent = record {
  source =
      codes "rule Nat type" ∷
      codes "rule Vec (n : Nat) type" ∷
      codes "operation leak judgement : judgement" ∷
      codes "show {x : Nat} handle {y : Vec x} perform leak y with | leak z -> z end" ∷
      [];
  budget = plenty;
  written =
      codes "accepted Nat" ∷
      codes "accepted Vec" ∷
      codes "error 4:6 refused DependentVariable: y#0" ∷
      [];
  status = 11;
}

-- a set without an occurrence
abbrev pub set_kept : Row
set_kept = record {
  source =
      codes "rule Nat type" ∷
      codes "rule Bool type" ∷
      codes "rule Empty type" ∷
      codes "rule O : Nat" ∷
      codes "rule absurd (a : Empty) : Nat == Bool" ∷
      codes "operation leak judgement : judgement" ∷
      codes "show handle {a : Empty} perform leak (convert O (absurd a)) with | leak z -> z end" ∷
      [];
  budget = plenty;
  written =
      codes "accepted Nat" ∷
      codes "accepted Bool" ∷
      codes "accepted Empty" ∷
      codes "accepted O" ∷
      codes "accepted absurd" ∷
      codes "a#0 : Empty |- O : Bool" ∷
      [];
  status = 0;
}

-- a choice, with the value of its body
abbrev pub both_picked : Row
both_picked = record {
  source =
      natural_numbers ++
      codes "operation pick unit : bool" ∷
      codes "show handle (if perform pick () then O else S O) with | val x -> x :: nil judgement | pick u -> O :: S O :: nil judgement end" ∷
      [];
  budget = plenty;
  written =
      natural_numbers_accepted ++
      codes "|- O : Nat" ∷
      codes "|- S(O) : Nat" ∷
      [];
  status = 0;
}

-- an operation that is declared again
abbrev pub declared_again : Row
declared_again = record {
  source = codes "operation coerce unit : unit" ∷ [];
  budget = plenty;
  written = codes "error 1:11 coerce declared twice" ∷ [];
  status = 8;
}

-- an operation says nothing
abbrev pub quiet : Row
quiet = record {
  source =
      codes "rule Nat type" ∷
      codes "operation p unit : bool" ∷
      [];
  budget = plenty;
  written = codes "accepted Nat" ∷ [];
  status = 0;
}

-- the rows
abbrev pub operations : List Row
operations = leaked ∷ leaked_in_conclusion ∷ dependent ∷ set_kept ∷ both_picked ∷ declared_again ∷ quiet ∷ []
