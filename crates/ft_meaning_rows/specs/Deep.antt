-- Worked rows: many applications of a rule, by doubling, up to the limit of depth and past it.
use Rattle.std.specs.Prelude.{ℕ, zero, suc, ◌≡◌, List, [], ◌∷◌, ◌++◌, map, codes}
use Rattle.std.specs.List.{repeat}
use Rattle.ft_theory.specs.Expressions.{Expression, symbol, no_arguments, with_body}
use Rattle.ft_theory.specs.Statements.{has_type, plain}
use Rattle.ft_meaning.specs.Texts.{Text}
use Rattle.ft_meaning.specs.Events.{shown_in}
use Rattle.ft_meaning.specs.Stages.{all_built}
use Rattle.ft_meaning.specs.Transcript.{Transcript, IsTranscriptAt}
use Rattle.ft_meaning_rows.specs.Theories.{natural_numbers, natural_numbers_accepted}
use Rattle.ft_meaning_rows.specs.Written.{lines, Row, plenty}

-- functions that apply S so many times
abbrev pub doublings : List Text
doublings = natural_numbers ++
    codes "let f1 = {x : Nat} S x" ∷
    codes "let f2 = {x : Nat} f1{f1{x}}" ∷
    codes "let f4 = {x : Nat} f2{f2{x}}" ∷
    codes "let f8 = {x : Nat} f4{f4{x}}" ∷
    codes "let f16 = {x : Nat} f8{f8{x}}" ∷
    codes "let f32 = {x : Nat} f16{f16{x}}" ∷
    codes "let f64 = {x : Nat} f32{f32{x}}" ∷
    codes "let f128 = {x : Nat} f64{f64{x}}" ∷
    codes "let f256 = {x : Nat} f128{f128{x}}" ∷
    codes "let f512 = {x : Nat} f256{f256{x}}" ∷
    []

-- 255 applications
abbrev pub deep : Row
deep = record {
  source = doublings ++ codes "show f128{f64{f32{f16{f8{f4{f2{f1{O}}}}}}}}" ∷ [];
  budget = plenty;
  written = natural_numbers_accepted ++ (codes "|- " ++ repeat 255 (codes "S(") ++ codes "O" ++ repeat 255 (codes ")") ++ codes " : Nat") ∷ [];
  status = 0;
}

-- a thousand, one more than the limit of depth allows
abbrev pub too_deep : Row
too_deep = record {
  source = doublings ++ codes "show S (f512{f256{f128{f64{f32{f4{f2{f1{O}}}}}}}})" ∷ [];
  budget = plenty;
  written = natural_numbers_accepted ++ codes "error 14:6 refused TooBig" ∷ [];
  status = 11;
}

-- the rows
abbrev pub depth : List Row
depth = deep ∷ too_deep ∷ []

-- 999 applications, as many as it allows
abbrev pub deepest : List Text
deepest = doublings ++ codes "show f512{f256{f128{f64{f32{f4{f2{f1{O}}}}}}}}" ∷ []

-- a number, where the rules before it are Nat, O and S
abbrev pub numeral : ℕ → Expression
numeral zero = symbol 1 no_arguments
numeral (suc n) = symbol 2 (with_body 0 (numeral n) no_arguments)

-- the transcript of 999 applications has status 0, and what it shows is the number 999
abbrev pub ShowsDeepest : Type 0
ShowsDeepest =
    (t : Transcript) × IsTranscriptAt all_built (lines deepest) plenty t × (t.status ≡ 0)
    × (map (λ s. s.judgement.statement) (shown_in t.events) ≡ plain (has_type (numeral 999) (symbol 0 no_arguments)) ∷ [])
