-- Runs of characters, and the digits of a number.
use Rattle.std.specs.Prelude.{ℕ, suc, ◌+◌, ◌-◌, ◌*◌, ◌==◌, Bool, false, if◌then◌else◌, List, [], ◌∷◌}

-- how many characters at the front pass the test
abbrev pub run : (ℕ → Bool) → List ℕ → ℕ
run passes [] = 0
run passes (c ∷ cs) = if passes c then suc (run passes cs) else 0

-- the number that decimal digits write after those of n
abbrev pub decimal_value : ℕ → List ℕ → ℕ
decimal_value n [] = n
decimal_value n (d ∷ ds) = decimal_value (10 * n + (d - 48)) ds

-- whether the digits are a zero and others behind it
abbrev pub has_leading_zero : List ℕ → Bool
has_leading_zero [] = false
has_leading_zero (d ∷ []) = false
has_leading_zero (d ∷ e ∷ ds) = d == 48
