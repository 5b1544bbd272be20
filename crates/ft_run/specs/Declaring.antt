-- How a rule's premises are numbered.
use Rattle.std.specs.Prelude.{ℕ, List, [], ◌∷◌}

-- the number of the first metavariable; anything where there is none
abbrev pub first_number : List ℕ → ℕ
first_number [] = 0
first_number (m ∷ ms) = m
