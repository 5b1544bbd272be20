-- What a text holds after a text could not be appended to it.
use Rattle.std.specs.Prelude.{ℕ, ◌≡◌, List, ◌++◌}

-- what was there, and after it a beginning of the text that was to be appended
abbrev pub HasBeginning : List ℕ → List ℕ → List ℕ → Type 0
HasBeginning old text new = (part : List ℕ) × (rest : List ℕ) × (new ≡ old ++ part) × (text ≡ part ++ rest)
