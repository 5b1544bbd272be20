-- A budget of units, and how many of them are used.
use Rattle.std.specs.Prelude.{ℕ}

pub record Budget : Type 0 where
  pub total : ℕ
  pub used : ℕ
