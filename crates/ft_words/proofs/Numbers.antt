use Rattle.std.proofs.Common.{Option, Some, if◌then◌else◌, ◌≡◌, ◌≤◌, ◌<◌, ◌+◌, ◌*◌, ◌-◌, ◌&&◌, ℕ, List, [], ◌∷◌, Bool, true, false, None, arith, refl}
use Rattle.std.specs.Prelude.{nat_le}
use Rattle.std.specs.List.{list_all}
use Rattle.ft_answers.specs.CommandLine.{value_from, is_digit}

-- the number that a number so far and the digits after it spell, where it is at most so much
abbrev pub number_tail : ℕ → ℕ → List ℕ → Option ℕ
number_tail most n ds = if list_all is_digit ds && nat_le (value_from n ds) most then Some (value_from n ds) else None

grows : (n : ℕ) (ds : List ℕ) → n ≤ value_from n ds
grows n [] = omega arith
grows n (d ∷ ds) = omega (arith, grows (10 * n + (d - 48)) ds)

-- too large already
pub over : (most n : ℕ) (ds : List ℕ) → most < n → number_tail most n ds ≡ None
over most n ds h = go (list_all is_digit ds && nat_le (value_from n ds) most) refl
  where
    go : (b : Bool) → (list_all is_digit ds && nat_le (value_from n ds) most) ≡ b → number_tail most n ds ≡ None
    go false e = rw e refl
    go true e = let bad : value_from n ds ≤ most = grind arith in absurd (omega (arith, grows n ds))

pub over_next : (most n d : ℕ) (ds : List ℕ) → most < 10 * n + (d - 48) → number_tail most n (d ∷ ds) ≡ None
over_next most n d ds h = go (list_all is_digit (d ∷ ds) && nat_le (value_from n (d ∷ ds)) most) refl
  where
    go : (b : Bool) → (list_all is_digit (d ∷ ds) && nat_le (value_from n (d ∷ ds)) most) ≡ b → number_tail most n (d ∷ ds) ≡ None
    go false e = rw e refl
    go true e = let bad : value_from n (d ∷ ds) ≤ most = grind arith in absurd (omega (arith, grows (10 * n + (d - 48)) ds))
