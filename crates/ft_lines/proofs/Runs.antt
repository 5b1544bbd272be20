-- Runs of characters before what does not pass.
use Rattle.std.proofs.Common.{◌≡◌, ℕ, suc, List, [], ◌∷◌, ◌++◌, length, Bool, true, ap}
use Rattle.std.specs.List.{list_all}
use Rattle.ft_common.specs.Digits.{run}
use Rattle.ft_common.proofs.Booleans.{and_left, and_right}

-- where all pass and what follows stops the run, it is as long as these
pub run_past : (passes : ℕ → Bool) (cs rest : List ℕ) → list_all passes cs ≡ true → run passes rest ≡ 0 → run passes (cs ++ rest) ≡ length cs
run_past passes [] rest all stops = stops
run_past passes (c ∷ cs) rest all stops =
    rw (and_left (passes c) (list_all passes cs) all) (ap suc (run_past passes cs rest (and_right (passes c) (list_all passes cs) all) stops))
