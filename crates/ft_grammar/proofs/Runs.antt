-- How runs of characters are counted.
use Rattle.std.proofs.Common.{◌≡◌, ◌+◌, ◌∙◌, sym, refl, ℕ, suc, List, [], ◌∷◌, length, take, cond, Bool, true, false, if◌then◌else◌, arith}
use Rattle.std.specs.List.{prefix_len}
use Rattle.std.proofs.lemmas.List.Folds.{length-prefix_len}
use Rattle.ft_common.specs.Digits.{run}

run-is_prefix_len : (passes : ℕ → Bool) (cs : List ℕ) → run passes cs ≡ prefix_len passes cs
run-is_prefix_len passes [] = refl
run-is_prefix_len passes (c ∷ cs) = elim (passes c) as (λ b. (if b then suc (run passes cs) else 0) ≡ cond b (1 + prefix_len passes cs) 0)
    [ true ↦ omega (arith, run-is_prefix_len passes cs) | false ↦ refl ]

-- a run has as many characters as `take_while` takes
pub run-counted : (passes : ℕ → Bool) (cs : List ℕ) (n : ℕ) → n ≡ length (take (prefix_len passes cs) cs) → n ≡ run passes cs
run-counted passes cs n counted = counted ∙ length-prefix_len passes cs ∙ sym (run-is_prefix_len passes cs)
