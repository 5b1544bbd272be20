-- Runs of characters.
use Rattle.std.proofs.Common.{◌≡◌, refl, ℕ, suc, List, [], ◌∷◌, ◌++◌, length, drop, Bool, true, false, IsTrue, arith}
use Rattle.std.proofs.lemmas.Bool.{eqb-true}
use Rattle.std.specs.List.{list_all}
use Rattle.ft_common.proofs.Booleans.{and_left, and_right}
use Rattle.ft_common.proofs.Choices.{if_both}
use Rattle.ft_grammar.specs.Fronts.{run, is_no_line_feed}
use Rattle.ft_grammar.specs.Made.{IsLineEnd}

pub IsTrue-from : {b : Bool} → b ≡ true → IsTrue b
IsTrue-from e = e

-- where all pass, the run is the whole
pub run_all : (passes : ℕ → Bool) (cs : List ℕ) → list_all passes cs ≡ true → run passes cs ≡ length cs
run_all passes [] all = refl
run_all passes (c ∷ cs) all =
    rw (and_left (passes c) (list_all passes cs) all) (omega (arith, run_all passes cs (and_right (passes c) (list_all passes cs) all)))

-- a run is the same where a character that doesn't pass follows
pub run-append : (passes : ℕ → Bool) (stop : ℕ) (cs after : List ℕ) → passes stop ≡ false → run passes (cs ++ stop ∷ after) ≡ run passes cs
run-append passes stop [] after stops = rw stops refl
run-append passes stop (c ∷ cs) after stops = rw (run-append passes stop cs after stops) refl

pub line_end : (cs : List ℕ) → IsLineEnd (drop (run is_no_line_feed cs) cs)
line_end [] = tt
line_end (c ∷ cs) = if_both (λ n. IsLineEnd (drop n (c ∷ cs))) (is_no_line_feed c) (suc (run is_no_line_feed cs)) 0
    (λ e. line_end cs) (λ e. eqb-true c 10 (grind (arith, e)))
