-- The test that an expression is small.
use Rattle.std.proofs.Common.{◌≡◌, refl, true, ◌&&◌}
use Rattle.std.proofs.lemmas.Bool.{ltb-true, leb-true, lt-ltb, le-leb, and_parts, and_from}
use Rattle.ft_theory.specs.Expressions.{Expression}
use Rattle.ft_theory.specs.Small.{Limit, no_limit, at_most, below, both, all_three, IsKept, is_kept, limits, IsSmall, is_small}

kept_true : (l : Limit) → IsKept l → is_kept l ≡ true
kept_true no_limit h = refl
kept_true (at_most m n) h = le-leb m n h
kept_true (below m n) h = lt-ltb m n h
kept_true (both k l) h = and_from (is_kept k) (is_kept l) (kept_true k h.0) (kept_true l h.1)
kept_true (all_three k l m) h =
    and_from (is_kept k && is_kept l) (is_kept m) (and_from (is_kept k) (is_kept l) (kept_true k h.0) (kept_true l h.1)) (kept_true m h.2)

true_kept : (l : Limit) → is_kept l ≡ true → IsKept l
true_kept no_limit h = tt
true_kept (at_most m n) h = leb-true m n h
true_kept (below m n) h = ltb-true m n h
true_kept (both k l) h = let p = and_parts (is_kept k) (is_kept l) h in (true_kept k p.0, true_kept l p.1)
true_kept (all_three k l m) h =
    let p = and_parts (is_kept k && is_kept l) (is_kept m) h in
    let q = and_parts (is_kept k) (is_kept l) p.0 in
    (true_kept k q.0, true_kept l q.1, true_kept m p.1)

-- what is small passes the test
pub small_true : (e : Expression) → IsSmall e → is_small e ≡ true
small_true e h = kept_true (limits e) h.kept

-- what passes the test is small
pub true_small : (e : Expression) → is_small e ≡ true → IsSmall e
true_small e h = record { kept = true_kept (limits e) h }
