-- Tests that are joined.
use Rattle.std.proofs.Common.{◌≡◌, sym, Bool, true, false, ◌&&◌, ◌||◌}
use Rattle.std.proofs.lemmas.Bool.{false≢true, and_parts, or_parts}

pub false_true : {P : Type 0} → false ≡ true → P
false_true e = absurd (false≢true e)

pub true_false : {P : Type 0} → true ≡ false → P
true_false e = absurd (false≢true (sym e))

pub and_left : (a b : Bool) → (a && b) ≡ true → a ≡ true
and_left a b e = (and_parts a b e).0

pub and_right : (a b : Bool) → (a && b) ≡ true → b ≡ true
and_right a b e = (and_parts a b e).1

pub or_left : (a b : Bool) → (a || b) ≡ false → a ≡ false
or_left a b e = (or_parts a b e).0

pub or_right : (a b : Bool) → (a || b) ≡ false → b ≡ false
or_right a b e = (or_parts a b e).1
