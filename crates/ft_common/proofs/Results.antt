-- Results.
use Rattle.std.proofs.Common.{◌≡◌, Ok, Err, Result, OnOk}

pub ok_ok : {A B : Type 0} (a b : A) → ◌≡◌ {A = Result A B} (Ok a) (Ok b) → a ≡ b
ok_ok a b h = cc

pub err_ok : {A B : Type 0} (e : B) (a : A) → ◌≡◌ {A = Result A B} (Err e) (Ok a) → ⊥
err_ok e a h = cc

-- what holds anyway holds on a value
pub ok_any : {A E P : Type 0} (r : Result A E) → P → OnOk r P
ok_any (Ok a) h = h
ok_any (Err e) h = tt
