-- Options.
use Rattle.std.proofs.Common.{◌≡◌, ◌∙◌, sym, refl, Option, Some, None, option_map}
use Rattle.std.specs.Prelude.{is_some}
use Rattle.std.proofs.lemmas.Option.{none-some, same_Some}

pub none_some : {A P : Type 0} {x : A} → None ≡ Some x → P
none_some {x = x} e = absurd (none-some x e)

pub some_none : {A P : Type 0} {x : A} → Some x ≡ None → P
some_none e = none_some (sym e)

-- an option has one value
pub one_value : {A : Type 0} (o : Option A) (x y : A) → o ≡ Some x → o ≡ Some y → x ≡ y
one_value o x y e f = same_Some x y (sym e ∙ f)

pub is_some-option_map : {A B : Type 0} (f : A → B) (o : Option A) → is_some (option_map f o) ≡ is_some o
is_some-option_map f None = refl
is_some-option_map f (Some a) = refl
