-- Calls whose theses are to be plain refuse others as of the wrong form.
use Rattle.std.proofs.Common.{◌≡◌, false, is_some, Some, [], ◌∷◌, refl}
use Rattle.ft_common.proofs.Booleans.{true_false}
use Rattle.ft_theory.specs.Statements.{is_type, has_type, equal_types, equal_terms, type_goal, term_goal, type_equation_goal, term_equation_goal, Statement, plain, abstracted}
use Rattle.ft_items.specs.Equal.{is_plain}
use Rattle.ft_items.specs.Rows.{symmetry, term_boundary, type_equation_boundary}
use Rattle.ft_reference.specs.Refusals.{WrongForm, asks, first_refusal}
use Rattle.ft_reference.specs.Checks.{transitivity_checks, conversion_checks, equation_conversion_checks, term_equation_checks}

pub first_of_trans : (x y : Statement) → is_plain x ≡ false → first_refusal (transitivity_checks x y) ≡ Some WrongForm
first_of_trans (abstracted A x) y h = refl
first_of_trans (plain c) y h = true_false h

pub second_of_trans : (x y : Statement) → is_plain y ≡ false → first_refusal (transitivity_checks x y) ≡ Some WrongForm
second_of_trans x (plain d) h = true_false h
second_of_trans (abstracted A x) (abstracted B y) h = refl
second_of_trans (plain (is_type A)) (abstracted B y) h = refl
second_of_trans (plain (has_type t A)) (abstracted B y) h = refl
second_of_trans (plain (equal_types A C)) (abstracted B y) h = refl
second_of_trans (plain (equal_terms s t A)) (abstracted B y) h = refl
second_of_trans (plain type_goal) (abstracted B y) h = refl
second_of_trans (plain (term_goal A)) (abstracted B y) h = refl
second_of_trans (plain (type_equation_goal A C)) (abstracted B y) h = refl
second_of_trans (plain (term_equation_goal s t A)) (abstracted B y) h = refl

pub first_of_conv : (x y : Statement) → is_plain x ≡ false → first_refusal (conversion_checks x y) ≡ Some WrongForm
first_of_conv (abstracted A x) y h = refl
first_of_conv (plain c) y h = true_false h

pub second_of_conv : (x y : Statement) → is_plain y ≡ false → first_refusal (conversion_checks x y) ≡ Some WrongForm
second_of_conv x (plain d) h = true_false h
second_of_conv (abstracted A x) (abstracted B y) h = refl
second_of_conv (plain (is_type A)) (abstracted B y) h = refl
second_of_conv (plain (has_type t A)) (abstracted B y) h = refl
second_of_conv (plain (equal_types A C)) (abstracted B y) h = refl
second_of_conv (plain (equal_terms s t A)) (abstracted B y) h = refl
second_of_conv (plain type_goal) (abstracted B y) h = refl
second_of_conv (plain (term_goal A)) (abstracted B y) h = refl
second_of_conv (plain (type_equation_goal A C)) (abstracted B y) h = refl
second_of_conv (plain (term_equation_goal s t A)) (abstracted B y) h = refl

pub first_of_conveq : (x y : Statement) → is_plain x ≡ false → first_refusal (equation_conversion_checks x y) ≡ Some WrongForm
first_of_conveq (abstracted A x) y h = refl
first_of_conveq (plain c) y h = true_false h

pub second_of_conveq : (x y : Statement) → is_plain y ≡ false → first_refusal (equation_conversion_checks x y) ≡ Some WrongForm
second_of_conveq x (plain d) h = true_false h
second_of_conveq (abstracted A x) (abstracted B y) h = refl
second_of_conveq (plain (is_type A)) (abstracted B y) h = refl
second_of_conveq (plain (has_type t A)) (abstracted B y) h = refl
second_of_conveq (plain (equal_types A C)) (abstracted B y) h = refl
second_of_conveq (plain (equal_terms s t A)) (abstracted B y) h = refl
second_of_conveq (plain type_goal) (abstracted B y) h = refl
second_of_conveq (plain (term_goal A)) (abstracted B y) h = refl
second_of_conveq (plain (type_equation_goal A C)) (abstracted B y) h = refl
second_of_conveq (plain (term_equation_goal s t A)) (abstracted B y) h = refl

pub only_of_sym : (x : Statement) → is_plain x ≡ false → first_refusal (asks (is_some (symmetry x)) WrongForm ∷ []) ≡ Some WrongForm
only_of_sym (abstracted A x) h = refl
only_of_sym (plain c) h = true_false h

pub only_of_bterm : (x : Statement) → is_plain x ≡ false → first_refusal (asks (is_some (term_boundary x)) WrongForm ∷ []) ≡ Some WrongForm
only_of_bterm (abstracted A x) h = refl
only_of_bterm (plain c) h = true_false h

pub first_of_beqty : (x y : Statement) → is_plain x ≡ false → first_refusal (asks (is_some (type_equation_boundary x y)) WrongForm ∷ []) ≡ Some WrongForm
first_of_beqty (abstracted A x) y h = refl
first_of_beqty (plain c) y h = true_false h

pub second_of_beqty : (x y : Statement) → is_plain y ≡ false → first_refusal (asks (is_some (type_equation_boundary x y)) WrongForm ∷ []) ≡ Some WrongForm
second_of_beqty x (plain d) h = true_false h
second_of_beqty (abstracted A x) (abstracted B y) h = refl
second_of_beqty (plain (is_type A)) (abstracted B y) h = refl
second_of_beqty (plain (has_type t A)) (abstracted B y) h = refl
second_of_beqty (plain (equal_types A C)) (abstracted B y) h = refl
second_of_beqty (plain (equal_terms s t A)) (abstracted B y) h = refl
second_of_beqty (plain type_goal) (abstracted B y) h = refl
second_of_beqty (plain (term_goal A)) (abstracted B y) h = refl
second_of_beqty (plain (type_equation_goal A C)) (abstracted B y) h = refl
second_of_beqty (plain (term_equation_goal s t A)) (abstracted B y) h = refl

pub first_of_beqtm : (x y z : Statement) → is_plain x ≡ false → first_refusal (term_equation_checks x y z) ≡ Some WrongForm
first_of_beqtm (abstracted A x) y z h = refl
first_of_beqtm (plain c) y z h = true_false h

pub second_of_beqtm : (x y z : Statement) → is_plain y ≡ false → first_refusal (term_equation_checks x y z) ≡ Some WrongForm
second_of_beqtm x (plain d) z h = true_false h
second_of_beqtm (abstracted A x) (abstracted B y) z h = refl
second_of_beqtm (plain (is_type A)) (abstracted B y) z h = refl
second_of_beqtm (plain (has_type t A)) (abstracted B y) z h = refl
second_of_beqtm (plain (equal_types A C)) (abstracted B y) z h = refl
second_of_beqtm (plain (equal_terms s t A)) (abstracted B y) z h = refl
second_of_beqtm (plain type_goal) (abstracted B y) z h = refl
second_of_beqtm (plain (term_goal A)) (abstracted B y) z h = refl
second_of_beqtm (plain (type_equation_goal A C)) (abstracted B y) z h = refl
second_of_beqtm (plain (term_equation_goal s t A)) (abstracted B y) z h = refl

pub third_of_beqtm : (x y z : Statement) → is_plain z ≡ false → first_refusal (term_equation_checks x y z) ≡ Some WrongForm
third_of_beqtm x y (plain e) h = true_false h
third_of_beqtm (abstracted A x) y (abstracted C z) h = refl
third_of_beqtm (plain (is_type A)) (abstracted B y) (abstracted C z) h = refl
third_of_beqtm (plain (is_type A)) (plain (is_type D)) (abstracted C z) h = refl
third_of_beqtm (plain (is_type A)) (plain (has_type t D)) (abstracted C z) h = refl
third_of_beqtm (plain (is_type A)) (plain (equal_types D F)) (abstracted C z) h = refl
third_of_beqtm (plain (is_type A)) (plain (equal_terms s t D)) (abstracted C z) h = refl
third_of_beqtm (plain (is_type A)) (plain type_goal) (abstracted C z) h = refl
third_of_beqtm (plain (is_type A)) (plain (term_goal D)) (abstracted C z) h = refl
third_of_beqtm (plain (is_type A)) (plain (type_equation_goal D E)) (abstracted C z) h = refl
third_of_beqtm (plain (is_type A)) (plain (term_equation_goal s t D)) (abstracted C z) h = refl
third_of_beqtm (plain (has_type t A)) y (abstracted C z) h = refl
third_of_beqtm (plain (equal_types A F)) y (abstracted C z) h = refl
third_of_beqtm (plain (equal_terms s t A)) y (abstracted C z) h = refl
third_of_beqtm (plain type_goal) y (abstracted C z) h = refl
third_of_beqtm (plain (term_goal A)) y (abstracted C z) h = refl
third_of_beqtm (plain (type_equation_goal A F)) y (abstracted C z) h = refl
third_of_beqtm (plain (term_equation_goal s t A)) y (abstracted C z) h = refl
