-- The rows of the structural steps, over any maps.
use Rattle.std.proofs.Common.{◌≡◌, ℕ, Bool, true, false, ◌&&◌, Option, Some, None, List, [], ◌∷◌, refl, sym, subst, subst₂}
use Rattle.std.specs.Prelude.{option_map}
use Rattle.std.proofs.lemmas.Option.{same_Some}
use Rattle.std.proofs.lemmas.Bool.{and_parts}
use Rattle.ft_common.proofs.Options.{none_some}
use Rattle.ft_theory.specs.Expressions.{Expression, open_at}
use Rattle.ft_theory.specs.Statements.{Claim, is_type, has_type, equal_types, equal_terms, term_goal, type_equation_goal, term_equation_goal, Statement, plain, abstracted, opened, domain_count, fill, equate, IsObject, boundary_of}
use Rattle.ft_theory.specs.Rules.{Rule}
use Rattle.ft_theory.specs.Steps.{sequent, none, more, Prim}
use Rattle.ft_theory.specs.WideSteps.{SideOfClaim, type_of_term, left_type, right_type, type_of_terms, left_term, right_term, type_of_boundary, left_type_side, right_type_side, type_of_sides, left_term_side, right_term_side, Side, plain_side, under_domain, its_boundary, a_side, first_domain, equal_substitution, substitution}
use Rattle.ft_laws.proofs.Steps.{do_symmetric_types, do_symmetric_terms, do_transitive_types, do_transitive_terms, do_convert_term, do_convert_equation, do_for_term, do_for_types, do_for_terms}
use Rattle.ft_laws.proofs.Equal.{reify}
use Rattle.ft_laws.proofs.EqualTerms.{itself}
use Rattle.ft_laws.proofs.Finitary.{Sound, scoped}
use Rattle.ft_laws.proofs.Admissible.{admissible}
use Rattle.ft_items.specs.Equal.{equal_expressions, has_head, head}
use Rattle.ft_items.specs.Rows as row
use Rattle.ft_sound.proofs.EqualLemmas.{expression_true, refill, boundary_depth}

-- from a test that held
pub from_when : (P : Statement → Type 0) (b : Bool) (x y : Statement) → row.when b x ≡ Some y → (b ≡ true → P x) → P y
from_when P true x y e h = subst P (same_Some x y e) (h refl)
from_when P false x y e h = none_some e

left_is : (c d : Claim) → row.left_side c ≡ Some d → SideOfClaim c d
left_is (equal_types A B) d e = subst (SideOfClaim (equal_types A B)) (same_Some (is_type A) d e) (left_type A B)
left_is (equal_terms s t A) d e = subst (SideOfClaim (equal_terms s t A)) (same_Some (has_type s A) d e) (left_term s t A)
left_is (type_equation_goal A B) d e = subst (SideOfClaim (type_equation_goal A B)) (same_Some (is_type A) d e) (left_type_side A B)
left_is (term_equation_goal s t A) d e = subst (SideOfClaim (term_equation_goal s t A)) (same_Some (has_type s A) d e) (left_term_side s t A)
left_is c d e = none_some e

right_is : (c d : Claim) → row.right_side c ≡ Some d → SideOfClaim c d
right_is (equal_types A B) d e = subst (SideOfClaim (equal_types A B)) (same_Some (is_type B) d e) (right_type A B)
right_is (equal_terms s t A) d e = subst (SideOfClaim (equal_terms s t A)) (same_Some (has_type t A) d e) (right_term s t A)
right_is (type_equation_goal A B) d e = subst (SideOfClaim (type_equation_goal A B)) (same_Some (is_type B) d e) (right_type_side A B)
right_is (term_equation_goal s t A) d e = subst (SideOfClaim (term_equation_goal s t A)) (same_Some (has_type t A) d e) (right_term_side s t A)
right_is c d e = none_some e

type_is : (c d : Claim) → row.type_part c ≡ Some d → SideOfClaim c d
type_is (has_type t A) d e = subst (SideOfClaim (has_type t A)) (same_Some (is_type A) d e) (type_of_term t A)
type_is (equal_terms s t A) d e = subst (SideOfClaim (equal_terms s t A)) (same_Some (is_type A) d e) (type_of_terms s t A)
type_is (term_goal A) d e = subst (SideOfClaim (term_goal A)) (same_Some (is_type A) d e) (type_of_boundary A)
type_is (term_equation_goal s t A) d e = subst (SideOfClaim (term_equation_goal s t A)) (same_Some (is_type A) d e) (type_of_sides s t A)
type_is c d e = none_some e

under_is : (f : Claim → Option Claim) → ((c d : Claim) → f c ≡ Some d → SideOfClaim c d) → (x y : Statement) → row.under_domains f x ≡ Some y → Side x y
under_is f h (plain c) y e = go (f c) refl e
  where
    go : (o : Option Claim) → f c ≡ o → option_map plain o ≡ Some y → Side (plain c) y
    go None q e = none_some e
    go (Some d) q e = subst (Side (plain c)) (same_Some (plain d) y e) (plain_side c d (h c d q))
under_is f h (abstracted A x) y e = go (row.under_domains f x) refl e (under_is f h x)
  where
    go : (o : Option Statement) → row.under_domains f x ≡ o → option_map (abstracted A) o ≡ Some y → ((z : Statement) → row.under_domains f x ≡ Some z → Side x z) → Side (abstracted A x) y
    go None q e ih = none_some e
    go (Some z) q e ih = subst (Side (abstracted A x)) (same_Some (abstracted A z) y e) (under_domain A x z (ih z q))

module _ (T : List Rule) (so : Sound T) (M : List (ℕ × Statement)) (G : List (ℕ × Expression)) where
  pub do_substitution : (x z y : Statement) → row.substitution x z ≡ Some y → Prim T M G x → Prim T M G z → Prim T M G y
  do_substitution (abstracted A x) (plain (has_type t B)) y e p q = from_when (Prim T M G) (equal_expressions A B) (opened t (abstracted A x)) y e
      (λ h. admissible T so 2 (sequent M G (abstracted A x) ∷ sequent M G (plain (has_type t A)) ∷ []) (sequent M G (opened t (abstracted A x))) (substitution A t x) (more p (more (subst (λ C. Prim T M G (plain (has_type t C))) (sym (expression_true A B h)) q) none)))
  do_substitution x z y e p q = none_some e

  pub do_equal_substitution : (x z y : Statement) → row.equal_substitution x z ≡ Some y → Prim T M G x → Prim T M G z → Prim T M G y
  do_equal_substitution (abstracted A x) (plain (equal_terms s t B)) y e p q =
      from_when (Prim T M G) (has_head x && equal_expressions A B) (equate (opened s (abstracted A (boundary_of x))) (open_at (domain_count x) s (head x)) (open_at (domain_count x) t (head x))) y e (λ h.
      let k : (has_head x ≡ true) × (equal_expressions A B ≡ true) = and_parts (has_head x) (equal_expressions A B) h in
      let r : IsObject (boundary_of x) × (x ≡ fill (boundary_of x) (head x)) = refill x k.0 in
      subst (λ l. Prim T M G (equate (opened s (abstracted A (boundary_of x))) (open_at l s (head x)) (open_at l t (head x)))) (boundary_depth x)
      (admissible T so 4 (sequent M G (abstracted A (fill (boundary_of x) (head x))) ∷ sequent M G (plain (equal_terms s t A)) ∷ [])
      (sequent M G (equate (opened s (abstracted A (boundary_of x))) (open_at (domain_count (boundary_of x)) s (head x)) (open_at (domain_count (boundary_of x)) t (head x))))
      (equal_substitution A s t (boundary_of x) (head x) r.0)
      (more (subst (λ z. Prim T M G (abstracted A z)) r.1 p) (more (subst (λ C. Prim T M G (plain (equal_terms s t C))) (sym (expression_true A B k.1)) q) none))))
  do_equal_substitution x z y e p q = none_some e

  pub do_reflexivity : (x y : Statement) → row.reflexivity x ≡ Some y → Prim T M G x → Prim T M G y
  do_reflexivity x y e p = from_when (Prim T M G) (has_head x) (equate (boundary_of x) (head x) (head x)) y e (λ h.
      let r : IsObject (boundary_of x) × (x ≡ fill (boundary_of x) (head x)) = refill x h in
      reify T (scoped T so) M (domain_count (boundary_of x)) G (boundary_of x) (boundary_of x) (head x) (head x) refl refl r.0 r.0
      (itself T (scoped T so) M G (fill (boundary_of x) (head x)) (subst (Prim T M G) r.1 p)))

  pub do_symmetry : (x y : Statement) → row.symmetry x ≡ Some y → Prim T M G x → Prim T M G y
  do_symmetry (plain (equal_types A B)) y e p = subst (Prim T M G) (same_Some (plain (equal_types B A)) y e) (do_symmetric_types p)
  do_symmetry (plain (equal_terms s t A)) y e p = subst (Prim T M G) (same_Some (plain (equal_terms t s A)) y e) (do_symmetric_terms p)
  do_symmetry x y e p = none_some e

  pub do_transitivity : (x z y : Statement) → row.transitivity x z ≡ Some y → Prim T M G x → Prim T M G z → Prim T M G y
  do_transitivity (plain (equal_types A B)) (plain (equal_types C D)) y e p q = from_when (Prim T M G) (equal_expressions B C) (plain (equal_types A D)) y e
      (λ h. do_transitive_types p (subst (λ X. Prim T M G (plain (equal_types X D))) (sym (expression_true B C h)) q))
  do_transitivity (plain (equal_terms s t A)) (plain (equal_terms u v B)) y e p q = from_when (Prim T M G) (equal_expressions A B && equal_expressions t u) (plain (equal_terms s v A)) y e (λ h.
      let k : (equal_expressions A B ≡ true) × (equal_expressions t u ≡ true) = and_parts (equal_expressions A B) (equal_expressions t u) h in
      do_transitive_terms p (subst₂ (λ X z. Prim T M G (plain (equal_terms z v X))) (sym (expression_true A B k.0)) (sym (expression_true t u k.1)) q))
  do_transitivity x z y e p q = none_some e

  pub do_conversion : (x z y : Statement) → row.conversion x z ≡ Some y → Prim T M G x → Prim T M G z → Prim T M G y
  do_conversion (plain (has_type t A)) (plain (equal_types B C)) y e p q = from_when (Prim T M G) (equal_expressions A B) (plain (has_type t C)) y e
      (λ h. do_convert_term p (subst (λ X. Prim T M G (plain (equal_types X C))) (sym (expression_true A B h)) q))
  do_conversion x z y e p q = none_some e

  pub do_equation_conversion : (x z y : Statement) → row.equation_conversion x z ≡ Some y → Prim T M G x → Prim T M G z → Prim T M G y
  do_equation_conversion (plain (equal_terms s t A)) (plain (equal_types B C)) y e p q = from_when (Prim T M G) (equal_expressions A B) (plain (equal_terms s t C)) y e
      (λ h. do_convert_equation p (subst (λ X. Prim T M G (plain (equal_types X C))) (sym (expression_true A B h)) q))
  do_equation_conversion x z y e p q = none_some e

  do_side : (x y : Statement) → Side x y → Prim T M G x → Prim T M G y
  do_side x y s p = admissible T so 3 (sequent M G x ∷ []) (sequent M G y) (a_side x y s) (more p none)

  pub do_left : (x y : Statement) → row.under_domains row.left_side x ≡ Some y → Prim T M G x → Prim T M G y
  do_left x y e p = do_side x y (under_is row.left_side left_is x y e) p

  pub do_right : (x y : Statement) → row.under_domains row.right_side x ≡ Some y → Prim T M G x → Prim T M G y
  do_right x y e p = do_side x y (under_is row.right_side right_is x y e) p

  pub do_typeof : (x y : Statement) → row.under_domains row.type_part x ≡ Some y → Prim T M G x → Prim T M G y
  do_typeof x y e p = do_side x y (under_is row.type_part type_is x y e) p

  pub do_domain : (x y : Statement) → row.first_domain x ≡ Some y → Prim T M G x → Prim T M G y
  do_domain (plain c) y e p = none_some e
  do_domain (abstracted A x) y e p = subst (Prim T M G) (same_Some (plain (is_type A)) y e) (admissible T so 3 (sequent M G (abstracted A x) ∷ []) (sequent M G (plain (is_type A))) (first_domain A x) (more p none))

  pub do_boundary : (x : Statement) → Prim T M G x → Prim T M G (boundary_of x)
  do_boundary x p = admissible T so 3 (sequent M G x ∷ []) (sequent M G (boundary_of x)) (its_boundary x) (more p none)

  pub do_term_boundary : (x y : Statement) → row.term_boundary x ≡ Some y → Prim T M G x → Prim T M G y
  do_term_boundary (plain (is_type A)) y e p = subst (Prim T M G) (same_Some (plain (term_goal A)) y e) (do_for_term p)
  do_term_boundary x y e p = none_some e

  pub do_type_equation_boundary : (x z y : Statement) → row.type_equation_boundary x z ≡ Some y → Prim T M G x → Prim T M G z → Prim T M G y
  do_type_equation_boundary (plain (is_type A)) (plain (is_type B)) y e p q = subst (Prim T M G) (same_Some (plain (type_equation_goal A B)) y e) (do_for_types p q)
  do_type_equation_boundary x z y e p q = none_some e

  pub do_term_equation_boundary : (x u v y : Statement) → row.term_equation_boundary x u v ≡ Some y → Prim T M G x → Prim T M G u → Prim T M G v → Prim T M G y
  do_term_equation_boundary (plain (is_type A)) (plain (has_type s B)) (plain (has_type t C)) y e p q r =
      from_when (Prim T M G) (equal_expressions B A && equal_expressions C A) (plain (term_equation_goal s t A)) y e (λ h.
      let k : (equal_expressions B A ≡ true) × (equal_expressions C A ≡ true) = and_parts (equal_expressions B A) (equal_expressions C A) h in
      do_for_terms p (subst (λ X. Prim T M G (plain (has_type s X))) (expression_true B A k.0) q) (subst (λ X. Prim T M G (plain (has_type t X))) (expression_true C A k.1) r))
  do_term_equation_boundary x u v y e p q r = none_some e
