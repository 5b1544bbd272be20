-- A boundary filled with a head.
use Rattle.std.proofs.Common.{◌≡◌, ℕ, suc, Bool, true, false, ◌&&◌, Option, Some, None, List, [], ◌∷◌, refl, sym, ap, ap₂, ◌∙◌, length}
use Rattle.std.specs.Prelude.{option_map}
use Rattle.std.proofs.lemmas.Option.{same_Some}
use Rattle.std.proofs.Math.Bool.{and_assoc, and_comm, and-true, and-false}
use Rattle.ft_common.proofs.Options.{none_some}
use Rattle.ft_theory.specs.Expressions.{Expression, meta}
use Rattle.ft_theory.specs.Statements.{Claim, is_type, has_type, equal_types, equal_terms, type_goal, term_goal, type_equation_goal, term_equation_goal, Statement, plain, boundary_of, boundary_of_claim, domain_count, fill, fill_goal}
use Rattle.ft_items.specs.Equal.{equal_claims, equal_expressions, equal_statements}
use Rattle.ft_items.specs.Rows.{bounds}
use Rattle.ft_syntax.specs.Table.{tree}
use Rattle.ft_judge.specs.Meaning.{boundary_in, goal_in, under}
use Rattle.ft_judge.specs.declared.judgement.Goal.{Goal}
use Rattle.ft_judge.specs.declared.judgement.Goal.TheVariants as goal
use Rattle.ft_judge.specs.declared.judgement.Boundary.{Boundary}
use Rattle.ft_placing.specs.Applied.{has_head_as}

claim_filled : (ts : List Expression) (h : Expression) (g : Goal) (c : Claim) → equal_claims (fill_goal (goal_in ts g) h) c ≡ (equal_claims (goal_in ts g) (boundary_of_claim c) && has_head_as h c)
claim_filled ts h goal.Ty (is_type A) = refl
claim_filled ts h goal.Ty (has_type t A) = refl
claim_filled ts h goal.Ty (equal_types A B) = refl
claim_filled ts h goal.Ty (equal_terms s t A) = refl
claim_filled ts h goal.Ty type_goal = refl
claim_filled ts h goal.Ty (term_goal A) = refl
claim_filled ts h goal.Ty (type_equation_goal A B) = refl
claim_filled ts h goal.Ty (term_equation_goal s t A) = refl
claim_filled ts h (goal.Tm D) (is_type A) = refl
claim_filled ts h (goal.Tm D) (has_type t A) = and_comm (equal_expressions h t) (equal_expressions (tree ts D) A)
claim_filled ts h (goal.Tm D) (equal_types A B) = refl
claim_filled ts h (goal.Tm D) (equal_terms s t A) = refl
claim_filled ts h (goal.Tm D) type_goal = refl
claim_filled ts h (goal.Tm D) (term_goal A) = sym (and-false (equal_expressions (tree ts D) A))
claim_filled ts h (goal.Tm D) (type_equation_goal A B) = refl
claim_filled ts h (goal.Tm D) (term_equation_goal s t A) = refl
claim_filled ts h (goal.EqTy D E) (is_type A) = refl
claim_filled ts h (goal.EqTy D E) (has_type t A) = refl
claim_filled ts h (goal.EqTy D E) (equal_types A B) = sym (and-true (equal_expressions (tree ts D) A && equal_expressions (tree ts E) B))
claim_filled ts h (goal.EqTy D E) (equal_terms s t A) = refl
claim_filled ts h (goal.EqTy D E) type_goal = refl
claim_filled ts h (goal.EqTy D E) (term_goal A) = refl
claim_filled ts h (goal.EqTy D E) (type_equation_goal A B) = sym (and-false (equal_expressions (tree ts D) A && equal_expressions (tree ts E) B))
claim_filled ts h (goal.EqTy D E) (term_equation_goal s t A) = refl
claim_filled ts h (goal.EqTm u v D) (is_type A) = refl
claim_filled ts h (goal.EqTm u v D) (has_type t A) = refl
claim_filled ts h (goal.EqTm u v D) (equal_types A B) = refl
claim_filled ts h (goal.EqTm u v D) (equal_terms s t A) = sym (and-true ((equal_expressions (tree ts u) s && equal_expressions (tree ts v) t) && equal_expressions (tree ts D) A))
claim_filled ts h (goal.EqTm u v D) type_goal = refl
claim_filled ts h (goal.EqTm u v D) (term_goal A) = refl
claim_filled ts h (goal.EqTm u v D) (type_equation_goal A B) = refl
claim_filled ts h (goal.EqTm u v D) (term_equation_goal s t A) = sym (and-false ((equal_expressions (tree ts u) s && equal_expressions (tree ts v) t) && equal_expressions (tree ts D) A))

filled_under : (ts : List Expression) (h : Expression) (Ds Es : List ℕ) (g : Goal) (c : Claim)
    → equal_statements (fill (under ts Ds (plain (goal_in ts g))) h) (under ts Es (plain c)) ≡ (equal_statements (under ts Ds (plain (goal_in ts g))) (boundary_of (under ts Es (plain c))) && has_head_as h c)
filled_under ts h [] [] g c = claim_filled ts h g c
filled_under ts h [] (E ∷ Es) g c = refl
filled_under ts h (D ∷ Ds) [] g c = refl
filled_under ts h (D ∷ Ds) (E ∷ Es) g c =
    ap (λ b. equal_expressions (tree ts D) (tree ts E) && b) (filled_under ts h Ds Es g c)
    ∙ sym (and_assoc (equal_expressions (tree ts D) (tree ts E)) (equal_statements (under ts Ds (plain (goal_in ts g))) (boundary_of (under ts Es (plain c)))) (has_head_as h c))

count_under : (ts : List Expression) (Ds : List ℕ) (c : Claim) → domain_count (under ts Ds (plain c)) ≡ length Ds
count_under ts [] c = refl
count_under ts (D ∷ Ds) c = ap suc (count_under ts Ds c)

-- each statement has a boundary
pub whole_there : {P A : Type 0} (f : A → Statement) (x : Statement) (o : Option A) → option_map f o ≡ Some x → o ≡ None → P
whole_there f x None h e = none_some h
whole_there f x (Some y) h e = none_some (sym e)

pub other_boundary : (ts : List Expression) (h : Expression) (Ds Es : List ℕ) (g : Goal) (c : Claim) (a w : Statement) (b : Bool) → a ≡ under ts Ds (plain (goal_in ts g)) → Some w ≡ Some (boundary_of (under ts Es (plain c))) → b ≡ equal_statements a w → b ≡ false
    → false ≡ equal_statements (fill (under ts Ds (plain (goal_in ts g))) h) (under ts Es (plain c))
other_boundary ts h Ds Es g c a w b e f k n =
    ap (λ b. b && has_head_as h c) (sym n ∙ k ∙ ap₂ equal_statements e (same_Some w (boundary_of (under ts Es (plain c))) f)) ∙ sym (filled_under ts h Ds Es g c)

pub generic_filled : (ts : List Expression) (m : ℕ) (Ds Es : List ℕ) (g : Goal) (c : Claim) (a w : Statement) (b r : Bool) → a ≡ under ts Ds (plain (goal_in ts g)) → Some w ≡ Some (boundary_of (under ts Es (plain c))) → b ≡ equal_statements a w → b ≡ true
    → r ≡ has_head_as (meta m (bounds (length Ds))) c
    → r ≡ equal_statements (fill (under ts Ds (plain (goal_in ts g))) (meta m (bounds (domain_count (under ts Ds (plain (goal_in ts g))))))) (under ts Es (plain c))
generic_filled ts m Ds Es g c a w b r e f k t h =
    h ∙ ap (λ b. b && has_head_as (meta m (bounds (length Ds))) c) (sym t ∙ k ∙ ap₂ equal_statements e (same_Some w (boundary_of (under ts Es (plain c))) f))
    ∙ sym (filled_under ts (meta m (bounds (length Ds))) Ds Es g c)
    ∙ ap (λ n. equal_statements (fill (under ts Ds (plain (goal_in ts g))) (meta m (bounds n))) (under ts Es (plain c))) (sym (count_under ts Ds (goal_in ts g)))
