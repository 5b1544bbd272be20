-- The bound variables of the domains, and the metavariable at them.
use Rattle.std.proofs.Common.{◌≡◌, ◌∙◌, ℕ, zero, suc, ◌+◌, ◌-◌, ◌^◌, ◌<◌, ◌≤◌, Bool, true, false, Some, None, List, [], ◌∷◌, ◌++◌, length, map, refl, sym, ap, ap₂, subst, arith, append-nil, append_assoc}
use Rattle.std.proofs.lemmas.List.{map-append}
use Rattle.ft_common.proofs.Booleans.{true_false}
use Rattle.ft_common.proofs.Choices.{if_true, if_false, by_test}
use Rattle.ft_theory.specs.Expressions.{Expression, bound, meta, also}
use Rattle.ft_theory.specs.Small.{IsSmall, is_small}
use Rattle.ft_theory.specs.Statements.{Claim, is_type, has_type, equal_types, equal_terms, type_goal, term_goal, type_equation_goal, term_equation_goal, Statement, plain, abstracted, domain_count, fill_goal, fill}
use Rattle.ft_items.specs.Equal.{is_object_goal, is_object}
use Rattle.ft_items.specs.Rows.{bounds}
use Rattle.ft_items.proofs.Smallness.{small_true, true_small}
use Rattle.ft_reference.specs.Refusals.{AllSmall, claim_expressions, first_refusal}
use Rattle.ft_reference.specs.Refusals as reference
use Rattle.ft_reference.specs.Checks.{forms_application}
use Rattle.ft_syntax.specs.Table.{tree, terms_in, Extends, AllBelow}
use Rattle.ft_syntax.specs.Laws.{trees_extend, all_below_extends, all_push}
use Rattle.ft_syntax.specs.declared.syntax.SynFault.{SynFault}
use Rattle.ft_syntax.specs.declared.syntax.SynFault.TheVariants as syntax
use Rattle.ft_judge.specs.Faults as faults
use Rattle.ft_judge.specs.Meaning.{claim_in, goal_in, under, boundary_in, GoalBelow, BoundaryBelow}
use Rattle.ft_judge.specs.Laws.{boundary_extends, under_extends}
use Rattle.ft_judge.specs.declared.judgement.Boundary.{Boundary}
use Rattle.ft_judge.specs.declared.judgement.Form.{Form}
use Rattle.ft_judge.specs.declared.judgement.Goal.{Goal}
use Rattle.ft_judge.specs.declared.judgement.Goal.TheVariants as goal
use Rattle.ft_kernel.specs.State.{State}
use Rattle.ft_calls.specs.Answers.{Stays}
use Rattle.ft_calls.proofs.Declared.{stays_same}
use Rattle.ft_calls.proofs.Later.{AreSmallTrees}
use Rattle.ft_metas.specs.Outcomes.{BigOr, Stops}
use Rattle.ft_metas.specs.Putting.{terms_of, filled_at, bound_list}
use Rattle.ft_metas.proofs.At.{count_under, terms_listed}
use Rattle.ft_metas.proofs.Applied.{object_under}
use Rattle.ft_metas.proofs.Places.{stays_then}

pub bound_small : (i : ℕ) → i + 1 < 2 ^ 64 → IsSmall (bound i)
bound_small i l = record { kept = (omega arith, omega arith, omega (arith, l)) }

-- a goal of a table is small
pub goal_small : (ts : List Expression) (g : Goal) → AreSmallTrees ts → GoalBelow (length ts) g → AllSmall (claim_expressions (goal_in ts g))
goal_small ts goal.Ty s h = tt
goal_small ts (goal.Tm A) s h = (s A h, tt)
goal_small ts (goal.EqTy A B) s h = (s A h.0, (s B h.1, tt))
goal_small ts (goal.EqTm l r A) s h = (s l h.0, (s r h.1, (s A h.2, tt)))

-- the loop: those found and those to come are all
pub record Bounding (s t : State) (n i : ℕ) (list : List ℕ) : Type 0 where
  pub stays : Stays s t
  pub below : AllBelow (length t.trees) list
  pub done : map (tree t.trees) list ++ bound_list (n - i) ≡ bound_list n

pub bounding_start : (s : State) (n : ℕ) → Bounding s s n 0 []
bounding_start s n = let e : n - 0 ≡ n = omega arith in record { stays = stays_same s s refl; below = tt; done = ap bound_list e }

pub bounding_more : (s t u : State) (n i j e : ℕ) (list next : List ℕ) → Bounding s t n i list → i < n → j ≡ n - 1 - i → Stays t u → e < length u.trees → tree u.trees e ≡ bound j → next ≡ list ++ e ∷ [] → Bounding s u n (suc i) next
bounding_more s t u n i j e list next p l w x b q same = subst (Bounding s u n (suc i)) (sym same) (record {
  stays = stays_then s t u p.stays x;
  below = all_push (length u.trees) list e (all_below_extends t.trees u.trees list x.1 p.below) b;
  done =
      ap (λ z. z ++ bound_list (n - suc i)) (map-append (tree u.trees) list (e ∷ []) ∙ ap₂ (λ ys y. ys ++ y ∷ []) (trees_extend t.trees u.trees list x.1 p.below) q)
      ∙ append_assoc (map (tree t.trees) list) (bound j ∷ []) (bound_list (n - suc i))
      ∙ ap (λ k. map (tree t.trees) list ++ bound j ∷ bound_list k) here
      ∙ ap (λ k. map (tree t.trees) list ++ bound_list k) (sym there)
      ∙ p.done;
})
  where
    here : n - suc i ≡ j
    here = omega (arith, w, l)

    there : n - i ≡ suc j
    there = omega (arith, w, l)

bounds_listed : (n : ℕ) → terms_of (bound_list n) ≡ bounds n
bounds_listed zero = refl
bounds_listed (suc n) = ap (also (bound n)) (bounds_listed n)

pub bounding_end : (s t : State) (n i : ℕ) (list : List ℕ) → Bounding s t n i list → n ≤ i → terms_in t.trees list ≡ bounds n
bounding_end s t n i list p l =
    let e : 0 ≡ n - i = omega (arith, l) in
    terms_listed t.trees list
    ∙ ap terms_of (sym (append-nil (map (tree t.trees) list)) ∙ ap (λ k. map (tree t.trees) list ++ bound_list k) e ∙ p.done)
    ∙ bounds_listed n

-- What is formed.

fill_under : (ts : List Expression) (ds : List ℕ) (c : Claim) (h : Expression) → fill (under ts ds (plain c)) h ≡ under ts ds (plain (fill_goal c h))
fill_under ts [] c h = refl
fill_under ts (d ∷ ds) c h = ap (abstracted (tree ts d)) (fill_under ts ds c h)

-- the metavariable of a boundary at its bound variables
abbrev pub generic_head : ℕ → Statement → Expression
generic_head m D = meta m (bounds (domain_count D))

counted : (s : List Expression) (b : Boundary) (m : ℕ) → generic_head m (boundary_in s b) ≡ meta m (bounds (length b.domains))
counted s b m = ap (λ n. meta m (bounds n)) (count_under s b.domains (goal_in s b.goal))

pub generic_is : (s t v : List Expression) (b : Boundary) (m : ℕ) (es : List ℕ) (f : Form) (D : Statement) → Extends s t → Extends t v → BoundaryBelow (length s) b → AllBelow (length v) b.domains → boundary_in s b ≡ D → terms_in t es ≡ bounds (length b.domains)
    → claim_in v f ≡ filled_at t b.goal m es → under v b.domains (plain (claim_in v f)) ≡ fill D (generic_head m D)
generic_is s t v b m es f D x y l k e q same =
    ap (λ c. under v b.domains (plain c)) (same ∙ ap (λ a. fill_goal (goal_in t b.goal) (meta m a)) q)
    ∙ under_extends t v b.domains (plain (fill_goal (goal_in t b.goal) (meta m (bounds (length b.domains))))) y (Rattle.ft_judge.specs.Laws.boundary_below_extends s t b x l).0
    ∙ sym (fill_under t b.domains (goal_in t b.goal) (meta m (bounds (length b.domains))))
    ∙ ap₂ fill (boundary_extends s t b x l ∙ e) (sym (counted s b m) ∙ ap (generic_head m) e)

head_small : (c : Claim) (e : Expression) → is_object_goal c ≡ true → AllSmall (claim_expressions (fill_goal c e)) → IsSmall e
head_small type_goal e o h = h.0
head_small (term_goal A) e o h = h.0
head_small (is_type A) e o h = true_false (sym o)
head_small (has_type t A) e o h = true_false (sym o)
head_small (equal_types A B) e o h = true_false (sym o)
head_small (equal_terms s t A) e o h = true_false (sym o)
head_small (type_equation_goal A B) e o h = true_false (sym o)
head_small (term_equation_goal s t A) e o h = true_false (sym o)

filled_small : (c : Claim) (e : Expression) → AllSmall (claim_expressions c) → (is_object_goal c ≡ true → IsSmall e) → AllSmall (claim_expressions (fill_goal c e))
filled_small type_goal e h i = (i refl, tt)
filled_small (term_goal A) e h i = (i refl, h)
filled_small (type_equation_goal A B) e h i = h
filled_small (term_equation_goal s t A) e h i = h
filled_small (is_type A) e h i = h
filled_small (has_type t A) e h i = h
filled_small (equal_types A B) e h i = h
filled_small (equal_terms s t A) e h i = h

-- whether the application is formed
application_passes : (o : Bool) (e : Expression) → (o ≡ true → IsSmall e) → first_refusal (forms_application o e) ≡ None
application_passes true e h = if_true None (Some reference.TooBig) (is_small e) (small_true e (h refl))
application_passes false e h = refl

application_big : (o : Bool) (e : Expression) → ((o ≡ true → IsSmall e) → ⊥) → first_refusal (forms_application o e) ≡ Some reference.TooBig
application_big true e h = by_test (is_small e) (λ y. absurd (h (λ o. true_small e y))) (λ n. if_false None (Some reference.TooBig) (is_small e) n)
application_big false e h = absurd (h (λ o. true_false (sym o)))

-- the head of the goal, and whether there is one
the_object : (s t : List Expression) (b : Boundary) (D : Statement) → Extends s t → BoundaryBelow (length s) b → boundary_in s b ≡ D → is_object D ≡ is_object_goal (goal_in t b.goal)
the_object s t b D x l e = ap is_object (sym e ∙ sym (boundary_extends s t b x l)) ∙ object_under t b.domains (goal_in t b.goal)

the_head : (s t : List Expression) (b : Boundary) (m : ℕ) (es : List ℕ) (D : Statement) → boundary_in s b ≡ D → terms_in t es ≡ bounds (length b.domains) → meta m (terms_in t es) ≡ generic_head m D
the_head s t b m es D e q = ap (meta m) q ∙ sym (counted s b m) ∙ ap (generic_head m) e

pub generic_passes : (s t : List Expression) (b : Boundary) (m : ℕ) (es : List ℕ) (D : Statement) → Extends s t → BoundaryBelow (length s) b → boundary_in s b ≡ D → terms_in t es ≡ bounds (length b.domains) → AllSmall (claim_expressions (filled_at t b.goal m es))
    → first_refusal (forms_application (is_object D) (generic_head m D)) ≡ None
generic_passes s t b m es D x l e q small =
    application_passes (is_object D) (generic_head m D)
    (λ o. subst IsSmall (the_head s t b m es D e q) (head_small (goal_in t b.goal) (meta m (terms_in t es)) (sym (the_object s t b D x l e) ∙ o) small))

pub generic_big : (s t : List Expression) (vs : List Expression) (b : Boundary) (m : ℕ) (es : List ℕ) (D : Statement) (f : SynFault) → Extends s t → BoundaryBelow (length s) b → boundary_in s b ≡ D → terms_in t es ≡ bounds (length b.domains)
    → AllSmall (claim_expressions (goal_in t b.goal)) → BigOr (AllSmall (claim_expressions (filled_at t b.goal m es))) f → Stops vs (forms_application (is_object D) (generic_head m D)) (faults.refused f)
generic_big s t vs b m es D syntax.TooBig x l e q small n = (
  application_big (is_object D) (generic_head m D)
      (λ h. n (filled_small (goal_in t b.goal) (meta m (terms_in t es)) small (λ o. subst IsSmall (sym (the_head s t b m es D e q)) (h (the_object s t b D x l e ∙ o))))),
  tt,
)
generic_big s t vs b m es D syntax.Memory x l e q small n = tt
