-- Metavariables at terms, and at equal terms.
use Rattle.std.proofs.Common.{◌≡◌, ◌∙◌, ℕ, true, false, ◌&&◌, Some, None, List, [], ◌∷◌, ◌++◌, length, map, refl, sym, ap, ap₂, subst}
use Rattle.std.specs.Prelude.{Ok}
use Rattle.std.proofs.lemmas.List.{length-map}
use Rattle.ft_common.proofs.Booleans.{true_false}
use Rattle.ft_common.proofs.Choices.{if_true}
use Rattle.ft_theory.specs.Expressions.{Expression, meta}
use Rattle.ft_theory.specs.Statements.{Claim, is_type, has_type, equal_types, equal_terms, type_goal, term_goal, type_equation_goal, term_equation_goal, Statement, plain, at, fill_goal, fill, equate_goal, equate}
use Rattle.ft_items.specs.Equal.{terms, left_terms, right_terms, is_object_goal, is_object}
use Rattle.ft_items.specs.Rows.{when, applied_meta, meta_congruence}
use Rattle.ft_reference.specs.Refusals.{AllSmall, claim_expressions, expressions, first_refusal, forms_result}
use Rattle.ft_reference.specs.Refusals as reference
use Rattle.ft_reference.specs.Checks.{meta_checks, meta_congruence_checks}
use Rattle.ft_nucleus_laws.proofs.Lists.{passed}
use Rattle.ft_nucleus_laws.proofs.Tests.{terms_asked, pairs_asked}
use Rattle.ft_syntax.specs.Table.{tree, terms_in, Extends, AllBelow}
use Rattle.ft_syntax.specs.Laws.{trees_extend}
use Rattle.ft_syntax.specs.declared.syntax.SynFault.{SynFault}
use Rattle.ft_judge.specs.Faults as faults
use Rattle.ft_judge.specs.Meaning.{claim_in, goal_in, under, boundary_in, BoundaryBelow}
use Rattle.ft_judge.specs.Laws.{boundary_extends}
use Rattle.ft_judge.specs.declared.judgement.Boundary.{Boundary}
use Rattle.ft_judge.specs.declared.judgement.Form.{Form}
use Rattle.ft_judge.specs.declared.judgement.Goal.{Goal}
use Rattle.ft_judge.specs.declared.fault.Fault.{Fault}
use Rattle.ft_judge.specs.declared.fault.Fault.TheVariants.{Refused}
use Rattle.ft_calls.specs.Forming.{plain_in}
use Rattle.ft_calls.proofs.Later.{forms_pass}
use Rattle.ft_metas.specs.Outcomes.{BigOr, Stops, Formed}
use Rattle.ft_metas.specs.Putting.{terms_of, goal_with, claim_with, filled_at, equated_at}
use Rattle.ft_metas.specs.Operands.{operands_of, all_checks}
use Rattle.ft_metas.specs.declared.operands.Given.{Given}
use Rattle.ft_metas.specs.declared.operands.Given.TheVariants as given
use Rattle.ft_metas.proofs.Asking.{both_pass, stops_first, big_last}
use Rattle.ft_metas.proofs.At.{goal_is, terms_listed}

pub terms_extend : (ts us : List Expression) (es : List ℕ) → Extends ts us → AllBelow (length ts) es → terms_in us es ≡ terms_in ts es
terms_extend ts us es x b = terms_listed us es ∙ ap terms_of (trees_extend ts us es x b) ∙ sym (terms_listed ts es)

-- the boundary with all that is given
at_is : (s t : List Expression) (g : Given) (b : Boundary) (es : List ℕ) (xs : List Statement) → Extends s t → BoundaryBelow (length s) b → length es ≡ length b.domains → terms_in t es ≡ operands_of g xs
    → at (boundary_in s b) (operands_of g xs) ≡ plain (goal_with t es (goal_in t b.goal))
at_is s t g b es xs x l n e =
    ap₂ at (sym (boundary_extends s t b x l)) (sym e ∙ terms_listed t es)
    ∙ goal_is t b.domains (goal_in t b.goal) (map (tree t) es) (length-map es (tree t) ∙ n)

-- At terms.

abbrev pub applied_at : ℕ → Statement → List Statement → Statement
applied_at m b xs = fill (at b (terms xs)) (meta m (terms xs))

applied_row : (m : ℕ) (b : Statement) (xs : List Statement) → first_refusal (all_checks given.Terms b xs) ≡ None → applied_meta m b xs ≡ Some (applied_at m b xs)
applied_row m b xs h = ap (λ y. when y (applied_at m b xs)) (sym (terms_asked b xs) ∙ (passed (all_checks given.Terms b xs) h).0)

pub applied_misfit : (ts : List Expression) (m : ℕ) (b : Statement) (xs : List Statement) (f : Fault) → Stops ts (all_checks given.Terms b xs) f → Stops ts (meta_checks m b xs) f
applied_misfit ts m b xs f h = stops_first ts (all_checks given.Terms b xs) (forms_result (applied_meta m b xs)) f h

pub applied_big : (ts : List Expression) (m : ℕ) (b : Statement) (xs : List Statement) (P : Type 0) (f : SynFault) → first_refusal (all_checks given.Terms b xs) ≡ None → (AllSmall (expressions (applied_at m b xs)) → P) → BigOr P f
    → Stops ts (meta_checks m b xs) (faults.refused f)
applied_big ts m b xs P f h k n =
    big_last ts (all_checks given.Terms b xs) (forms_result (applied_meta m b xs)) (expressions (applied_at m b xs)) P f h (ap (λ o. first_refusal (forms_result o)) (applied_row m b xs h)) k n

pub applied_formed : (ts : List Expression) (m : ℕ) (b : Statement) (xs : List Statement) (f : Form) (c : Claim) → first_refusal (all_checks given.Terms b xs) ≡ None → plain c ≡ applied_at m b xs → claim_in ts f ≡ c → AllSmall (claim_expressions c)
    → Formed (plain_in ts) ts (meta_checks m b xs) (applied_meta m b xs) (Ok f)
applied_formed ts m b xs f c h e same small = (
  both_pass (all_checks given.Terms b xs) (forms_result (applied_meta m b xs)) h
      ∙ ap (λ o. first_refusal (forms_result o)) (applied_row m b xs h)
      ∙ forms_pass (expressions (applied_at m b xs)) (subst (λ x. AllSmall (expressions x)) e small),
  applied_row m b xs h ∙ ap Some (sym (ap plain same ∙ e)),
)

-- the goal that is filled is the boundary at the terms, filled
pub filled_is : (s t u : List Expression) (b : Boundary) (m : ℕ) (es : List ℕ) (g : Goal) (xs : List Statement) → Extends s t → Extends t u → BoundaryBelow (length s) b → AllBelow (length t) es → length es ≡ length b.domains
    → terms_in t es ≡ terms xs → goal_in u g ≡ goal_with t es (goal_in t b.goal) → plain (filled_at u g m es) ≡ applied_at m (boundary_in s b) xs
filled_is s t u b m es g xs x y l k n e q =
    ap₂ (λ c a. plain (fill_goal c (meta m a))) q (terms_extend t u es y k ∙ e)
    ∙ ap (λ z. fill z (meta m (terms xs))) (sym (at_is s t given.Terms b es xs x l n e))

-- a goal is small where what fills it is
fill_small : (c : Claim) (e : Expression) → AllSmall (claim_expressions (fill_goal c e)) → AllSmall (claim_expressions c)
fill_small (is_type A) e h = h
fill_small (has_type t A) e h = h
fill_small (equal_types A B) e h = h
fill_small (equal_terms s t A) e h = h
fill_small type_goal e h = tt
fill_small (term_goal A) e h = h.1
fill_small (type_equation_goal A B) e h = h
fill_small (term_equation_goal s t A) e h = h

pub applied_goal_small : (s t : List Expression) (b : Boundary) (m : ℕ) (es : List ℕ) (xs : List Statement) → Extends s t → BoundaryBelow (length s) b → length es ≡ length b.domains → terms_in t es ≡ terms xs
    → AllSmall (expressions (applied_at m (boundary_in s b) xs)) → AllSmall (claim_expressions (goal_with t es (goal_in t b.goal)))
applied_goal_small s t b m es xs x l n e h =
    fill_small (goal_with t es (goal_in t b.goal)) (meta m (terms xs)) (subst (λ z. AllSmall (expressions (fill z (meta m (terms xs))))) (at_is s t given.Terms b es xs x l n e) h)

-- At equal terms.

abbrev pub equated_at_sides : ℕ → Statement → List Statement → Statement
equated_at_sides m b es = equate (at b (left_terms es)) (meta m (left_terms es)) (meta m (right_terms es))

-- the boundary of a type or a term is one below its domains
pub object_under : (ts : List Expression) (ds : List ℕ) (c : Claim) → is_object (under ts ds (plain c)) ≡ is_object_goal c
object_under ts [] c = refl
object_under ts (d ∷ ds) c = object_under ts ds c

pub object_with : (Ts : List Expression) (c : Claim) → is_object_goal (claim_with Ts c) ≡ is_object_goal c
object_with Ts (is_type A) = refl
object_with Ts (has_type t A) = refl
object_with Ts (equal_types A B) = refl
object_with Ts (equal_terms s t A) = refl
object_with Ts type_goal = refl
object_with Ts (term_goal A) = refl
object_with Ts (type_equation_goal A B) = refl
object_with Ts (term_equation_goal s t A) = refl

-- the checks where there is an object boundary
congruence_checked : (m : ℕ) (b : Statement) (xs : List Statement) → is_object b ≡ true → first_refusal (meta_congruence_checks m b xs) ≡ first_refusal (all_checks given.Equations b xs ++ forms_result (meta_congruence m b xs))
congruence_checked m b xs o = if_true (first_refusal (all_checks given.Equations b xs ++ forms_result (meta_congruence m b xs))) (Some reference.WrongForm) (is_object b) o

pub congruence_other : (ts : List Expression) (m : ℕ) (b : Statement) (xs : List Statement) → is_object b ≡ false → Stops ts (meta_congruence_checks m b xs) (Refused Rattle.ft_judge.specs.declared.fault.Refusal.TheVariants.WrongForm)
congruence_other ts m b xs o = (Rattle.ft_common.proofs.Choices.if_false (first_refusal (all_checks given.Equations b xs ++ forms_result (meta_congruence m b xs))) (Some reference.WrongForm) (is_object b) o, tt)

congruence_row : (m : ℕ) (b : Statement) (xs : List Statement) → is_object b ≡ true → first_refusal (all_checks given.Equations b xs) ≡ None → meta_congruence m b xs ≡ Some (equated_at_sides m b xs)
congruence_row m b xs o h = ap₂ (λ x y. when (x && y) (equated_at_sides m b xs)) o (sym (pairs_asked b xs) ∙ (passed (all_checks given.Equations b xs) h).0)

pub congruence_misfit : (ts : List Expression) (m : ℕ) (b : Statement) (xs : List Statement) (f : Fault) → is_object b ≡ true → Stops ts (all_checks given.Equations b xs) f → Stops ts (meta_congruence_checks m b xs) f
congruence_misfit ts m b xs f o h =
    Rattle.ft_metas.proofs.Asking.stops_as ts (meta_congruence_checks m b xs) (all_checks given.Equations b xs ++ forms_result (meta_congruence m b xs)) f (congruence_checked m b xs o)
    (stops_first ts (all_checks given.Equations b xs) (forms_result (meta_congruence m b xs)) f h)

pub congruence_big : (ts : List Expression) (m : ℕ) (b : Statement) (xs : List Statement) (P : Type 0) (f : SynFault) → is_object b ≡ true → first_refusal (all_checks given.Equations b xs) ≡ None → (AllSmall (expressions (equated_at_sides m b xs)) → P) → BigOr P f
    → Stops ts (meta_congruence_checks m b xs) (faults.refused f)
congruence_big ts m b xs P f o h k n =
    Rattle.ft_metas.proofs.Asking.stops_as ts (meta_congruence_checks m b xs) (all_checks given.Equations b xs ++ forms_result (meta_congruence m b xs)) (faults.refused f) (congruence_checked m b xs o)
    (big_last ts (all_checks given.Equations b xs) (forms_result (meta_congruence m b xs)) (expressions (equated_at_sides m b xs)) P f h (ap (λ o. first_refusal (forms_result o)) (congruence_row m b xs o h)) k n)

pub congruence_formed : (ts : List Expression) (m : ℕ) (b : Statement) (xs : List Statement) (f : Form) (c : Claim) → is_object b ≡ true → first_refusal (all_checks given.Equations b xs) ≡ None → plain c ≡ equated_at_sides m b xs → claim_in ts f ≡ c → AllSmall (claim_expressions c)
    → Formed (plain_in ts) ts (meta_congruence_checks m b xs) (meta_congruence m b xs) (Ok f)
congruence_formed ts m b xs f c o h e same small = (
  congruence_checked m b xs o
      ∙ both_pass (all_checks given.Equations b xs) (forms_result (meta_congruence m b xs)) h
      ∙ ap (λ o. first_refusal (forms_result o)) (congruence_row m b xs o h)
      ∙ forms_pass (expressions (equated_at_sides m b xs)) (subst (λ x. AllSmall (expressions x)) e small),
  congruence_row m b xs o h ∙ ap Some (sym (ap plain same ∙ e)),
)

pub equated_is : (s t u : List Expression) (b : Boundary) (m : ℕ) (es fs : List ℕ) (g : Goal) (xs : List Statement) → Extends s t → Extends t u → BoundaryBelow (length s) b → AllBelow (length t) es → AllBelow (length t) fs → length es ≡ length b.domains
    → terms_in t es ≡ left_terms xs → terms_in t fs ≡ right_terms xs → goal_in u g ≡ goal_with t es (goal_in t b.goal) → plain (equated_at u g m es fs) ≡ equated_at_sides m (boundary_in s b) xs
equated_is s t u b m es fs g xs x y l k i n e r q =
    ap₂ (λ c a. plain (equate_goal c (meta m a) (meta m (terms_in u fs)))) q (terms_extend t u es y k ∙ e)
    ∙ ap₂ (λ z a. equate z (meta m (left_terms xs)) (meta m a)) (sym (at_is s t given.Equations b es xs x l n e)) (terms_extend t u fs y i ∙ r)

equate_small : (c : Claim) (e f : Expression) → is_object_goal c ≡ true → AllSmall (claim_expressions (equate_goal c e f)) → AllSmall (claim_expressions c)
equate_small type_goal e f o h = tt
equate_small (term_goal A) e f o h = (h.1.1.0, tt)
equate_small (is_type A) e f o h = true_false (sym o)
equate_small (has_type t A) e f o h = true_false (sym o)
equate_small (equal_types A B) e f o h = true_false (sym o)
equate_small (equal_terms s t A) e f o h = true_false (sym o)
equate_small (type_equation_goal A B) e f o h = true_false (sym o)
equate_small (term_equation_goal s t A) e f o h = true_false (sym o)

pub equated_goal_small : (s t : List Expression) (b : Boundary) (m : ℕ) (es : List ℕ) (xs : List Statement) → Extends s t → BoundaryBelow (length s) b → length es ≡ length b.domains → terms_in t es ≡ left_terms xs → is_object_goal (goal_in t b.goal) ≡ true
    → AllSmall (expressions (equated_at_sides m (boundary_in s b) xs)) → AllSmall (claim_expressions (goal_with t es (goal_in t b.goal)))
equated_goal_small s t b m es xs x l n e o h =
    equate_small (goal_with t es (goal_in t b.goal)) (meta m (left_terms xs)) (meta m (right_terms xs)) (object_with (map (tree t) es) (goal_in t b.goal) ∙ o)
    (subst (λ z. AllSmall (expressions (equate z (meta m (left_terms xs)) (meta m (right_terms xs))))) (at_is s t given.Equations b es xs x l n e) h)
