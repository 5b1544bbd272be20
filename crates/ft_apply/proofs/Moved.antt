-- An argument that is moved between arguments and the right sides of equations.
use Rattle.std.proofs.Common.{◌≡◌, ◌∙◌, ℕ, zero, suc, ◌<◌, ◌≤◌, Bool, true, false, cond, not, ◌&&◌, Option, Some, None, List, [], ◌∷◌, ◌++◌, length, take, refl, sym, ap, ap₂, subst, arith, append_assoc}
use Rattle.std.specs.Prelude.{Result, Ok, Err, IfOk, nat_lt}
use Rattle.std.specs.List.{zip}
use Rattle.std.proofs.lemmas.Bool.{and_from, lt-ltb, le-ltb, ltb-true}
use Rattle.ft_common.proofs.Booleans.{false_true, true_false}
use Rattle.ft_theory.specs.Expressions.{Expression, free, Arguments}
use Rattle.ft_theory.specs.Statements.{Claim, is_type, has_type, equal_types, equal_terms, type_goal, term_goal, type_equation_goal, term_equation_goal, Statement, plain, abstracted, map_statement, act_statement, boundary_of_claim, boundary_of, fill}
use Rattle.ft_theory.specs.Rules.{Rule, instance_of}
use Rattle.ft_items.specs.Sets.{Atom, union, unions}
use Rattle.ft_items.specs.Item.{Item, by_convprem, by_convback}
use Rattle.ft_items.specs.Equal.{is_thesis_claim, is_thesis, is_object_goal, is_object, has_head_claim, has_head, head, heads, right_heads, start_all, fits}
use Rattle.ft_items.specs.Equal as items
use Rattle.ft_items.specs.Store.{Assertion, Resolved, each, entry_named, resolve, rules_in, with_four}
use Rattle.ft_items.specs.Good.{Good, of_kind}
use Rattle.ft_items.specs.Rows.{when, sets, are_arguments, first_premises, boundary_after, moved}
use Rattle.ft_reference.specs.Refusals.{first_refusal, AllSmall, expressions, forms_statement}
use Rattle.ft_reference.specs.Refusals as reference
use Rattle.ft_reference.specs.Compare.{same_form, is_alike, domain_checks, fit_checks}
use Rattle.ft_reference.specs.Checks.{first_argument_checks, all_equation_checks, equal_argument_checks, moved_checks}
use Rattle.ft_nucleus_laws.proofs.Lists.{passed}
use Rattle.ft_nucleus_laws.proofs.Tests.{Theses, fit_asked}
use Rattle.ft_syntax.specs.Table.{Extends, BodyBelow, arguments_in}
use Rattle.ft_syntax.specs.Instances.{instance_in, PairsBelow}
use Rattle.ft_syntax.specs.Laws.{instance_extends}
use Rattle.ft_syntax.specs.declared.syntax.Arg.{Arg}
use Rattle.ft_syntax.specs.declared.syntax.SynFault.{SynFault}
use Rattle.ft_syntax.specs.declared.syntax.SynFault.TheVariants as syntax
use Rattle.ft_judge.specs.Faults as faults
use Rattle.ft_judge.specs.Laws.{boundary_extends}
use Rattle.ft_judge.specs.Meaning.{claim_in, goal_in, under, thesis_in, boundary_in, FormBelow, GoalBelow, ThesisBelow, BoundaryBelow, head_of_form, head_in, IsHeadFor, filled_form, filled}
use Rattle.ft_judge.specs.declared.judgement.Form.{Form}
use Rattle.ft_judge.specs.declared.judgement.Form.TheVariants.{Ty, Tm, EqTy, EqTm}
use Rattle.ft_judge.specs.declared.judgement.Goal.{Goal}
use Rattle.ft_judge.specs.declared.judgement.Goal.TheVariants as goal
use Rattle.ft_judge.specs.declared.judgement.Thesis.{Thesis}
use Rattle.ft_judge.specs.declared.judgement.Boundary.{Boundary}
use Rattle.ft_judge.specs.declared.fault.Refusal.TheVariants.{ArgumentCount, TooBig}
use Rattle.ft_judge.specs.declared.fault.Fault.{Fault}
use Rattle.ft_judge.specs.declared.fault.Fault.TheVariants.{Refused, Memory}
use Rattle.ft_kernel.specs.State.{State, IsThesisOf}
use Rattle.ft_calls.specs.Answers.{IsAnswer, Answers, Stays}
use Rattle.ft_calls.specs.Forming.{Gives, Refuses}
use Rattle.ft_calls.proofs.Answering.{store, entry_in, rests}
use Rattle.ft_calls.proofs.Later.{forms_pass, forms_fail}
use Rattle.ft_apply.specs.Named.{entry_of, entries_of, statements_of, premises_in, AreThesesOf, rule_of}
use Rattle.ft_apply.specs.Named as named
use Rattle.ft_apply.specs.Outcomes.{BigOr, Stops, Asks, Formed, one_argument_checks, given_checks, moved_between}
use Rattle.ft_apply.specs.Instances.{boundary_at}
use Rattle.ft_apply.specs.Equations.{side_of, side_instance, conversion_step, conversion_checks_in, conversion_in}
use Rattle.ft_apply.proofs.Naming.{entry_found, theses_are, theses_of, each_named, as_many}
use Rattle.ft_apply.proofs.Pairing.{instance_is}
use Rattle.ft_apply.proofs.RuleLines.{IsRuleOf, rule_resolved}
use Rattle.ft_apply.proofs.Asking.{both_pass, refused_first, refused_later}
use Rattle.ft_apply.proofs.Instancing.{first_is, premises_many, length_taken, given_fit, next_is}
use Rattle.ft_apply.proofs.Fitted.{theses_stay}
use Rattle.ft_apply.proofs.Calls.{formed_answered, formed_fault}
use Rattle.ft_apply.proofs.Congruences.{test_passes, parts_pass, object_at, starts_all, theses_after}

-- what a number of a thesis names is one
thesis_is : (s : State) (j : ℕ) → IsThesisOf s j → is_thesis (entry_of s.items j).statement ≡ true
thesis_is s j h = (theses_are s (j ∷ []) (h, tt)).0

-- a thesis stays one
pub thesis_stays : (s t : State) (j : ℕ) → t.items ≡ s.items → IsThesisOf s j → IsThesisOf t j
thesis_stays s t j e h = (theses_stay s t (j ∷ []) e (h, tt)).0

-- A boundary at an instance, while the table goes on.
pub at_later : (ts us : List Expression) (ps : List (ℕ × Arg)) (b : Boundary) → Extends ts us → PairsBelow (length ts) ps → BoundaryBelow (length ts) b → boundary_at us ps (boundary_in us b) ≡ boundary_at ts ps (boundary_in ts b)
at_later ts us ps b x h l = ap₂ (λ i z. act_statement free i z) (instance_extends ts us ps x h) (boundary_extends ts us b x l)

-- A thesis that fits has a head for the boundary.
object_under : (ts : List Expression) (ds : List ℕ) (c : Claim) → is_object (under ts ds (plain c)) ≡ is_object_goal c
object_under ts [] c = refl
object_under ts (d ∷ ds) c = object_under ts ds c

head_kind : (ts : List Expression) (ds : List ℕ) (c : Claim) → has_head (under ts ds (plain c)) ≡ has_head_claim c
head_kind ts [] c = refl
head_kind ts (d ∷ ds) c = head_kind ts ds c

head_through : (ts : List Expression) (ds : List ℕ) (c : Claim) → head (under ts ds (plain c)) ≡ items.head_of_claim c
head_through ts [] c = refl
head_through ts (d ∷ ds) c = head_through ts ds c

object_statement : (f : ℕ → Expression → Expression) (k : ℕ) (x : Statement) → is_object (map_statement f k x) ≡ is_object x
object_statement f k (plain c) = object_at (f k) c
object_statement f k (abstracted A x) = object_statement f (suc k) x

alike_claim : (c d : Claim) → is_thesis_claim c ≡ true → same_form (boundary_of_claim c) d ≡ true → has_head_claim c ≡ is_object_goal d
alike_claim (is_type A) type_goal t h = refl
alike_claim (is_type A) d t h = false_true h
alike_claim (has_type s A) (term_goal B) t h = refl
alike_claim (has_type s A) d t h = false_true h
alike_claim (equal_types A B) (type_equation_goal C D) t h = refl
alike_claim (equal_types A B) d t h = false_true h
alike_claim (equal_terms s u A) (term_equation_goal v w B) t h = refl
alike_claim (equal_terms s u A) d t h = false_true h
alike_claim c d t h = false_true t

alike_kind : (y b : Statement) → is_thesis y ≡ true → is_alike (boundary_of y) b ≡ true → has_head y ≡ is_object b
alike_kind (plain c) (plain d) t h = alike_claim c d t h
alike_kind (plain c) (abstracted B b) t h = false_true h
alike_kind (abstracted A y) (plain d) t h = false_true h
alike_kind (abstracted A y) (abstracted B b) t h = alike_kind y b t h

head_for : (ts : List Expression) (f : Form) (g : Goal) → is_object_goal (goal_in ts g) ≡ has_head_claim (claim_in ts f) → IsHeadFor g (head_of_form f)
head_for ts (Ty A) goal.Ty h = tt
head_for ts (Ty A) (goal.Tm B) h = tt
head_for ts (Tm t A) goal.Ty h = tt
head_for ts (Tm t A) (goal.Tm B) h = tt
head_for ts (EqTy A B) (goal.EqTy C D) h = tt
head_for ts (EqTy A B) (goal.EqTm u v C) h = tt
head_for ts (EqTm s t A) (goal.EqTy C D) h = tt
head_for ts (EqTm s t A) (goal.EqTm u v B) h = tt
head_for ts (EqTy A B) goal.Ty h = true_false h
head_for ts (EqTy A B) (goal.Tm C) h = true_false h
head_for ts (EqTm s t A) goal.Ty h = true_false h
head_for ts (EqTm s t A) (goal.Tm B) h = true_false h
head_for ts (Ty A) (goal.EqTy C D) h = false_true h
head_for ts (Ty A) (goal.EqTm u v B) h = false_true h
head_for ts (Tm t A) (goal.EqTy C D) h = false_true h
head_for ts (Tm t A) (goal.EqTm u v B) h = false_true h

-- the comparison says that the forms are alike
fits_alike : (y b : Statement) → first_refusal (one_argument_checks b y) ≡ None → is_alike (boundary_of y) b ≡ true
fits_alike y b h =
    (test_passes (is_alike (boundary_of y) b) (first_refusal (domain_checks zero (boundary_of y) b)) reference.WrongForm (parts_pass (forms_statement b) (fit_checks y b) h).1).0

pub moved_head : (s : State) (us : List Expression) (ps qs : List (ℕ × Arg)) (n : Boundary) (x : Thesis) (b : Boundary) (j : ℕ) → IsThesisOf s j
    → first_refusal (one_argument_checks (boundary_at s.trees ps (boundary_in s.trees n)) (entry_of s.items j).statement) ≡ None → thesis_in us x ≡ (entry_of s.items j).statement
    → boundary_in us b ≡ boundary_at s.trees qs (boundary_in s.trees n) → IsHeadFor b.goal (head_of_form x.form)
moved_head s us ps qs n x b j t h e k =
    head_for us x.form b.goal
    (sym (object_under us b.domains (goal_in us b.goal))
    ∙ ap is_object k
    ∙ object_statement (λ l. Rattle.ft_theory.specs.Expressions.act free (instance_in s.trees qs)) zero (boundary_in s.trees n)
    ∙ sym (object_statement (λ l. Rattle.ft_theory.specs.Expressions.act free (instance_in s.trees ps)) zero (boundary_in s.trees n))
    ∙ sym (alike_kind Y B (thesis_is s j t) (fits_alike Y B h))
    ∙ ap has_head (sym e)
    ∙ head_kind us x.domains (claim_in us x.form))
  where
    Y : Statement
    Y = (entry_of s.items j).statement

    B : Statement
    B = boundary_at s.trees ps (boundary_in s.trees n)

-- the head that is filled in
head_read : (ts : List Expression) (f : Form) → head_in ts (head_of_form f) ≡ items.head_of_claim (claim_in ts f)
head_read ts (Ty A) = refl
head_read ts (Tm t A) = refl
head_read ts (EqTy A B) = refl
head_read ts (EqTm s t A) = refl

pub head_filled : (ts : List Expression) (x : Thesis) (Y : Statement) → thesis_in ts x ≡ Y → head_in ts (head_of_form x.form) ≡ head Y
head_filled ts x Y e = head_read ts x.form ∙ sym (head_through ts x.domains (claim_in ts x.form)) ∙ ap head e

filled_form_below : (n : ℕ) (g : Goal) (h : Option ℕ) → GoalBelow n g → BodyBelow n h → IsHeadFor g h → FormBelow n (filled_form g h)
filled_form_below n goal.Ty (Some e) k l m = l
filled_form_below n goal.Ty None k l m = absurd m
filled_form_below n (goal.Tm A) (Some e) k l m = (l, k)
filled_form_below n (goal.Tm A) None k l m = absurd m
filled_form_below n (goal.EqTy A B) h k l m = k
filled_form_below n (goal.EqTm s t A) h k l m = k

form_head_below : (n : ℕ) (f : Form) → FormBelow n f → BodyBelow n (head_of_form f)
form_head_below n (Ty A) h = h
form_head_below n (Tm t A) h = h.0
form_head_below n (EqTy A B) h = tt
form_head_below n (EqTm s t A) h = tt

pub filled_below : (n : ℕ) (b : Boundary) (x : Thesis) → BoundaryBelow n b → ThesisBelow n x → IsHeadFor b.goal (head_of_form x.form) → ThesisBelow n (filled b (head_of_form x.form))
filled_below n b x k l m = (k.0, filled_form_below n b.goal (head_of_form x.form) k.1 (form_head_below n x.form l.1) m)

-- The checks of what is moved, in order.
one_first : (b c y : Statement) → one_argument_checks b y ++ forms_statement c ≡ moved_between b c y
one_first b c y = append_assoc (forms_statement b) (fit_checks y b) (forms_statement c)

pub moved_misfit : (ts : List Expression) (b c y : Statement) (f : Fault) → Stops ts (one_argument_checks b y) f → Stops ts (moved_between b c y) f
moved_misfit ts b c y (Refused q) h = subst (λ cs. Refuses ts cs q) (one_first b c y) (refused_first ts (one_argument_checks b y) (forms_statement c) q h)
moved_misfit ts b c y Memory h = tt

pub moved_big : (ts : List Expression) (b c y : Statement) (f : SynFault) → first_refusal (one_argument_checks b y) ≡ None → BigOr (AllSmall (expressions c)) f → Stops ts (moved_between b c y) (faults.refused f)
moved_big ts b c y syntax.TooBig h n =
    subst (λ cs. Refuses ts cs TooBig) (one_first b c y) (refused_later ts (one_argument_checks b y) (forms_statement c) TooBig h (forms_fail (expressions c) n, tt))
moved_big ts b c y syntax.Memory h n = tt

pub moved_passed : (b c y : Statement) → first_refusal (one_argument_checks b y) ≡ None → AllSmall (expressions c) → first_refusal (moved_between b c y) ≡ None
moved_passed b c y h k = ap first_refusal (sym (one_first b c y)) ∙ both_pass (one_argument_checks b y) (forms_statement c) h ∙ forms_pass (expressions c) k

-- Arguments for the first premises, with their equations.
pub equal_count : (ts : List Expression) (items : List Item) (r : ℕ) (ms : List ℕ) (p : ℕ) (js ks : List ℕ) → IsRuleOf items r ms p → length ms ≤ length js
    → Stops ts (equal_argument_checks (rule_of items r) (statements_of items js) (statements_of items ks)) (Refused (ArgumentCount (length js) (length ms)))
equal_count ts items r ms p js ks R l = (
  ap (λ b. cond b (first_refusal (first_argument_checks (rule_of items r) xs ++ all_equation_checks xs (statements_of items ks))) (Some (reference.ArgumentCount (length xs) (length qs)))) (le-ltb (length xs) (length qs) enough)
      ∙ ap₂ (λ a b. Some (reference.ArgumentCount a b)) (as_many items js) (premises_many items r ms p R),
  tt,
)
  where
    xs : List Statement
    xs = statements_of items js

    qs : List (ℕ × Statement)
    qs = (rule_of items r).premises

    enough : length qs ≤ length xs
    enough = subst (λ n. length qs ≤ n) (sym (as_many items js)) (subst (λ n. n ≤ length js) (sym (premises_many items r ms p R)) l)

fewer : (items : List Item) (r : ℕ) (ms : List ℕ) (p : ℕ) (js ks : List ℕ) → IsRuleOf items r ms p → length js < length ms
    → first_refusal (equal_argument_checks (rule_of items r) (statements_of items js) (statements_of items ks))
    ≡ first_refusal (first_argument_checks (rule_of items r) (statements_of items js) ++ all_equation_checks (statements_of items js) (statements_of items ks))
fewer items r ms p js ks R l =
    ap (λ b. cond b (first_refusal (first_argument_checks (rule_of items r) xs ++ all_equation_checks xs (statements_of items ks))) (Some (reference.ArgumentCount (length xs) (length qs)))) (lt-ltb (length xs) (length qs) few)
  where
    xs : List Statement
    xs = statements_of items js

    qs : List (ℕ × Statement)
    qs = (rule_of items r).premises

    few : length xs < length qs
    few = subst (λ n. n < length qs) (sym (as_many items js)) (subst (λ n. length js < n) (sym (premises_many items r ms p R)) l)

-- the checks of the first arguments are those over the list
first_checked : (items : List Item) (r : ℕ) (ms : List ℕ) (p : ℕ) (js : List ℕ) → IsRuleOf items r ms p
    → given_checks (premises_in items (take (length js) ms)) (statements_of items js) ≡ first_argument_checks (rule_of items r) (statements_of items js)
first_checked items r ms p js R = ap (λ ps. given_checks ps (statements_of items js)) (sym (first_is items r ms p js R))

pub equal_misfit : (ts : List Expression) (items : List Item) (r : ℕ) (ms : List ℕ) (p : ℕ) (js ks : List ℕ) (f : Fault) → IsRuleOf items r ms p → length js < length ms
    → Stops ts (given_checks (premises_in items (take (length js) ms)) (statements_of items js)) f
    → Stops ts (equal_argument_checks (rule_of items r) (statements_of items js) (statements_of items ks)) f
equal_misfit ts items r ms p js ks (Refused q) R l h =
    let k : Refuses ts (first_argument_checks (rule_of items r) (statements_of items js) ++ all_equation_checks (statements_of items js) (statements_of items ks)) q =
    refused_first ts (first_argument_checks (rule_of items r) (statements_of items js)) (all_equation_checks (statements_of items js) (statements_of items ks)) q
    (subst (λ cs. Refuses ts cs q) (first_checked items r ms p js R) h) in
    (fewer items r ms p js ks R l ∙ k.0, k.1)
equal_misfit ts items r ms p js ks Memory R l h = tt

pub equal_misstart : (ts : List Expression) (items : List Item) (r : ℕ) (ms : List ℕ) (p : ℕ) (js ks : List ℕ) (f : Fault) → IsRuleOf items r ms p → length js < length ms
    → first_refusal (given_checks (premises_in items (take (length js) ms)) (statements_of items js)) ≡ None → Stops ts (all_equation_checks (statements_of items js) (statements_of items ks)) f
    → Stops ts (equal_argument_checks (rule_of items r) (statements_of items js) (statements_of items ks)) f
equal_misstart ts items r ms p js ks (Refused q) R l g h =
    let k : Refuses ts (first_argument_checks (rule_of items r) (statements_of items js) ++ all_equation_checks (statements_of items js) (statements_of items ks)) q =
    refused_later ts (first_argument_checks (rule_of items r) (statements_of items js)) (all_equation_checks (statements_of items js) (statements_of items ks)) q
    (ap first_refusal (sym (first_checked items r ms p js R)) ∙ g) h in
    (fewer items r ms p js ks R l ∙ k.0, k.1)
equal_misstart ts items r ms p js ks Memory R l g h = tt

pub equal_passed : (items : List Item) (r : ℕ) (ms : List ℕ) (p : ℕ) (js ks : List ℕ) → IsRuleOf items r ms p → length js < length ms
    → first_refusal (given_checks (premises_in items (take (length js) ms)) (statements_of items js)) ≡ None → first_refusal (all_equation_checks (statements_of items js) (statements_of items ks)) ≡ None
    → first_refusal (equal_argument_checks (rule_of items r) (statements_of items js) (statements_of items ks)) ≡ None
equal_passed items r ms p js ks R l g h =
    fewer items r ms p js ks R l
    ∙ both_pass (first_argument_checks (rule_of items r) (statements_of items js)) (all_equation_checks (statements_of items js) (statements_of items ks)) (ap first_refusal (sym (first_checked items r ms p js R)) ∙ g)
    ∙ h

-- their instances
pub left_instance : (s : State) (us : List Expression) (r : ℕ) (ms : List ℕ) (p : ℕ) (js ks : List ℕ) (ps : List (ℕ × Arg)) → IsRuleOf s.items r ms p
    → instance_in us ps ≡ instance_of (premises_in s.items (take (length js) ms)) (heads (statements_of s.items js)) → instance_in us ps ≡ side_instance false s.items r js ks
left_instance s us r ms p js ks ps R h = h ∙ ap (λ qs. instance_of qs (heads (statements_of s.items js))) (sym (first_is s.items r ms p js R))

pub right_instance : (s t : State) (r : ℕ) (ms : List ℕ) (p : ℕ) (js ks : List ℕ) (hs : List Arg) (ps : List (ℕ × Arg)) → IsRuleOf s.items r ms p → t.items ≡ s.items
    → arguments_in t.trees hs ≡ right_heads (statements_of t.items js) (statements_of t.items ks) → ps ≡ zip (take (length js) ms) hs → instance_in t.trees ps ≡ side_instance true s.items r js ks
right_instance s t r ms p js ks hs ps R e a z =
    ap (instance_in t.trees) z
    ∙ instance_is t.trees s.items (take (length js) ms) hs
    ∙ ap₂ instance_of (sym (first_is s.items r ms p js R)) (a ∙ ap (λ items. right_heads (statements_of items js) (statements_of items ks)) e)

-- The row.
moved_row : (R : Rule) (xs es : List Statement) (a c : Arguments) (y : Statement) → Theses xs → is_thesis y ≡ true → first_refusal (equal_argument_checks R xs es) ≡ None → first_refusal (moved_checks R xs a c y) ≡ None
    → moved R xs es a c y ≡ Some (fill (boundary_after R xs c) (head y))
moved_row R xs es a c y t k h m =
    ap (λ b. when b (fill (boundary_after R xs c) (head y)))
    (and_from (nat_lt (length xs) (length R.premises)) (are_arguments (first_premises R xs) xs && start_all xs es && fits y (boundary_after R xs a)) few.0
    (and_from (are_arguments (first_premises R xs) xs && start_all xs es) (fits y (boundary_after R xs a))
    (and_from (are_arguments (first_premises R xs) xs) (start_all xs es) (given_fit (first_premises R xs) xs t long both.0) (starts_all xs es both.1))
    (sym (fit_asked y (boundary_after R xs a) k) ∙ (passed (fit_checks y (boundary_after R xs a)) fit).0)))
  where
    few : (nat_lt (length xs) (length R.premises) ≡ true) × (first_refusal (first_argument_checks R xs ++ all_equation_checks xs es) ≡ None)
    few = test_passes (nat_lt (length xs) (length R.premises)) (first_refusal (first_argument_checks R xs ++ all_equation_checks xs es)) (reference.ArgumentCount (length xs) (length R.premises)) h

    both : (first_refusal (first_argument_checks R xs) ≡ None) × (first_refusal (all_equation_checks xs es) ≡ None)
    both = parts_pass (first_argument_checks R xs) (all_equation_checks xs es) few.1

    long : length xs ≡ length (first_premises R xs)
    long = sym (length_taken (length xs) R.premises (omega (arith, ltb-true (length xs) (length R.premises) few.0)))

    fit : first_refusal (fit_checks y (boundary_after R xs a)) ≡ None
    fit =
        (parts_pass (fit_checks y (boundary_after R xs a)) (forms_statement (boundary_after R xs c))
        (parts_pass (forms_statement (boundary_after R xs a)) (fit_checks y (boundary_after R xs a) ++ forms_statement (boundary_after R xs c)) m).1).0

moved_given : (ts : List Expression) (R : Rule) (xs es : List Statement) (a c : Arguments) (y : Statement) (o : Result Thesis Fault) → Theses xs → is_thesis y ≡ true → first_refusal (equal_argument_checks R xs es) ≡ None
    → Asks ts (moved_checks R xs a c y) o → IfOk o (λ x. thesis_in ts x ≡ fill (boundary_after R xs c) (head y))
    → Formed (thesis_in ts) ts (equal_argument_checks R xs es ++ moved_checks R xs a c y) (moved R xs es a c y) o
moved_given ts R xs es a c y (Ok x) t k h m e = (both_pass (equal_argument_checks R xs es) (moved_checks R xs a c y) h ∙ m, moved_row R xs es a c y t k h m ∙ ap Some (sym e))
moved_given ts R xs es a c y (Err (Refused q)) t k h m e = refused_later ts (equal_argument_checks R xs es) (moved_checks R xs a c y) q h m
moved_given ts R xs es a c y (Err Memory) t k h m e = tt

-- the boundary of the next premise, as it is read, at a side
next_side : (b : Bool) (s t : State) (r : ℕ) (js ks : List ℕ) (ps : List (ℕ × Arg)) (n : Boundary) → t.items ≡ s.items → instance_in t.trees ps ≡ side_instance b s.items r js ks
    → boundary_in t.trees n ≡ named.boundary_after (rule_of t.items r) (length js)
    → boundary_at t.trees ps (boundary_in t.trees n) ≡ boundary_after (rule_of s.items r) (statements_of s.items js) (side_of b (statements_of s.items js) (statements_of s.items ks))
next_side b s t r js ks ps n e i h =
    ap₂ (λ i x. act_statement free i x) i (h ∙ ap₂ (λ items m. named.boundary_after (rule_of items r) m) e (sym (as_many s.items js)))
    ∙ next_is (rule_of s.items r) (statements_of s.items js) (side_of b (statements_of s.items js) (statements_of s.items ks))

pub conversion_formed : (b : Bool) (s t : State) (us : List Expression) (r : ℕ) (js ks : List ℕ) (q : ℕ) (ps qs : List (ℕ × Arg)) (n : Boundary) (o : Result Thesis Fault) → AreThesesOf s js → IsThesisOf s q → t.items ≡ s.items
    → first_refusal (equal_argument_checks (rule_of s.items r) (statements_of s.items js) (statements_of s.items ks)) ≡ None
    → instance_in t.trees ps ≡ side_instance b s.items r js ks → instance_in t.trees qs ≡ side_instance (not b) s.items r js ks → boundary_in t.trees n ≡ named.boundary_after (rule_of t.items r) (length js)
    → Asks us (moved_between (boundary_at t.trees ps (boundary_in t.trees n)) (boundary_at t.trees qs (boundary_in t.trees n)) (entry_of t.items q).statement) o
    → IfOk o (λ x. thesis_in us x ≡ fill (boundary_at t.trees qs (boundary_in t.trees n)) (head (entry_of t.items q).statement))
    → Formed (thesis_in us) us (conversion_checks_in b s.items r js ks q) (conversion_in b s.items r js ks q) o
conversion_formed b s t us r js ks q ps qs n o a l e h i j m k f = go b (moved_given us R xs es (side_of b xs es) (side_of (not b) xs es) y o (theses_are s js a) (thesis_is s q l) h asks is)
  where
    R : Rule
    R = rule_of s.items r

    xs : List Statement
    xs = statements_of s.items js

    es : List Statement
    es = statements_of s.items ks

    y : Statement
    y = (entry_of s.items q).statement

    to : boundary_at t.trees qs (boundary_in t.trees n) ≡ boundary_after R xs (side_of (not b) xs es)
    to = next_side (not b) s t r js ks qs n e j m

    asks : Asks us (moved_checks R xs (side_of b xs es) (side_of (not b) xs es) y) o
    asks = subst (λ cs. Asks us cs o) (ap₂ (λ u v. moved_between u v (entry_of t.items q).statement) (next_side b s t r js ks ps n e i m) to ∙ ap (λ items. moved_checks R xs (side_of b xs es) (side_of (not b) xs es) (entry_of items q).statement) e) k

    is : IfOk o (λ x. thesis_in us x ≡ fill (boundary_after R xs (side_of (not b) xs es)) (head y))
    is = subst (λ z. IfOk o (λ x. thesis_in us x ≡ z)) (ap₂ (λ u items. fill u (head (entry_of items q).statement)) to e) f

    go : (b : Bool) → Formed (thesis_in us) us (equal_argument_checks R xs es ++ moved_checks R xs (side_of b xs es) (side_of (not b) xs es) y) (moved R xs es (side_of b xs es) (side_of (not b) xs es) y) o
        → Formed (thesis_in us) us (conversion_checks_in b s.items r js ks q) (conversion_in b s.items r js ks q) o
    go false g = g
    go true g = g

-- a fault of the arguments is the call's
pub conversion_misfit : (b : Bool) (ts : List Expression) (items : List Item) (r : ℕ) (js ks : List ℕ) (q : ℕ) (f : Fault) → Stops ts (equal_argument_checks (rule_of items r) (statements_of items js) (statements_of items ks)) f
    → Stops ts (conversion_checks_in b items r js ks q) f
conversion_misfit false ts items r js ks q (Refused d) h = refused_first ts (equal_argument_checks (rule_of items r) (statements_of items js) (statements_of items ks)) _ d h
conversion_misfit true ts items r js ks q (Refused d) h = refused_first ts (equal_argument_checks (rule_of items r) (statements_of items js) (statements_of items ks)) _ d h
conversion_misfit false ts items r js ks q Memory h = tt
conversion_misfit true ts items r js ks q Memory h = tt

-- The call.
abbrev conversion_named : Bool → ℕ × Rule → List Assertion → List Assertion → Assertion → Resolved
conversion_named false R ps es y = by_convprem R ps es y
conversion_named true R ps es y = by_convback R ps es y

four_named : {A B : Type 0} (f : A → List Assertion → List Assertion → Assertion → B) (s : State) (o : Option A) (a : A) (js ks : List ℕ) (q : ℕ) → o ≡ Some a → AreThesesOf s js → AreThesesOf s ks → IsThesisOf s q
    → with_four f o (each (entry_named (store s)) js) (each (entry_named (store s)) ks) (entry_named (store s) q) ≡ Some (f a (entries_of s.items js) (entries_of s.items ks) (entry_of s.items q))
four_named f s o a js ks q e h k l =
    ap₂ (λ o ps. with_four f o ps (each (entry_named (store s)) ks) (entry_named (store s) q)) e (each_named s js h)
    ∙ ap₂ (λ es y. with_four f (Some a) (Some (entries_of s.items js)) es y) (each_named s ks k) (entry_in s q l.0 l.1 ∙ ap Some (sym (entry_found s q l.0 l.1)))

conversion_resolved : (b : Bool) (s : State) (r : ℕ) (js ks : List ℕ) (q : ℕ) → Good s.items → r < length (rules_in s.items) → AreThesesOf s js → AreThesesOf s ks → IsThesisOf s q
    → resolve (store s) (conversion_step b r js ks q) ≡ Some (conversion_named b (r, rule_of s.items r) (entries_of s.items js) (entries_of s.items ks) (entry_of s.items q))
conversion_resolved false s r js ks q g l h k m = four_named by_convprem s _ (r, rule_of s.items r) js ks q (rule_resolved s.items r g l) h k m
conversion_resolved true s r js ks q g l h k m = four_named by_convback s _ (r, rule_of s.items r) js ks q (rule_resolved s.items r g l) h k m

kinds : (s : State) (js ks : List ℕ) (q : ℕ) → AreThesesOf s js → AreThesesOf s ks → IsThesisOf s q → (Rattle.ft_items.specs.Good.all_theses (entries_of s.items js ++ (entries_of s.items ks ++ entry_of s.items q ∷ [])) && true) ≡ true
kinds s js ks q h k l =
    ap (λ b. b && true)
    (theses_after (entries_of s.items js) (entries_of s.items ks ++ entry_of s.items q ∷ []) (theses_of s js h)
    (theses_after (entries_of s.items ks) (entry_of s.items q ∷ []) (theses_of s ks k) (ap (λ b. b && true) (thesis_is s q l))))

conversion_kind : (b : Bool) (s : State) (r : ℕ) (js ks : List ℕ) (q : ℕ) → AreThesesOf s js → AreThesesOf s ks → IsThesisOf s q
    → of_kind (conversion_named b (r, rule_of s.items r) (entries_of s.items js) (entries_of s.items ks) (entry_of s.items q)) ≡ true
conversion_kind false s r js ks q h k l = kinds s js ks q h k l
conversion_kind true s r js ks q h k l = kinds s js ks q h k l

-- the sets that the call joins
abbrev pub conversion_set : List Item → List ℕ → List ℕ → ℕ → List Atom
conversion_set items js ks q = union (unions (sets (entries_of items js))) (union (unions (sets (entries_of items ks))) (entry_of items q).set)

pub conversion_answer : (b : Bool) (s t : State) (r : ℕ) (js ks : List ℕ) (q : ℕ) (x : Statement) (S : List Atom) → Good s.items → r < length (rules_in s.items) → AreThesesOf s js → AreThesesOf s ks → IsThesisOf s q
    → Stays s t → Gives (conversion_checks_in b s.items r js ks q) (conversion_in b s.items r js ks q) x → S ≡ conversion_set s.items js ks q → IsAnswer t (conversion_step b r js ks q) (Ok (rests x S))
conversion_answer false s t r js ks q x S g l h k m y c u =
    formed_answered s t (conversion_step false r js ks q) (conversion_named false (r, rule_of s.items r) (entries_of s.items js) (entries_of s.items ks) (entry_of s.items q)) x S y
    (conversion_resolved false s r js ks q g l h k m) (conversion_kind false s r js ks q h k m) c u
conversion_answer true s t r js ks q x S g l h k m y c u =
    formed_answered s t (conversion_step true r js ks q) (conversion_named true (r, rule_of s.items r) (entries_of s.items js) (entries_of s.items ks) (entry_of s.items q)) x S y
    (conversion_resolved true s r js ks q g l h k m) (conversion_kind true s r js ks q h k m) c u

pub conversion_fault : (b : Bool) (s t : State) (r : ℕ) (js ks : List ℕ) (q : ℕ) (f : Fault) → Good s.items → r < length (rules_in s.items) → AreThesesOf s js → AreThesesOf s ks → IsThesisOf s q
    → Stops t.trees (conversion_checks_in b s.items r js ks q) f → Stays s t → Answers s (conversion_step b r js ks q) (Err f) t
conversion_fault false s t r js ks q f g l h k m c y =
    formed_fault s t (conversion_step false r js ks q) (conversion_named false (r, rule_of s.items r) (entries_of s.items js) (entries_of s.items ks) (entry_of s.items q)) f (conversion_resolved false s r js ks q g l h k m) c y
conversion_fault true s t r js ks q f g l h k m c y =
    formed_fault s t (conversion_step true r js ks q) (conversion_named true (r, rule_of s.items r) (entries_of s.items js) (entries_of s.items ks) (entry_of s.items q)) f (conversion_resolved true s r js ks q g l h k m) c y
