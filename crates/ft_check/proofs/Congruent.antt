-- A symbol at equal arguments: what it concludes, and the reasons against that.
use Rattle.std.proofs.Common.{◌≡◌, ℕ, Bool, true, false, ◌&&◌, Option, Some, None, List, [], ◌∷◌, refl, sym, ap, ap₂, ◌∙◌, subst}
use Rattle.ft_theory.specs.Expressions.{Expression, symbol, instantiate}
use Rattle.ft_theory.specs.Rules.{Rule, conclusion_at}
use Rattle.ft_theory.specs.Statements.{Claim, Statement, plain, equate_goal, map_claim}
use Rattle.ft_items.specs.Item.{Stated}
use Rattle.ft_items.specs.Sets.{Atom, same_set}
use Rattle.ft_items.specs.Equal.{equal_claims, equal_statements, heads, is_object_goal, right_heads, start_all}
use Rattle.ft_items.specs.Store.{Assertion, Declarations, premises_of}
use Rattle.ft_items.specs.Rows.{are_arguments, congruence_of, statements}
use Rattle.ft_items.specs.Good.{Reject as Reason, Premise as premise, Conclusion as conclusion, Set as set, reason_of_result, unless}
use Rattle.ft_syntax.specs.Table.{arguments_in}
use Rattle.ft_judge.specs.Meaning.{under, claim_in, goal_in, thesis_in, boundary_in}
use Rattle.ft_judge.specs.declared.judgement.Form.{Form}
use Rattle.ft_judge.specs.declared.judgement.Form.TheVariants as form
use Rattle.ft_judge.specs.declared.judgement.Goal.{Goal}
use Rattle.ft_judge.specs.declared.judgement.Goal.TheVariants as goal
use Rattle.ft_judge.specs.declared.judgement.Thesis.{Thesis as ThesisValue}
use Rattle.ft_judge.specs.declared.judgement.Boundary.{Boundary as BoundaryValue}
use Rattle.ft_check.specs.Applying.{IsRule}
use Rattle.ft_check.specs.Entries.{is_nil, with_step}
use Rattle.ft_check.specs.Equations.{AreSides, equated}
use Rattle.ft_check.specs.declared.applied.RuleAt.{RuleAt}
use Rattle.ft_check.specs.declared.sides.Sides.{Sides}
use Rattle.ft_check.proofs.Concludes.{premise_not, reasons}
use Rattle.ft_check.proofs.NextBoundaries.{statements_back}

-- a form that is no equation of the goal's
pub no_equated : (ts : List Expression) (f : Form) (g : Goal) (h k : Expression) (j : Expression → Expression) → ((A B : ℕ) → f ≡ form.EqTy A B → g ≡ goal.Ty → ⊥) → ((s t A B : ℕ) → f ≡ form.EqTm s t A → g ≡ goal.Tm B → ⊥)
    → is_object_goal (goal_in ts g) ≡ true → false ≡ equal_claims (claim_in ts f) (equate_goal (map_claim j (goal_in ts g)) h k)
no_equated ts (form.Ty A) goal.Ty h k j a b o = refl
no_equated ts (form.Ty A) (goal.Tm B) h k j a b o = refl
no_equated ts (form.Ty A) (goal.EqTy B C) h k j a b o = let clash : false ≡ true = o in cc
no_equated ts (form.Ty A) (goal.EqTm s t B) h k j a b o = let clash : false ≡ true = o in cc
no_equated ts (form.Tm t A) goal.Ty h k j a b o = refl
no_equated ts (form.Tm t A) (goal.Tm B) h k j a b o = refl
no_equated ts (form.Tm t A) (goal.EqTy B C) h k j a b o = let clash : false ≡ true = o in cc
no_equated ts (form.Tm t A) (goal.EqTm s u B) h k j a b o = let clash : false ≡ true = o in cc
no_equated ts (form.EqTy A B) goal.Ty h k j a b o = absurd (a A B refl refl)
no_equated ts (form.EqTy A B) (goal.Tm C) h k j a b o = refl
no_equated ts (form.EqTy A B) (goal.EqTy C D) h k j a b o = let clash : false ≡ true = o in cc
no_equated ts (form.EqTy A B) (goal.EqTm s t C) h k j a b o = let clash : false ≡ true = o in cc
no_equated ts (form.EqTm s t A) goal.Ty h k j a b o = refl
no_equated ts (form.EqTm s t A) (goal.Tm B) h k j a b o = absurd (b s t A B refl refl)
no_equated ts (form.EqTm s t A) (goal.EqTy B C) h k j a b o = let clash : false ≡ true = o in cc
no_equated ts (form.EqTm s t A) (goal.EqTm u v B) h k j a b o = let clash : false ≡ true = o in cc

-- the statement of an entry
goal_no_equation : (ts : List Expression) (As : List ℕ) (f g : Goal) (h k : Expression) (j : Expression → Expression) → is_object_goal (goal_in ts g) ≡ true
    → false ≡ equal_statements (under ts As (plain (goal_in ts f))) (plain (equate_goal (map_claim j (goal_in ts g)) h k))
goal_no_equation ts (A ∷ As) f g h k j o = refl
goal_no_equation ts [] goal.Ty goal.Ty h k j o = refl
goal_no_equation ts [] goal.Ty (goal.Tm A) h k j o = refl
goal_no_equation ts [] (goal.Tm B) goal.Ty h k j o = refl
goal_no_equation ts [] (goal.Tm B) (goal.Tm A) h k j o = refl
goal_no_equation ts [] (goal.EqTy B C) goal.Ty h k j o = refl
goal_no_equation ts [] (goal.EqTy B C) (goal.Tm A) h k j o = refl
goal_no_equation ts [] (goal.EqTm s t B) goal.Ty h k j o = refl
goal_no_equation ts [] (goal.EqTm s t B) (goal.Tm A) h k j o = refl
goal_no_equation ts [] f (goal.EqTy A B) h k j o = let clash : false ≡ true = o in cc
goal_no_equation ts [] f (goal.EqTm s t A) h k j o = let clash : false ≡ true = o in cc

pub boundary_no_equation : (ts : List Expression) (b : BoundaryValue) (s : Sides) (r : RuleAt) (x : Statement) → x ≡ boundary_in ts b → is_object_goal (goal_in ts r.goal) ≡ true → false ≡ equal_statements x (plain (equated ts s r))
boundary_no_equation ts b s r x e o = goal_no_equation ts b.domains b.goal r.goal _ _ _ o ∙ ap (λ x. equal_statements x (plain (equated ts s r))) (sym e)

plain_is : (ts : List Expression) (As : List ℕ) (c d : Claim) → is_nil As ≡ true → equal_claims d c ≡ equal_statements (under ts As (plain d)) (plain c)
plain_is ts [] c d n = refl
plain_is ts (A ∷ As) c d n = let clash : false ≡ true = n in cc

plain_not : (ts : List Expression) (As : List ℕ) (c d : Claim) → is_nil As ≡ false → false ≡ equal_statements (under ts As (plain d)) (plain c)
plain_not ts [] c d n = let clash : true ≡ false = n in cc
plain_not ts (A ∷ As) c d n = refl

pub thesis_congruent : (ts : List Expression) (t : ThesisValue) (c : Claim) (x : Statement) → x ≡ thesis_in ts t → is_nil t.domains ≡ true → equal_claims (claim_in ts t.form) c ≡ equal_statements x (plain c)
thesis_congruent ts t c x e n = plain_is ts t.domains c (claim_in ts t.form) n ∙ ap (λ x. equal_statements x (plain c)) (sym e)

pub thesis_not_congruent : (ts : List Expression) (t : ThesisValue) (c : Claim) (x : Statement) → x ≡ thesis_in ts t → is_nil t.domains ≡ false → false ≡ equal_statements x (plain c)
thesis_not_congruent ts t c x e n = plain_not ts t.domains c (claim_in ts t.form) n ∙ ap (λ x. equal_statements x (plain c)) (sym e)

-- in the rule's own terms
equated_is : (ts : List Expression) (W : Declarations) (x : RuleAt) (R : ℕ × Rule) (s : Sides) (X Y : List Statement) → IsRule ts W x R → AreSides s R.1.premises X Y
    → equated ts s x ≡ equate_goal (conclusion_at R.1 (heads X)) (symbol R.0 (heads X)) (symbol R.0 (right_heads X Y))
equated_is ts W x R s X Y k h =
    ap₂ (λ i c. equate_goal (map_claim (instantiate i) c) (symbol x.symbol (arguments_in s.left.terms s.left.arguments.items)) (symbol x.symbol (arguments_in s.right.terms s.right.arguments.items))) h.left.instance k.conclusion
    ∙ ap₂ (λ a b. equate_goal (conclusion_at R.1 (heads X)) (symbol x.symbol a) (symbol x.symbol b)) h.left.arguments h.right.arguments
    ∙ ap (λ n. equate_goal (conclusion_at R.1 (heads X)) (symbol n (heads X)) (symbol n (right_heads X Y))) k.number

all_three : (a b c d : Bool) → a ≡ true → d ≡ (b && c) → d ≡ true → true ≡ ((a && b) && c)
all_three a b c d h e f = sym (ap (λ a. (a && b) && c) h ∙ sym e ∙ f)

not_three : (a b c d : Bool) → d ≡ (b && c) → d ≡ false → a ≡ true → false ≡ ((a && b) && c)
not_three a b c d e f h = sym (ap (λ a. (a && b) && c) h ∙ sym e ∙ f)

-- the reasons
pub no_object : (ts : List Expression) (W : Declarations) (x : RuleAt) (R : ℕ × Rule) (X Y : List Statement) (Q : List Atom) (e : Assertion) (t : Stated) (a : Bool) → IsRule ts W x R → a ≡ is_object_goal (goal_in ts x.goal) → a ≡ false
    → Some premise ≡ reason_of_result (congruence_of R.0 R.1 X Y) Q (with_step e t)
no_object ts W x R X Y Q e t a k h n =
    premise_not false ((is_object_goal R.1.conclusion && are_arguments R.1.premises X) && start_all X Y) _ Q (with_step e t) refl
    (ap (λ o. (o && are_arguments R.1.premises X) && start_all X Y) (sym n ∙ h ∙ ap is_object_goal k.conclusion))

pub no_sides : (ts : List Expression) (W : Declarations) (x : RuleAt) (R : ℕ × Rule) (xs ys : List Assertion) (Q : List Atom) (e : Assertion) (t : Stated) (a d : Bool) (k : IsRule ts W x R) → a ≡ is_object_goal (goal_in ts x.goal) → a ≡ true
    → d ≡ (are_arguments (premises_of k.declared) (statements xs) && start_all (statements xs) (statements ys)) → d ≡ false
    → Some premise ≡ reason_of_result (congruence_of R.0 R.1 (statements xs) (statements ys)) Q (with_step e t)
no_sides ts W x R xs ys Q e t a d k h n f g =
    premise_not false ((is_object_goal R.1.conclusion && are_arguments R.1.premises (statements xs)) && start_all (statements xs) (statements ys)) _ Q (with_step e t) refl
    (not_three (is_object_goal R.1.conclusion) (are_arguments R.1.premises (statements xs)) (start_all (statements xs) (statements ys)) d
    (f ∙ ap (λ ps. are_arguments ps (statements xs) && start_all (statements xs) (statements ys)) (sym k.premises)) g (sym (ap is_object_goal k.conclusion) ∙ sym h ∙ n))

pub congruence_judged : (ts : List Expression) (W : Declarations) (x : RuleAt) (R : ℕ × Rule) (s : Sides) (xs ys : List Assertion) (Q S : List Atom) (e : Assertion) (t : Stated) (a d b m : Bool) (r : Option Reason) (k : IsRule ts W x R)
    → a ≡ is_object_goal (goal_in ts x.goal) → a ≡ true
    → d ≡ (are_arguments (premises_of k.declared) (statements xs) && start_all (statements xs) (statements ys)) → d ≡ true
    → AreSides s (premises_of k.declared) (statements xs) (statements ys)
    → b ≡ equal_statements e.statement (plain (equated ts s x)) → S ≡ Q → m ≡ same_set S e.set → r ≡ unless b conclusion (unless m set None)
    → r ≡ reason_of_result (congruence_of R.0 R.1 (statements xs) (statements ys)) Q (with_step e t)
congruence_judged ts W x R s xs ys Q S e t a d b m r k h n f g p c l q o =
    let X = statements xs in
    let Y = statements ys in
    let wanted = plain (equate_goal (conclusion_at R.1 (heads X)) (symbol R.0 (heads X)) (symbol R.0 (right_heads X Y))) in
    let there : AreSides s R.1.premises X Y = subst (λ ps. AreSides s ps X Y) (sym k.premises) p in
    reasons true ((is_object_goal R.1.conclusion && are_arguments R.1.premises X) && start_all X Y) b m wanted Q (with_step e t) r refl
    (all_three (is_object_goal R.1.conclusion) (are_arguments R.1.premises X) (start_all X Y) d (sym (ap is_object_goal k.conclusion) ∙ sym h ∙ n)
    (f ∙ ap (λ ps. are_arguments ps X && start_all X Y) (sym k.premises)) g)
    (c ∙ ap (λ w. equal_statements e.statement (plain w)) (equated_is ts W x R s X Y k there) ∙ statements_back e.statement wanted)
    (q ∙ ap (λ S. same_set S e.set) l) o
