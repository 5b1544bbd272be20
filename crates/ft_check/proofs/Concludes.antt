-- The conclusion of a rule at arguments, filled with its symbol.
use Rattle.std.proofs.Common.{◌≡◌, ℕ, Bool, true, false, ◌&&◌, cond, Option, Some, None, List, [], ◌∷◌, refl, sym, ap, ap₂, ◌∙◌}
use Rattle.std.proofs.Math.Bool.{and_comm, and-true}
use Rattle.std.proofs.lemmas.Option.{same_Some}
use Rattle.ft_theory.specs.Expressions.{Expression}
use Rattle.ft_theory.specs.Statements.{Claim, Statement, plain, fill_goal, map_claim}
use Rattle.ft_items.specs.Item.{Entry as AnyEntry}
use Rattle.ft_items.specs.Sets.{Atom, same_set}
use Rattle.ft_items.specs.Equal.{equal_expressions, equal_claims, equal_statements, fits_goal}
use Rattle.ft_items.specs.Rows.{when}
use Rattle.ft_items.specs.Good.{Reject as Reason, Premise as premise, Conclusion as conclusion, Set as set, reason_of_result, unless}
use Rattle.ft_sound.proofs.EqualLemmas.{equal_back}
use Rattle.ft_syntax.specs.Table.{tree}
use Rattle.ft_judge.specs.Meaning.{under, claim_in, goal_in, thesis_in, boundary_in, head_of_form}
use Rattle.ft_judge.specs.declared.judgement.Form.{Form}
use Rattle.ft_judge.specs.declared.judgement.Form.TheVariants as form
use Rattle.ft_judge.specs.declared.judgement.Goal.{Goal}
use Rattle.ft_judge.specs.declared.judgement.Goal.TheVariants as goal
use Rattle.ft_judge.specs.declared.judgement.Thesis.{Thesis as ThesisValue}
use Rattle.ft_judge.specs.declared.judgement.Boundary.{Boundary as BoundaryValue}
use Rattle.ft_check.specs.Comparing.{head_same}
use Rattle.ft_check.specs.Entries.{is_nil}

-- where a form has no head, or its head is not the same
pub no_head : (ts : List Expression) (h : Expression) (f : Form) → head_of_form f ≡ None → true ≡ head_same ts h f
no_head ts h (form.Ty A) e = cc
no_head ts h (form.Tm t A) e = cc
no_head ts h (form.EqTy A B) e = refl
no_head ts h (form.EqTm s t A) e = refl

pub some_head : (ts : List Expression) (h : Expression) (f : Form) (a : ℕ) → head_of_form f ≡ Some a → equal_expressions (tree ts a) h ≡ head_same ts h f
some_head ts h (form.Ty A) a e = ap (λ x. equal_expressions (tree ts x) h) (sym (same_Some A a e))
some_head ts h (form.Tm t A) a e = ap (λ x. equal_expressions (tree ts x) h) (sym (same_Some t a e))
some_head ts h (form.EqTy A B) a e = cc
some_head ts h (form.EqTm s t A) a e = cc

-- the claim that a goal's instance becomes
turn₂ : (a b c d : Expression) → (equal_expressions a b && equal_expressions c d) ≡ (equal_expressions b a && equal_expressions d c)
turn₂ a b c d = ap₂ ◌&&◌ (equal_back a b) (equal_back c d)

turned : (x y z : Bool) → (((x && y) && z) && true) ≡ ((y && z) && x)
turned true true true = refl
turned true true false = refl
turned true false z = refl
turned false true true = refl
turned false true false = refl
turned false false z = refl

pub claim_filled : (ts : List Expression) (j : Expression → Expression) (h : Expression) (f : Form) (g : Goal)
    → (fits_goal (claim_in ts f) (map_claim j (goal_in ts g)) && head_same ts h f) ≡ equal_claims (fill_goal (map_claim j (goal_in ts g)) h) (claim_in ts f)
claim_filled ts j h (form.Ty A) goal.Ty = equal_back (tree ts A) h
claim_filled ts j h (form.Ty A) (goal.Tm B) = refl
claim_filled ts j h (form.Ty A) (goal.EqTy B C) = refl
claim_filled ts j h (form.Ty A) (goal.EqTm s t B) = refl
claim_filled ts j h (form.Tm t A) goal.Ty = refl
claim_filled ts j h (form.Tm t A) (goal.Tm B) =
    ap₂ ◌&&◌ (equal_back (tree ts A) (j (tree ts B))) (equal_back (tree ts t) h)
    ∙ and_comm (equal_expressions (j (tree ts B)) (tree ts A)) (equal_expressions h (tree ts t))
claim_filled ts j h (form.Tm t A) (goal.EqTy B C) = refl
claim_filled ts j h (form.Tm t A) (goal.EqTm s u B) = refl
claim_filled ts j h (form.EqTy A B) goal.Ty = refl
claim_filled ts j h (form.EqTy A B) (goal.Tm C) = refl
claim_filled ts j h (form.EqTy A B) (goal.EqTy C D) =
    and-true (equal_expressions (tree ts A) (j (tree ts C)) && equal_expressions (tree ts B) (j (tree ts D)))
    ∙ turn₂ (tree ts A) (j (tree ts C)) (tree ts B) (j (tree ts D))
claim_filled ts j h (form.EqTy A B) (goal.EqTm s t C) = refl
claim_filled ts j h (form.EqTm s t A) goal.Ty = refl
claim_filled ts j h (form.EqTm s t A) (goal.Tm B) = refl
claim_filled ts j h (form.EqTm s t A) (goal.EqTy B C) = refl
claim_filled ts j h (form.EqTm s t A) (goal.EqTm u v B) =
    turned (equal_expressions (tree ts A) (j (tree ts B))) (equal_expressions (tree ts s) (j (tree ts u))) (equal_expressions (tree ts t) (j (tree ts v)))
    ∙ ap₂ ◌&&◌ (turn₂ (tree ts s) (j (tree ts u)) (tree ts t) (j (tree ts v))) (equal_back (tree ts A) (j (tree ts B)))

-- the parts in their order: the form, what is compared, and the head
pub form_not : (ts : List Expression) (j : Expression → Expression) (h : Expression) (f : Form) (g : Goal) (x a : Bool) → x ≡ false
    → (x && a) ≡ fits_goal (claim_in ts f) (map_claim j (goal_in ts g)) → false ≡ equal_claims (fill_goal (map_claim j (goal_in ts g)) h) (claim_in ts f)
form_not ts j h f g x a n e = ap (λ b. b && head_same ts h f) (ap (λ x. x && a) (sym n) ∙ e) ∙ claim_filled ts j h f g

pub list_not : (ts : List Expression) (j : Expression → Expression) (h : Expression) (f : Form) (g : Goal) (x y a : Bool) → x ≡ true → y ≡ false → y ≡ a
    → (x && a) ≡ fits_goal (claim_in ts f) (map_claim j (goal_in ts g)) → false ≡ equal_claims (fill_goal (map_claim j (goal_in ts g)) h) (claim_in ts f)
list_not ts j h f g x y a t n s e = ap (λ b. b && head_same ts h f) (ap₂ ◌&&◌ (sym t) (sym n ∙ s) ∙ e) ∙ claim_filled ts j h f g

pub all_filled : (ts : List Expression) (j : Expression → Expression) (h : Expression) (f : Form) (g : Goal) (x y a b : Bool) → x ≡ true → y ≡ true → y ≡ a
    → (x && a) ≡ fits_goal (claim_in ts f) (map_claim j (goal_in ts g)) → b ≡ head_same ts h f → b ≡ equal_claims (fill_goal (map_claim j (goal_in ts g)) h) (claim_in ts f)
all_filled ts j h f g x y a b t n s e k = k ∙ ap (λ b. b && head_same ts h f) (ap₂ ◌&&◌ (sym t) (sym n ∙ s) ∙ e) ∙ claim_filled ts j h f g

-- the statement of an entry
boundary_not : (ts : List Expression) (As : List ℕ) (c : Claim) (h : Expression) (f g : Goal) (j : Expression → Expression) → false ≡ equal_statements (plain (fill_goal (map_claim j (goal_in ts g)) h)) (under ts As (plain (goal_in ts f)))
boundary_not ts (A ∷ As) c h f g j = refl
boundary_not ts [] c h goal.Ty goal.Ty j = refl
boundary_not ts [] c h goal.Ty (goal.Tm A) j = refl
boundary_not ts [] c h goal.Ty (goal.EqTy A B) j = refl
boundary_not ts [] c h goal.Ty (goal.EqTm s t A) j = refl
boundary_not ts [] c h (goal.Tm C) goal.Ty j = refl
boundary_not ts [] c h (goal.Tm C) (goal.Tm A) j = refl
boundary_not ts [] c h (goal.Tm C) (goal.EqTy A B) j = refl
boundary_not ts [] c h (goal.Tm C) (goal.EqTm s t A) j = refl
boundary_not ts [] c h (goal.EqTy C D) goal.Ty j = refl
boundary_not ts [] c h (goal.EqTy C D) (goal.Tm A) j = refl
boundary_not ts [] c h (goal.EqTy C D) (goal.EqTy A B) j = refl
boundary_not ts [] c h (goal.EqTy C D) (goal.EqTm s t A) j = refl
boundary_not ts [] c h (goal.EqTm u v C) goal.Ty j = refl
boundary_not ts [] c h (goal.EqTm u v C) (goal.Tm A) j = refl
boundary_not ts [] c h (goal.EqTm u v C) (goal.EqTy A B) j = refl
boundary_not ts [] c h (goal.EqTm u v C) (goal.EqTm s t A) j = refl

pub boundary_no_conclusion : (ts : List Expression) (b : BoundaryValue) (g : Goal) (h : Expression) (j : Expression → Expression) (x : Statement) → x ≡ boundary_in ts b → false ≡ equal_statements (plain (fill_goal (map_claim j (goal_in ts g)) h)) x
boundary_no_conclusion ts b g h j x e = boundary_not ts b.domains (goal_in ts g) h b.goal g j ∙ ap (equal_statements (plain (fill_goal (map_claim j (goal_in ts g)) h))) (sym e)

plain_is : (ts : List Expression) (As : List ℕ) (c d : Claim) → is_nil As ≡ true → equal_claims c d ≡ equal_statements (plain c) (under ts As (plain d))
plain_is ts [] c d n = refl
plain_is ts (A ∷ As) c d n = let clash : false ≡ true = n in cc

plain_not : (ts : List Expression) (As : List ℕ) (c d : Claim) → is_nil As ≡ false → false ≡ equal_statements (plain c) (under ts As (plain d))
plain_not ts [] c d n = let clash : true ≡ false = n in cc
plain_not ts (A ∷ As) c d n = refl

pub thesis_conclusion : (ts : List Expression) (t : ThesisValue) (c : Claim) (x : Statement) → x ≡ thesis_in ts t → is_nil t.domains ≡ true → equal_claims c (claim_in ts t.form) ≡ equal_statements (plain c) x
thesis_conclusion ts t c x e n = plain_is ts t.domains c (claim_in ts t.form) n ∙ ap (equal_statements (plain c)) (sym e)

pub thesis_no_conclusion : (ts : List Expression) (t : ThesisValue) (c : Claim) (x : Statement) → x ≡ thesis_in ts t → is_nil t.domains ≡ false → false ≡ equal_statements (plain c) x
thesis_no_conclusion ts t c x e n = plain_not ts t.domains c (claim_in ts t.form) n ∙ ap (equal_statements (plain c)) (sym e)

-- the reasons in their order
pub premise_not : (a b : Bool) (x : Statement) (S : List Atom) (e : AnyEntry) → a ≡ false → a ≡ b → Some premise ≡ reason_of_result (when b x) S e
premise_not a b x S e n h = ap (λ b. reason_of_result (cond b (Some x) None) S e) (sym n ∙ h)

pub reasons : (a b c d : Bool) (x : Statement) (S : List Atom) (e : AnyEntry) (r : Option Reason) → a ≡ true → a ≡ b → c ≡ equal_statements x e.statement → d ≡ same_set S e.set
    → r ≡ unless c conclusion (unless d set None) → r ≡ reason_of_result (when b x) S e
reasons a b c d x S e r t h f g k =
    k ∙ ap₂ (λ c d. unless c conclusion (unless d set None)) f g ∙ ap (λ b. reason_of_result (cond b (Some x) None) S e) (sym t ∙ h)
