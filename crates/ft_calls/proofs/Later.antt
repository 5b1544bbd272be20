-- Calls that form expressions before they add their entry: the items are as before, and the table goes on.
use Rattle.std.proofs.Common.{◌≡◌, ◌∙◌, ℕ, suc, ◌<◌, true, false, Option, Some, None, List, [], ◌∷◌, ◌++◌, length, refl, sym, ap, subst}
use Rattle.std.specs.Prelude.{Result, Ok, Err}
use Rattle.ft_common.proofs.Choices.{if_true, if_false, by_test}
use Rattle.ft_theory.specs.Expressions.{Expression}
use Rattle.ft_theory.specs.Small.{IsSmall, is_small}
use Rattle.ft_theory.specs.Statements.{Claim, is_type, has_type, equal_types, equal_terms, type_goal, term_goal, type_equation_goal, term_equation_goal, Statement, plain, abstracted, AllOfClaim, AllOfStatement}
use Rattle.ft_items.specs.Item.{Stated, Item, entry}
use Rattle.ft_items.specs.Store.{Assertion, store_of, entries_in}
use Rattle.ft_items.proofs.Smallness.{small_true, true_small}
use Rattle.ft_reference.specs.Refusals as reference
use Rattle.ft_reference.specs.Refusals.{AllSmall, expressions, claim_expressions, forms_all, forms_statement, first_refusal, TooBig}
use Rattle.ft_syntax.specs.Table.{tree, Extends, AllBelow}
use Rattle.ft_syntax.specs.Laws.{extends_trans}
use Rattle.ft_judge.specs.Meaning.{claim_in, goal_in, under, thesis_in, boundary_in, FormBelow, GoalBelow, ThesisBelow, BoundaryBelow}
use Rattle.ft_judge.specs.declared.judgement.Form.{Form}
use Rattle.ft_judge.specs.declared.judgement.Form.TheVariants.{Ty, Tm, EqTy, EqTm}
use Rattle.ft_judge.specs.declared.judgement.Goal.{Goal}
use Rattle.ft_judge.specs.declared.judgement.Goal.TheVariants as goal
use Rattle.ft_judge.specs.declared.judgement.Thesis.{Thesis}
use Rattle.ft_judge.specs.declared.judgement.Boundary.{Boundary}
use Rattle.ft_judge.specs.declared.fault.Fault.{Fault}
use Rattle.ft_judge.specs.declared.fault.Fault.TheVariants.{Refused, Memory}
use Rattle.ft_kernel.specs.State.{State}
use Rattle.ft_calls.specs.Answers.{IsAnswer, Gains, Stays, Answers}

-- an answer is of the items alone
pub answer_later : (s t : State) (n : Stated) (o : Result Assertion reference.Refusal) → t.items ≡ s.items → IsAnswer t n o → IsAnswer s n o
answer_later s t n o e h = subst (λ (items : List Item). IsAnswer (record { trees = s.trees; items = items }) n o) e h

pub answer_before : (s t : State) (n : Stated) (o : Result Assertion reference.Refusal) → t.items ≡ s.items → IsAnswer s n o → IsAnswer t n o
answer_before s t n o e h = answer_later t s n o (sym e) h

-- what is answered after further expressions are formed
pub answers_later : (s t u : State) (n : Stated) (r : Result ℕ Fault) → Stays s t → Answers t n r u → Answers s n r u
answers_later s t u n (Ok j) k h =
    (h.0, answer_later s t n (Ok h.0) k.0 h.1, (h.2.0 ∙ ap (λ (items : List Item). items ++ entry (record { statement = h.0.statement; set = h.0.set; step = n }) ∷ []) k.0, h.2.1 ∙ ap (λ items. length (entries_in items)) k.0, extends_trans s.trees t.trees u.trees k.1 h.2.2))
answers_later s t u n (Err (Refused q)) k h = (answer_later s t n _ k.0 h.0, h.1, (h.2.0 ∙ k.0, extends_trans s.trees t.trees u.trees k.1 h.2.1))
answers_later s t u n (Err Memory) k h = (h.0 ∙ k.0, extends_trans s.trees t.trees u.trees k.1 h.1)

-- Expressions that are formed are small, or one of them is not.

pub forms_pass : (es : List Expression) → AllSmall es → first_refusal (forms_all es) ≡ None
forms_pass [] h = refl
forms_pass (e ∷ es) h = if_true (first_refusal (forms_all es)) (Some TooBig) (is_small e) (small_true e h.0) ∙ forms_pass es h.1

pub forms_fail : (es : List Expression) → (AllSmall es → ⊥) → first_refusal (forms_all es) ≡ Some TooBig
forms_fail [] h = absurd (h tt)
forms_fail (e ∷ es) h =
    by_test (is_small e)
    (λ t. if_true (first_refusal (forms_all es)) (Some TooBig) (is_small e) t ∙ forms_fail es (λ k. h (true_small e t, k)))
    (λ f. if_false (first_refusal (forms_all es)) (Some TooBig) (is_small e) f)

-- the expressions of a statement
claim_small : (c : Claim) → AllSmall (claim_expressions c) → AllOfClaim IsSmall c
claim_small (is_type A) h = h.0
claim_small (has_type t A) h = (h.0, h.1.0)
claim_small (equal_types A B) h = (h.0, h.1.0)
claim_small (equal_terms s t A) h = (h.0, h.1.0, h.1.1.0)
claim_small type_goal h = tt
claim_small (term_goal A) h = h.0
claim_small (type_equation_goal A B) h = (h.0, h.1.0)
claim_small (term_equation_goal s t A) h = (h.0, h.1.0, h.1.1.0)

pub statement_small : (x : Statement) (k : ℕ) → AllSmall (expressions x) → AllOfStatement (λ l. IsSmall) k x
statement_small (plain c) k h = claim_small c h
statement_small (abstracted A x) k h = (h.0, statement_small x (suc k) h.1)

-- where each tree of the table is small
abbrev pub AreSmallTrees : List Expression → Type 0
AreSmallTrees ts = (e : ℕ) → e < length ts → IsSmall (tree ts e)

under_small : (ts : List Expression) (ds : List ℕ) (x : Statement) → AreSmallTrees ts → AllBelow (length ts) ds → AllSmall (expressions x) → AllSmall (expressions (under ts ds x))
under_small ts [] x s h k = k
under_small ts (d ∷ ds) x s h k = (s d h.0, under_small ts ds x s h.1 k)

form_small : (ts : List Expression) (f : Form) → AreSmallTrees ts → FormBelow (length ts) f → AllSmall (claim_expressions (claim_in ts f))
form_small ts (Ty A) s h = (s A h, tt)
form_small ts (Tm t A) s h = (s t h.0, (s A h.1, tt))
form_small ts (EqTy A B) s h = (s A h.0, (s B h.1, tt))
form_small ts (EqTm l r A) s h = (s l h.0, (s r h.1, (s A h.2, tt)))

goal_small : (ts : List Expression) (g : Goal) → AreSmallTrees ts → GoalBelow (length ts) g → AllSmall (claim_expressions (goal_in ts g))
goal_small ts goal.Ty s h = tt
goal_small ts (goal.Tm A) s h = (s A h, tt)
goal_small ts (goal.EqTy A B) s h = (s A h.0, (s B h.1, tt))
goal_small ts (goal.EqTm l r A) s h = (s l h.0, (s r h.1, (s A h.2, tt)))

pub thesis_small : (ts : List Expression) (x : Thesis) → AreSmallTrees ts → ThesisBelow (length ts) x → AllSmall (expressions (thesis_in ts x))
thesis_small ts x s h = under_small ts x.domains (plain (claim_in ts x.form)) s h.0 (form_small ts x.form s h.1)

pub boundary_small : (ts : List Expression) (b : Boundary) → AreSmallTrees ts → BoundaryBelow (length ts) b → AllSmall (expressions (boundary_in ts b))
boundary_small ts b s h = under_small ts b.domains (plain (goal_in ts b.goal)) s h.0 (goal_small ts b.goal s h.1)
