-- Filling and taking apart, as statements.
use Rattle.std.proofs.Common.{◌≡◌, ℕ, List, [], ◌∷◌, Option, Some, None, option_map, refl, sym, ap, ◌∙◌}
use Rattle.ft_theory.specs.Expressions.{Expression}
use Rattle.ft_theory.specs.Statements.{Claim, plain, abstracted, fill_goal, fill, boundary_of_claim, boundary_of}
use Rattle.ft_syntax.specs.Table.{tree}
use Rattle.ft_judge.specs.Meaning.{claim_in, goal_in, under, thesis_in, boundary_in, head_of_form, goal_of_form, boundary_of_thesis, IsHeadFor, filled_form, filled, head_in, head_of_claim, head_of_statement}
use Rattle.ft_judge.specs.declared.judgement.Form.{Form}
use Rattle.ft_judge.specs.declared.judgement.Form.TheVariants.{Ty, Tm, EqTy, EqTm}
use Rattle.ft_judge.specs.declared.judgement.Goal.{Goal}
use Rattle.ft_judge.specs.declared.judgement.Goal.TheVariants as goal
use Rattle.ft_judge.specs.declared.judgement.Thesis.{Thesis}
use Rattle.ft_judge.specs.declared.judgement.Boundary.{Boundary}

pub fill_under : (ts : List Expression) (As : List ℕ) (c : Claim) (h : Expression) → fill (under ts As (plain c)) h ≡ under ts As (plain (fill_goal c h))
fill_under ts [] c h = refl
fill_under ts (A ∷ As) c h = ap (abstracted (tree ts A)) (fill_under ts As c h)

boundary_under : (ts : List Expression) (As : List ℕ) (c : Claim) → boundary_of (under ts As (plain c)) ≡ under ts As (plain (boundary_of_claim c))
boundary_under ts [] c = refl
boundary_under ts (A ∷ As) c = ap (abstracted (tree ts A)) (boundary_under ts As c)

head_under : (ts : List Expression) (As : List ℕ) (c : Claim) → head_of_statement (under ts As (plain c)) ≡ head_of_claim c
head_under ts [] c = refl
head_under ts (A ∷ As) c = head_under ts As c

filled_claim : (ts : List Expression) (g : Goal) (h : Option ℕ) → IsHeadFor g h → claim_in ts (filled_form g h) ≡ fill_goal (goal_in ts g) (head_in ts h)
filled_claim ts goal.Ty (Some h) k = refl
filled_claim ts goal.Ty None k = absurd k
filled_claim ts (goal.Tm A) (Some h) k = refl
filled_claim ts (goal.Tm A) None k = absurd k
filled_claim ts (goal.EqTy A B) h k = refl
filled_claim ts (goal.EqTm s t A) h k = refl

pub filling : (ts : List Expression) (b : Boundary) (h : Option ℕ) (x : Thesis) → IsHeadFor b.goal h → x ≡ filled b h → thesis_in ts x ≡ fill (boundary_in ts b) (head_in ts h)
filling ts b h x k e =
    ap (thesis_in ts) e ∙ ap (λ c. under ts b.domains (plain c)) (filled_claim ts b.goal h k) ∙ sym (fill_under ts b.domains (goal_in ts b.goal) (head_in ts h))

goal_claim : (ts : List Expression) (f : Form) → goal_in ts (goal_of_form f) ≡ boundary_of_claim (claim_in ts f)
goal_claim ts (Ty A) = refl
goal_claim ts (Tm t A) = refl
goal_claim ts (EqTy A B) = refl
goal_claim ts (EqTm s t A) = refl

pub boundary_taken : (ts : List Expression) (x : Thesis) (b : Boundary) → b ≡ boundary_of_thesis x → boundary_in ts b ≡ boundary_of (thesis_in ts x)
boundary_taken ts x b e =
    ap (boundary_in ts) e ∙ ap (λ c. under ts x.domains (plain c)) (goal_claim ts x.form) ∙ sym (boundary_under ts x.domains (claim_in ts x.form))

head_claim : (ts : List Expression) (f : Form) → option_map (tree ts) (head_of_form f) ≡ head_of_claim (claim_in ts f)
head_claim ts (Ty A) = refl
head_claim ts (Tm t A) = refl
head_claim ts (EqTy A B) = refl
head_claim ts (EqTm s t A) = refl

pub head_taken : (ts : List Expression) (x : Thesis) (h : Option ℕ) → h ≡ head_of_form x.form → option_map (tree ts) h ≡ head_of_statement (thesis_in ts x)
head_taken ts x h e = ap (option_map (tree ts)) e ∙ head_claim ts x.form ∙ sym (head_under ts x.domains (claim_in ts x.form))
