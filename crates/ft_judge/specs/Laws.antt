-- Laws of theses and boundaries over a table that goes on.
use Rattle.std.specs.Prelude.{ℕ, true, false, ◌≡◌, ◌<◌, ◌≤◌, refl, List, [], ◌∷◌, ◌++◌, length, map}
use Rattle.std.proofs.Common.{◌∙◌, ap, ap₂}
use Rattle.std.proofs.Math.Nat as nat
use Rattle.ft_theory.specs.Expressions.{Expression}
use Rattle.ft_theory.specs.Statements.{is_type, has_type, equal_types, equal_terms, term_goal, type_equation_goal, term_equation_goal, Statement, plain, abstracted}
use Rattle.ft_items.specs.Equal.{is_thesis, is_thesis_claim}
use Rattle.ft_syntax.specs.Table.{tree, Extends, AllBelow}
use Rattle.ft_syntax.specs.Laws.{length_extends, all_longer, tree_extends}
use Rattle.ft_judge.specs.Meaning.{claim_in, goal_in, under, thesis_in, boundary_in, FormBelow, GoalBelow, ThesisBelow, BoundaryBelow}
use Rattle.ft_judge.specs.declared.judgement.Form.{Form}
use Rattle.ft_judge.specs.declared.judgement.Form.TheVariants.{Ty, Tm, EqTy, EqTm}
use Rattle.ft_judge.specs.declared.judgement.Goal.{Goal}
use Rattle.ft_judge.specs.declared.judgement.Goal.TheVariants as goal
use Rattle.ft_judge.specs.declared.judgement.Thesis.{Thesis}
use Rattle.ft_judge.specs.declared.judgement.Boundary.{Boundary}

-- what is among the first n trees is among more
pub form_longer : (n m : ℕ) (f : Form) → n ≤ m → FormBelow n f → FormBelow m f
form_longer n m (Ty A) l h = nat.lt_of_lt_of_le h l
form_longer n m (Tm t A) l h = (nat.lt_of_lt_of_le h.0 l, nat.lt_of_lt_of_le h.1 l)
form_longer n m (EqTy A B) l h = (nat.lt_of_lt_of_le h.0 l, nat.lt_of_lt_of_le h.1 l)
form_longer n m (EqTm s t A) l h = (nat.lt_of_lt_of_le h.0 l, nat.lt_of_lt_of_le h.1 l, nat.lt_of_lt_of_le h.2 l)

pub goal_longer : (n m : ℕ) (g : Goal) → n ≤ m → GoalBelow n g → GoalBelow m g
goal_longer n m goal.Ty l h = tt
goal_longer n m (goal.Tm A) l h = nat.lt_of_lt_of_le h l
goal_longer n m (goal.EqTy A B) l h = (nat.lt_of_lt_of_le h.0 l, nat.lt_of_lt_of_le h.1 l)
goal_longer n m (goal.EqTm s t A) l h = (nat.lt_of_lt_of_le h.0 l, nat.lt_of_lt_of_le h.1 l, nat.lt_of_lt_of_le h.2 l)

pub thesis_longer : (n m : ℕ) (x : Thesis) → n ≤ m → ThesisBelow n x → ThesisBelow m x
thesis_longer n m x l h = (all_longer n m x.domains l h.0, form_longer n m x.form l h.1)

pub boundary_longer : (n m : ℕ) (b : Boundary) → n ≤ m → BoundaryBelow n b → BoundaryBelow m b
boundary_longer n m b l h = (all_longer n m b.domains l h.0, goal_longer n m b.goal l h.1)

-- and so over a table that goes on
pub form_below_extends : (ts us : List Expression) (f : Form) → Extends ts us → FormBelow (length ts) f → FormBelow (length us) f
form_below_extends ts us f x h = form_longer (length ts) (length us) f (length_extends ts us x) h

pub goal_below_extends : (ts us : List Expression) (g : Goal) → Extends ts us → GoalBelow (length ts) g → GoalBelow (length us) g
goal_below_extends ts us g x h = goal_longer (length ts) (length us) g (length_extends ts us x) h

pub thesis_below_extends : (ts us : List Expression) (y : Thesis) → Extends ts us → ThesisBelow (length ts) y → ThesisBelow (length us) y
thesis_below_extends ts us y x h = thesis_longer (length ts) (length us) y (length_extends ts us x) h

pub boundary_below_extends : (ts us : List Expression) (b : Boundary) → Extends ts us → BoundaryBelow (length ts) b → BoundaryBelow (length us) b
boundary_below_extends ts us b x h = boundary_longer (length ts) (length us) b (length_extends ts us x) h

-- what is stated over a table is stated over one that goes on from it
pub claim_extends : (ts us : List Expression) (f : Form) → Extends ts us → FormBelow (length ts) f → claim_in us f ≡ claim_in ts f
claim_extends ts us (Ty A) x h = ap is_type (tree_extends ts us A x h)
claim_extends ts us (Tm t A) x h = ap₂ has_type (tree_extends ts us t x h.0) (tree_extends ts us A x h.1)
claim_extends ts us (EqTy A B) x h = ap₂ equal_types (tree_extends ts us A x h.0) (tree_extends ts us B x h.1)
claim_extends ts us (EqTm s t A) x h =
    ap₂ (λ a b. equal_terms a b (tree us A)) (tree_extends ts us s x h.0) (tree_extends ts us t x h.1)
    ∙ ap (equal_terms (tree ts s) (tree ts t)) (tree_extends ts us A x h.2)

pub goal_extends : (ts us : List Expression) (g : Goal) → Extends ts us → GoalBelow (length ts) g → goal_in us g ≡ goal_in ts g
goal_extends ts us goal.Ty x h = refl
goal_extends ts us (goal.Tm A) x h = ap term_goal (tree_extends ts us A x h)
goal_extends ts us (goal.EqTy A B) x h = ap₂ type_equation_goal (tree_extends ts us A x h.0) (tree_extends ts us B x h.1)
goal_extends ts us (goal.EqTm s t A) x h =
    ap₂ (λ a b. term_equation_goal a b (tree us A)) (tree_extends ts us s x h.0) (tree_extends ts us t x h.1)
    ∙ ap (term_equation_goal (tree ts s) (tree ts t)) (tree_extends ts us A x h.2)

pub under_extends : (ts us : List Expression) (ds : List ℕ) (s : Statement) → Extends ts us → AllBelow (length ts) ds → under us ds s ≡ under ts ds s
under_extends ts us [] s x h = refl
under_extends ts us (d ∷ ds) s x h = ap₂ abstracted (tree_extends ts us d x h.0) (under_extends ts us ds s x h.1)

pub thesis_extends : (ts us : List Expression) (y : Thesis) → Extends ts us → ThesisBelow (length ts) y → thesis_in us y ≡ thesis_in ts y
thesis_extends ts us y x h =
    under_extends ts us y.domains (plain (claim_in us y.form)) x h.0 ∙ ap (λ c. under ts y.domains (plain c)) (claim_extends ts us y.form x h.1)

pub boundary_extends : (ts us : List Expression) (b : Boundary) → Extends ts us → BoundaryBelow (length ts) b → boundary_in us b ≡ boundary_in ts b
boundary_extends ts us b x h =
    under_extends ts us b.domains (plain (goal_in us b.goal)) x h.0 ∙ ap (λ c. under ts b.domains (plain c)) (goal_extends ts us b.goal x h.1)

-- a thesis states a thesis, and a boundary a boundary
pub under_thesis : (ts : List Expression) (ds : List ℕ) (s : Statement) → is_thesis (under ts ds s) ≡ is_thesis s
under_thesis ts [] s = refl
under_thesis ts (d ∷ ds) s = under_thesis ts ds s

pub claim_is : (ts : List Expression) (f : Form) → is_thesis_claim (claim_in ts f) ≡ true
claim_is ts (Ty A) = refl
claim_is ts (Tm t A) = refl
claim_is ts (EqTy A B) = refl
claim_is ts (EqTm s t A) = refl

pub goal_is : (ts : List Expression) (g : Goal) → is_thesis_claim (goal_in ts g) ≡ false
goal_is ts goal.Ty = refl
goal_is ts (goal.Tm A) = refl
goal_is ts (goal.EqTy A B) = refl
goal_is ts (goal.EqTm s t A) = refl

pub thesis_is : (ts : List Expression) (x : Thesis) → is_thesis (thesis_in ts x) ≡ true
thesis_is ts x = under_thesis ts x.domains (plain (claim_in ts x.form)) ∙ claim_is ts x.form

pub boundary_is : (ts : List Expression) (b : Boundary) → is_thesis (boundary_in ts b) ≡ false
boundary_is ts b = under_thesis ts b.domains (plain (goal_in ts b.goal)) ∙ goal_is ts b.goal
