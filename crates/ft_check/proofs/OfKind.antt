-- Of which kind a statement over a table is.
use Rattle.std.proofs.Common.{◌≡◌, ℕ, true, false, List, [], ◌∷◌, refl, sym, ap, ◌∙◌}
use Rattle.ft_theory.specs.Expressions.{Expression}
use Rattle.ft_theory.specs.Statements.{Statement, plain}
use Rattle.ft_items.specs.Equal.{is_thesis, is_plain}
use Rattle.ft_items.specs.Good.{is_plain_type}
use Rattle.ft_judge.specs.Laws as law
use Rattle.ft_judge.specs.Meaning.{claim_in, goal_in, under, thesis_in, boundary_in}
use Rattle.ft_judge.specs.declared.judgement.Form.{Form}
use Rattle.ft_judge.specs.declared.judgement.Form.TheVariants as form
use Rattle.ft_judge.specs.declared.judgement.Goal.{Goal}
use Rattle.ft_judge.specs.declared.judgement.Goal.TheVariants as goal
use Rattle.ft_judge.specs.declared.judgement.Thesis.{Thesis as ThesisValue}
use Rattle.ft_judge.specs.declared.judgement.Boundary.{Boundary as BoundaryValue}
use Rattle.ft_check.specs.Entries.{is_nil}

pub thesis_is : (ts : List Expression) (x : ThesisValue) → true ≡ is_thesis (thesis_in ts x)
thesis_is ts x = sym (law.thesis_is ts x)

pub boundary_is : (ts : List Expression) (x : BoundaryValue) → false ≡ is_thesis (boundary_in ts x)
boundary_is ts x = sym (law.boundary_is ts x)

-- plain where there are no domains
under_plain : (ts : List Expression) (As : List ℕ) (x : Statement) → is_plain x ≡ true → is_nil As ≡ is_plain (under ts As x)
under_plain ts [] x h = sym h
under_plain ts (A ∷ As) x h = refl

pub thesis_plain : (ts : List Expression) (x : ThesisValue) → is_nil x.domains ≡ is_plain (thesis_in ts x)
thesis_plain ts x = under_plain ts x.domains (plain (claim_in ts x.form)) refl

pub boundary_plain : (ts : List Expression) (x : BoundaryValue) → is_nil x.domains ≡ is_plain (boundary_in ts x)
boundary_plain ts x = under_plain ts x.domains (plain (goal_in ts x.goal)) refl

-- a plain type
under_type : (ts : List Expression) (As : List ℕ) (A : ℕ) → is_nil As ≡ is_plain_type (under ts As (plain (claim_in ts (form.Ty A))))
under_type ts [] A = refl
under_type ts (B ∷ As) A = refl

pub plain_type : (ts : List Expression) (x : ThesisValue) (A : ℕ) → x.form ≡ form.Ty A → is_nil x.domains ≡ is_plain_type (thesis_in ts x)
plain_type ts x A e = under_type ts x.domains A ∙ ap (λ f. is_plain_type (under ts x.domains (plain (claim_in ts f)))) (sym e)

under_no_type : (ts : List Expression) (As : List ℕ) (f : Form) → ((A : ℕ) → f ≡ form.Ty A → ⊥) → false ≡ is_plain_type (under ts As (plain (claim_in ts f)))
under_no_type ts [] (form.Ty A) h = absurd (h A refl)
under_no_type ts [] (form.Tm t A) h = refl
under_no_type ts [] (form.EqTy A B) h = refl
under_no_type ts [] (form.EqTm s t A) h = refl
under_no_type ts (A ∷ As) f h = refl

pub no_plain_type : (ts : List Expression) (x : ThesisValue) → ((A : ℕ) → x.form ≡ form.Ty A → ⊥) → false ≡ is_plain_type (thesis_in ts x)
no_plain_type ts x h = under_no_type ts x.domains x.form h

under_goal : (ts : List Expression) (As : List ℕ) (g : Goal) → false ≡ is_plain_type (under ts As (plain (goal_in ts g)))
under_goal ts [] goal.Ty = refl
under_goal ts [] (goal.Tm A) = refl
under_goal ts [] (goal.EqTy A B) = refl
under_goal ts [] (goal.EqTm s t A) = refl
under_goal ts (A ∷ As) g = refl

pub boundary_no_type : (ts : List Expression) (x : BoundaryValue) → false ≡ is_plain_type (boundary_in ts x)
boundary_no_type ts x = under_goal ts x.domains x.goal
