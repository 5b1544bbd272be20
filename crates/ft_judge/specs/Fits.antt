-- When a thesis fits a boundary, and the first difference where it does not.
use Rattle.std.specs.Prelude.{ℕ, zero, suc, ◌≡◌, ◌≢◌, ◌⊎◌, List, [], ◌∷◌, ◌++◌, length, Result, Err, IsOk, ⊤}
use Rattle.ft_theory.specs.Expressions.{Expression}
use Rattle.ft_syntax.specs.Table.{tree}
use Rattle.ft_judge.specs.declared.judgement.Form.{Form}
use Rattle.ft_judge.specs.declared.judgement.Form.TheVariants.{Ty, Tm, EqTy, EqTm}
use Rattle.ft_judge.specs.declared.judgement.Goal.{Goal}
use Rattle.ft_judge.specs.declared.judgement.Goal.TheVariants as goal
use Rattle.ft_judge.specs.declared.judgement.Thesis.{Thesis}
use Rattle.ft_judge.specs.declared.judgement.Boundary.{Boundary}
use Rattle.ft_judge.specs.declared.fault.Differ.{Differ}
use Rattle.ft_judge.specs.declared.fault.Refusal.{Refusal}
use Rattle.ft_judge.specs.declared.fault.Refusal.TheVariants.{TypeDiffers, SidesDiffer}

-- two expressions that are compared: types, or sides of an equation
pub data Comparison : Type 0 where
  types : Differ → Comparison
  sides : Differ → Comparison

abbrev pub pair_of : Comparison → Differ
pair_of (types d) = d
pair_of (sides d) = d

-- what is refused where the two differ
abbrev pub refusal_of : Comparison → Refusal
refusal_of (types d) = TypeDiffers d
refusal_of (sides d) = SidesDiffer d

abbrev pub differ : ℕ → ℕ → ℕ → Differ
differ e f k = record { found = e; wanted = f; under = k }

-- the domains, from the first, each under the domains before it
abbrev pub domain_comparisons : ℕ → List ℕ → List ℕ → List Comparison
domain_comparisons k [] Bs = []
domain_comparisons k (A ∷ As) [] = []
domain_comparisons k (A ∷ As) (B ∷ Bs) = types (differ A B k) ∷ domain_comparisons (suc k) As Bs

-- below the domains: for a term its type; for an equation of types its sides; for one of terms its type, then its sides
abbrev pub form_comparisons : ℕ → Form → Goal → List Comparison
form_comparisons k (Tm t A) (goal.Tm B) = types (differ A B k) ∷ []
form_comparisons k (EqTy A B) (goal.EqTy C D) = sides (differ A C k) ∷ sides (differ B D k) ∷ []
form_comparisons k (EqTm s t A) (goal.EqTm u v B) = types (differ A B k) ∷ sides (differ s u k) ∷ sides (differ t v k) ∷ []
form_comparisons k f g = []

-- what is compared, in order
abbrev pub comparisons : Thesis → Boundary → List Comparison
comparisons x b = domain_comparisons zero x.domains b.domains ++ form_comparisons (length x.domains) x.form b.goal

-- the form is one for the goal
abbrev pub IsFormFor : Form → Goal → Type 0
IsFormFor (Ty A) goal.Ty = Unit {0}
IsFormFor (Tm t A) (goal.Tm B) = Unit {0}
IsFormFor (EqTy A B) (goal.EqTy C D) = Unit {0}
IsFormFor (EqTm s t A) (goal.EqTm u v B) = Unit {0}
IsFormFor f g = ⊥

-- a form for the goal, and as many domains
abbrev pub IsSameForm : Thesis → Boundary → Type 0
IsSameForm x b = IsFormFor x.form b.goal × (length x.domains ≡ length b.domains)

-- the outcome of the comparisons: the first difference is refused
abbrev pub IsFirstDifference : List Expression → List Comparison → Result ⊤ Refusal → Type 0
IsFirstDifference ts [] r = IsOk r
IsFirstDifference ts (c ∷ cs) r = ((tree ts (pair_of c).found ≡ tree ts (pair_of c).wanted) × IsFirstDifference ts cs r)
    ⊎ ((tree ts (pair_of c).found ≢ tree ts (pair_of c).wanted) × (r ≡ Err (refusal_of c)))
