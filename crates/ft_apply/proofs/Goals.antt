-- Comparison of a boundary with a goal over a table, as checks of the reference.
use Rattle.std.proofs.Common.{◌≡◌, ℕ, false, List, [], ◌∷◌, length, refl}
use Rattle.std.specs.Prelude.{◌==◌}
use Rattle.ft_theory.specs.Expressions.{Expression}
use Rattle.ft_theory.specs.Statements.{plain}
use Rattle.ft_reference.specs.Compare.{boundary_checks}
use Rattle.ft_judge.specs.Meaning.{goal_in, under, boundary_in}
use Rattle.ft_judge.specs.declared.judgement.Goal.{Goal}
use Rattle.ft_judge.specs.declared.judgement.Boundary.{Boundary}
use Rattle.ft_judge.specs.declared.fault.Refusal.TheVariants.{WrongForm}
use Rattle.ft_calls.specs.Forming.{Refuses, plain_goal_in}

-- one with domains
pub domains_unlike : (ts : List Expression) (b : Boundary) (g : Goal) → (length b.domains == 0) ≡ false → Refuses ts (boundary_checks (boundary_in ts b) (plain_goal_in ts g)) WrongForm
domains_unlike ts b g e = go b.domains e
  where
    go : (ds : List ℕ) → (length ds == 0) ≡ false → Refuses ts (boundary_checks (under ts ds (plain (goal_in ts b.goal))) (plain_goal_in ts g)) WrongForm
    go [] e = let no : ⊥ = cc in absurd no
    go (d ∷ ds) e = (refl, tt)
