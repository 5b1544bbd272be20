-- A call tells of a run, by what it answers.
use Rattle.std.proofs.Common.{◌≡◌, ℕ, IfOk, sym, subst}
use Rattle.std.specs.Prelude.{Result}
use Rattle.ft_items.specs.Item.{Stated}
use Rattle.ft_items.specs.Store.{Assertion}
use Rattle.ft_base.specs.Budget.{Budget}
use Rattle.ft_meaning.specs.Values as meaning
use Rattle.ft_judge.specs.declared.fault.Fault.{Fault}
use Rattle.ft_kernel.specs.State.{State, IsThesisOf, IsBoundaryOf}
use Rattle.ft_calls.specs.Answers.{Answers}
use Rattle.ft_values.specs.Kept.{stated_at}
use Rattle.ft_telling.specs.declared.halt.Halt.{Halt}
use Rattle.ft_telling.specs.Telling.{state_of, halted_at, Tells, judgement_at, boundary_at}
use Rattle.ft_telling.specs.Telling.{TellsJudgement, TellsBoundary, TellsStatement}
use Rattle.ft_calling.specs.Calling.{Told, ToldJudgement, ToldBoundary, ToldThesis, ToldGoal}
use Rattle.ft_calling.proofs.Leaving.{call_leaves, call_same, halted_kind}

told_by : {A : Type 0} (seen : State → ℕ → A) (IsOf : State → ℕ → Type 0) (s t : State) (n : Stated)
    (m : meaning.Run A) (at : ℕ) (r : Result ℕ Fault) (o : Result ℕ Halt)
    → ((u : Budget) → Tells seen (m (state_of s u)) (halted_at at r) t u)
    → Answers s n r t → IfOk r (λ j. IsOf t j) → o ≡ halted_at at r → Told seen IsOf s m o t
told_by seen IsOf s t n m at r o tells h kind e =
    subst (λ o. Told seen IsOf s m o t) (sym e)
    (record {
      tells = tells;
      kind = halted_kind (λ j. IsOf t j) at r kind;
      leaves = call_leaves s t n r h;
      same = call_same s t n at r h;
    })

pub told_judgement : (s t : State) (n : Stated) (m : meaning.Run meaning.Value) (at : ℕ)
    (r : Result ℕ Fault) (o : Result ℕ Halt)
    → ((u : Budget) → TellsJudgement (m (state_of s u)) (halted_at at r) t u)
    → Answers s n r t → IfOk r (λ j. IsThesisOf t j) → o ≡ halted_at at r → ToldJudgement s m o t
told_judgement s t n m at r o tells h kind e =
    told_by judgement_at IsThesisOf s t n m at r o tells h kind e

pub told_boundary : (s t : State) (n : Stated) (m : meaning.Run meaning.Value) (at : ℕ)
    (r : Result ℕ Fault) (o : Result ℕ Halt)
    → ((u : Budget) → TellsBoundary (m (state_of s u)) (halted_at at r) t u)
    → Answers s n r t → IfOk r (λ b. IsBoundaryOf t b) → o ≡ halted_at at r → ToldBoundary s m o t
told_boundary s t n m at r o tells h kind e =
    told_by boundary_at IsBoundaryOf s t n m at r o tells h kind e

pub told_thesis : (s t : State) (n : Stated) (m : meaning.Run Assertion) (at : ℕ)
    (r : Result ℕ Fault) (o : Result ℕ Halt)
    → ((u : Budget) → TellsStatement (m (state_of s u)) (halted_at at r) t u)
    → Answers s n r t → IfOk r (λ j. IsThesisOf t j) → o ≡ halted_at at r → ToldThesis s m o t
told_thesis s t n m at r o tells h kind e =
    told_by stated_at IsThesisOf s t n m at r o tells h kind e

pub told_goal : (s t : State) (n : Stated) (m : meaning.Run Assertion) (at : ℕ)
    (r : Result ℕ Fault) (o : Result ℕ Halt)
    → ((u : Budget) → TellsStatement (m (state_of s u)) (halted_at at r) t u)
    → Answers s n r t → IfOk r (λ b. IsBoundaryOf t b) → o ≡ halted_at at r → ToldGoal s m o t
told_goal s t n m at r o tells h kind e =
    told_by stated_at IsBoundaryOf s t n m at r o tells h kind e
