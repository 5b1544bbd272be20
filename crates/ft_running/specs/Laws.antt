-- What holds of states that go further, as the laws state it.
use Rattle.std.specs.Prelude.{ℕ, ◌≡◌, ◌≤◌, Result}
use Rattle.ft_items.specs.Item.{Stated}
use Rattle.ft_items.specs.Store.{variables_in}
use Rattle.ft_base.specs.Budget.{Budget}
use Rattle.ft_judge.specs.declared.fault.Fault.{Fault}
use Rattle.ft_kernel.specs.State.{State, next_number, IsThesisOf, IsBoundaryOf}
use Rattle.ft_calls.specs.Answers.{Answers}
use Rattle.ft_meaning.specs.Values.{Value as Meant, as_judgement, the, State as Running}
use Rattle.ft_values.specs.declared.scopes.Scope.{Scope}
use Rattle.ft_values.specs.declared.values.Value.{Value}
use Rattle.ft_values.specs.Kept.{HasMore, GoesOn}
use Rattle.ft_running.specs.Evaluation.{Evaluation, IsEvaluation, GoesFurther, IsValueOf}
use Rattle.ft_running.specs.Evaluation.{value_over, IsScopeIn, environment_of, with_list}
use Rattle.ft_running.specs.Readers.{judgement_in}

abbrev pub StaysItself : Type 0
StaysItself = (e : Evaluation) → GoesFurther e e

abbrev pub GoesOverBoth : Type 0
GoesOverBoth = (e f g : Evaluation) → GoesFurther e f → GoesFurther f g → GoesFurther e g

-- a value stays one of the state, and what it is over it
abbrev pub ValuesStay : Type 0
ValuesStay = (e f : Evaluation) (v : Value) → IsEvaluation e → GoesFurther e f → IsValueOf e v
    → IsValueOf f v × (value_over f v ≡ value_over e v)

-- a scope stays one of the state, and what its names stand for
abbrev pub ScopesStay : Type 0
ScopesStay = (e f : Evaluation) (s : Scope) → IsEvaluation e → GoesFurther e f → IsScopeIn e s
    → IsScopeIn f s × (environment_of f s ≡ environment_of e s)

-- the entries of the list stay theses and boundaries
abbrev pub ThesesStay : Type 0
ThesesStay = (e f : Evaluation) (j : ℕ) → GoesFurther e f → IsThesisOf e.list j → IsThesisOf f.list j

abbrev pub BoundariesStay : Type 0
BoundariesStay = (e f : Evaluation) (b : ℕ) → GoesFurther e f → IsBoundaryOf e.list b
    → IsBoundaryOf f.list b

-- a call of the nucleus leaves a state that goes further
abbrev pub CallsGoFurther : Type 0
CallsGoFurther = (e : Evaluation) (n : Stated) (r : Result ℕ Fault) (t : State) → IsEvaluation e
    → Answers e.list n r t → IsEvaluation (with_list t e) × GoesFurther e (with_list t e)

-- a list that goes on, with units for its variables, leaves a state that goes further
abbrev pub ListsGoFurther : Type 0
ListsGoFurther = (e : Evaluation) (t : State) (u : Budget) → IsEvaluation e → GoesOn e.list t
    → next_number (variables_in t.items) ≤ u.used → e.units.used ≤ u.used → u.used ≤ u.total
    → u.total ≡ e.units.total
    → let f : Evaluation = record e { list = t; units = u } in IsEvaluation f × GoesFurther e f

-- where items are added to the list, and no variable among them, a state is left
abbrev pub ListsMayGrow : Type 0
ListsMayGrow = (e : Evaluation) (t : State) → IsEvaluation e → HasMore e.list t
    → variables_in t.items ≡ variables_in e.list.items → IsEvaluation (with_list t e)

-- a judgement as the meaning wants one
abbrev pub JudgementsAreRead : Type 0
JudgementsAreRead = (v : Meant) (s : Running) → as_judgement v s ≡ the (judgement_in v) s
