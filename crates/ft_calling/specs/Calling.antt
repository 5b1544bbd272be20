-- What a call of the nucleus, as the evaluator makes it, tells of a run over a kernel's list.
use Rattle.std.specs.Prelude.{ℕ, ◌≡◌, ◌<◌, ◌≤◌, Option, Some, None, [], Result, Ok, Err}
use Rattle.std.specs.Prelude.{IfOk, OnErr, length}
use Rattle.ft_theory.specs.Rules.{Rule}
use Rattle.ft_theory.specs.Rules as theory
use Rattle.ft_theory.specs.Statements.{type_goal}
use Rattle.ft_items.specs.Item.{Name}
use Rattle.ft_items.specs.Store.{Assertion, Annotation, declared_by, variables_in, rules_in}
use Rattle.ft_syntax.specs.Table.{Extends}
use Rattle.ft_base.specs.Budget.{Budget}
use Rattle.ft_meaning.specs.Values as meaning
use Rattle.ft_kernel.specs.State.{State, next_number, IsThesisOf, IsBoundaryOf, IsVariableOf}
use Rattle.ft_values.specs.Kept.{stated_at, GoesOn}
use Rattle.ft_telling.specs.declared.halt.Halt.{Halt}
use Rattle.ft_telling.specs.Telling.{state_of, Tells, TellsVariable, judgement_at, boundary_at}

-- what a call leaves: the list has the items that it had, and the table its trees; the declarations
-- are as they were
pub record Leaves (s t : State) : Type 0 where
  pub goes_on : GoesOn s t
  pub trees : Extends s.trees t.trees
  pub declared : declared_by t.items ≡ declared_by s.items
  pub variables : variables_in t.items ≡ variables_in s.items

-- A call tells of a run, from the list s to the list t: with any units, the run gives what the number
-- that is answered is seen as, and this is the number of such an entry; or it halts so, and then the
-- items are as before. Where memory was refused nothing is said of the run.
pub record Told {A : Type 0} (seen : State → ℕ → A) (IsOf : State → ℕ → Type 0) (s : State)
    (m : meaning.Run A) (r : Result ℕ Halt) (t : State) : Type 0 where
  pub tells : (u : Budget) → Tells seen (m (state_of s u)) r t u
  pub kind : IfOk r (λ n. IsOf t n)
  pub leaves : Leaves s t
  pub same : OnErr r (t.items ≡ s.items)

-- a run that gives a judgement, or a boundary, as a value
abbrev pub ToldJudgement : State → meaning.Run meaning.Value → Result ℕ Halt → State → Type 0
ToldJudgement s m r t = Told judgement_at IsThesisOf s m r t

abbrev pub ToldBoundary : State → meaning.Run meaning.Value → Result ℕ Halt → State → Type 0
ToldBoundary s m r t = Told boundary_at IsBoundaryOf s m r t

-- a run that gives a thesis, or a boundary, with its set
abbrev pub ToldThesis : State → meaning.Run Assertion → Result ℕ Halt → State → Type 0
ToldThesis s m r t = Told stated_at IsThesisOf s m r t

abbrev pub ToldGoal : State → meaning.Run Assertion → Result ℕ Halt → State → Type 0
ToldGoal s m r t = Told stated_at IsBoundaryOf s m r t

-- each variable has a number below this one
abbrev pub VariablesBelow : ℕ → State → Type 0
VariablesBelow n s = next_number (variables_in s.items) ≤ n

-- So for a run that declares a variable, from the units u to the units w: it gives the variable that
-- is answered, with what is declared of it.
pub record ToldVariable (s : State) (u : Budget) (m : meaning.Run (ℕ × Annotation))
    (r : Result ℕ Halt) (t : State) (w : Budget) : Type 0 where
  pub tells : TellsVariable (m (state_of s u)) r t w
  pub kind : IfOk r (λ v. IsVariableOf t v)
  pub goes_on : GoesOn s t
  pub trees : Extends s.trees t.trees
  pub below : VariablesBelow w.used t
  pub same : OnErr r (t.items ≡ s.items)

-- the number is that of a rule
abbrev pub IsRuleOf : State → ℕ → Type 0
IsRuleOf s r = r < length (rules_in s.items)

-- what there is, or else the rule of types without premises
abbrev pub rule_or : Option Rule → Rule
rule_or (Some R) = R
rule_or None = record { premises = []; conclusion = type_goal }

-- the rule of a number, with the number
abbrev pub rule_at : State → ℕ → ℕ × Rule
rule_at s r = (r, rule_or (theory.rule_at (declared_by s.items).rules r))

-- the run gives the rule that is answered, or is stuck where there is none, and changes nothing
abbrev pub TellsRule : meaning.Outcome (ℕ × Rule) → Option ℕ → State → Budget → Type 0
TellsRule o (Some r) s u = o ≡ (Ok (rule_at s r), state_of s u)
TellsRule o None s u = o ≡ (Err (meaning.halts meaning.stuck), state_of s u)

-- so it is of the run that looks for the rule of a name
abbrev pub ToldRule : State → Name → Option ℕ → Type 0
ToldRule s n r = (u : Budget) → TellsRule (meaning.the_rule n (state_of s u)) r s u
