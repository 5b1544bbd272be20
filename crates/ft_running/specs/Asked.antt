-- What the evaluator asks of a state, as runs of the meaning, and what is told of them.
use Rattle.std.specs.Prelude.{ℕ, ◌≡◌, ◌<◌, Option, Some, None, List, [], length, Result, Ok, Err}
use Rattle.ft_theory.specs.Statements.{type_goal}
use Rattle.ft_theory.specs.Rules.{Rule}
use Rattle.ft_theory.specs.Rules.{look_up}
use Rattle.ft_items.specs.Item.{Name}
use Rattle.ft_items.specs.Store.{Assertion, Annotation, declared_by, rule_named, rules_in}
use Rattle.ft_reference.specs.Nucleus as reference
use Rattle.ft_grammar.specs.declared.form.OneForm.{OneForm}
use Rattle.ft_grammar.specs.declared.form.OneForm.TheVariants.{Normal}
use Rattle.ft_grammar.specs.declared.form.TwoForm.{TwoForm}
use Rattle.ft_grammar.specs.declared.form.TwoForm.TheVariants.{Equal, Fill}
use Rattle.ft_kernel.specs.State.{IsVariableOf, IsThesisOf, IsBoundaryOf}
use Rattle.ft_meaning.specs.Values as meaning
use Rattle.ft_meaning.specs.Values.{Run, ◌>>=◌, pure, end, performs, nucleus, as_judgement, as_judgements, the_rule}
use Rattle.ft_meaning.specs.Forms.{make_variable, fitting, judged, substitute_value, coerce}
use Rattle.ft_telling.specs.Telling.{variable_at}
use Rattle.ft_telling.specs.Words.{stated_all}
use Rattle.ft_values.specs.declared.values.Value.{Value}
use Rattle.ft_values.specs.Kept.{stated_at}
use Rattle.ft_running.specs.declared.ending.End.{End}
use Rattle.ft_running.specs.Evaluation.{Evaluation, run_of, IsValueOf, value_over}
use Rattle.ft_running.specs.Telling.{TellsEnd}

-- all words before one atom but `normal`, and all before two but `equal`
abbrev pub IsNoNormal : OneForm → Type 0
IsNoNormal Normal = ⊥
IsNoNormal w = Unit {0}

abbrev pub IsNoEqual : TwoForm → Type 0
IsNoEqual Equal = ⊥
IsNoEqual w = Unit {0}

-- the words at two judgements, but `equal`
abbrev pub IsOfJudgements : TwoForm → Type 0
IsOfJudgements Equal = ⊥
IsOfJudgements Fill = ⊥
IsOfJudgements w = Unit {0}

-- the rule of a number with this number, or a dummy
abbrev pub rule_or : Option (ℕ × Rule) → ℕ × Rule
rule_or (Some R) = R
rule_or None = (0, record { premises = []; conclusion = type_goal })

abbrev pub rule_in : Evaluation → ℕ → ℕ × Rule
rule_in e r = rule_or (rule_named (declared_by e.list.items) r)

-- the number is that of a rule of the list
abbrev pub IsRuleOf : Evaluation → ℕ → Type 0
IsRuleOf e r = (r < length (rules_in e.list.items)) × (R : ℕ × Rule)
    × (rule_named (declared_by e.list.items) r ≡ Some R)

-- the number is that of a variable which the list declares
abbrev pub IsVariableIn : Evaluation → ℕ → Type 0
IsVariableIn e y = IsVariableOf e.list y × (d : Annotation)
    × (look_up (declared_by e.list.items).variables y ≡ Some d)

-- what the entries of these numbers state
abbrev pub judgements_of : Evaluation → List ℕ → List Assertion
judgements_of e js = stated_all e.list js

-- A unit is spent, or the run ends as is told.
abbrev pub TellsSpent : meaning.Outcome (Unit {0}) → Result (Unit {0}) End → Evaluation → Type 0
TellsSpent o (Ok x) e = o ≡ (Ok tt, run_of e)
TellsSpent o (Err end) e = TellsEnd o end e

-- The run gives the variable, with what is declared under it, or ends as is told.
abbrev pub TellsDeclared : meaning.Outcome (ℕ × Annotation) → Result ℕ End → Evaluation → Type 0
TellsDeclared o (Ok y) e = (o ≡ (Ok (variable_at e.list y), run_of e)) × IsVariableIn e y
TellsDeclared o (Err end) e = TellsEnd o end e

-- a new variable of the type that a value is, and its judgement
abbrev pub new_term : ℕ → Name → meaning.Value → Run ((ℕ × Annotation) × meaning.Value)
new_term at x v = do
  A ← as_judgement v
  y ← make_variable at x A
  j ← nucleus at (λ W. reference.variable W y)
  pure (y, meaning.judgement j)

-- The run gives the variable with its judgement, or ends as is told.
abbrev pub TellsTerm : meaning.Outcome ((ℕ × Annotation) × meaning.Value)
    → Result (ℕ × Value) End → Evaluation → Type 0
TellsTerm o (Ok p) e = (o ≡ (Ok (variable_at e.list p.0, value_over e p.1), run_of e))
    × IsVariableIn e p.0 × IsValueOf e p.1
TellsTerm o (Err end) e = TellsEnd o end e

-- the judgement that a value is, where it fits the boundary of the rule's premise after arguments
abbrev pub next_argument : ℕ → ℕ × Rule → List Assertion → meaning.Value → Run Assertion
next_argument at R js v = do
  j ← as_judgement v
  b ← nucleus at (λ W. reference.next_boundary W R js)
  fitting at j b

-- The run gives what the entry states, or ends as is told.
abbrev pub TellsEntry : meaning.Outcome Assertion → Result ℕ End → Evaluation → Type 0
TellsEntry o (Ok j) e = (o ≡ (Ok (stated_at e.list j), run_of e)) × IsThesisOf e.list j
TellsEntry o (Err end) e = TellsEnd o end e

-- `coerce` is performed in place of a judgement
abbrev pub coerced : ℕ → Assertion → Assertion → Run Assertion
coerced at j b = coerce at j b

-- The run gives what the boundary of the entry states, or ends as is told.
abbrev pub TellsGoal : meaning.Outcome Assertion → Result ℕ End → Evaluation → Type 0
TellsGoal o (Ok b) e = (o ≡ (Ok (stated_at e.list b), run_of e)) × IsBoundaryOf e.list b
TellsGoal o (Err end) e = TellsEnd o end e

-- a part of an application, and the congruence of a rule, at values
abbrev pub argument_at : ℕ → ℕ → meaning.Value → Run meaning.Value
argument_at at i v = as_judgement v >>= λ j. judged at (λ W. reference.argument W i j)

abbrev pub congruence_at : ℕ → Name → meaning.Value → meaning.Value → Run meaning.Value
congruence_at at n v w = do
  js ← as_judgements v
  es ← as_judgements w
  r ← the_rule n
  judged at (λ W. reference.congruence W r js es)

-- an operation performed with a value
abbrev pub performed_at : ℕ → Name → meaning.Value → Run meaning.Value
performed_at at n v = end (performs n v at)

-- a term put into a value
abbrev pub put_at : ℕ → meaning.Value → meaning.Value → Run meaning.Value
put_at at v u = as_judgement u >>= λ t. substitute_value at v t
