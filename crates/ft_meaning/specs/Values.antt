-- Values, the state of a run, how an evaluation ends, and evaluations in a row.
use Rattle.std.specs.Prelude.{ℕ, Bool, Option, Some, None, List, [], ◌∷◌, Result, Ok, Err}
use Rattle.ft_theory.specs.Rules.{Rule}
use Rattle.ft_items.specs.Item.{Name}
use Rattle.ft_items.specs.Store.{Assertion, Declarations}
use Rattle.ft_reference.specs.Refusals.{Refusal, TooBig}
use Rattle.ft_reference.specs.Declare.{Outcome as Declaration, RuleFault}
use Rattle.ft_equality.specs.Shapes.{ShapeFault, EqualityRules}
use Rattle.ft_equality.specs.Programs.{Units, Answer, Spent, NotSmall, spend as spend_unit}
use Rattle.ft_meaning.specs.Names.{rule_of_name}

-- A value: a judgement or a boundary with the set that it rests on, the unit, a truth value, a pair, a list, an option.
pub data Value : Type 0 where
  judgement : Assertion → Value
  boundary : Assertion → Value
  unit : Value
  truth : Bool → Value
  pair : Value → Value → Value
  nil : Value
  cons : Value → Value → Value
  none : Value
  some : Value → Value

-- the named values, the innermost first
abbrev pub Environment : Type 0
Environment = List (Name × Value)

-- the state of a run: what is declared to the nucleus; the equality rules declared; and the units
pub record State : Type 0 where
  pub declarations : Declarations
  pub equality_rules : EqualityRules
  pub units : Units

-- Why a run ends: an operation has no case; the nucleus refuses; no case matches; a rule or an equality rule is not declared.
pub data Fault : Type 0 where
  Unhandled : Name → Fault
  Refused : Refusal → Fault
  NoMatch : Fault
  OfRule : RuleFault → Fault
  OfShape : ShapeFault → Fault

-- How a run halts: it fails at a place, or a unit is needed at a place and none is left. Where a value is not of the kind that its
-- form needs, or a name has no rule, it is stuck, which typing excludes.
pub data Halt : Type 0 where
  fails : Fault → ℕ → Halt
  spent : ℕ → Halt
  stuck : Halt

-- How an evaluation ends without a value: it performs an operation with an argument, at a place; or the run halts.
pub data End : Type 0 where
  performs : Name → Value → ℕ → End
  halts : Halt → End

-- a value or an end, and the state after it
abbrev pub Outcome : Type 0 → Type 0
Outcome A = Result A End × State

-- an evaluation goes from a state to an outcome
abbrev pub Run : Type 0 → Type 0
Run A = State → Outcome A

-- what follows a value
abbrev pub after : {A B : Type 0} → Outcome A → (A → Run B) → Outcome B
after (Ok a, s) next = next a s
after (Err e, s) next = (Err e, s)

infixl 10 ◌>>=◌
-- an evaluation, and what follows its value
abbrev pub ◌>>=◌ : {A B : Type 0} → Run A → (A → Run B) → Run B
◌>>=◌ m next = λ s. after (m s) next

infixl 10 ◌>>◌
-- the same without the value
abbrev pub ◌>>◌ : {A B : Type 0} → Run A → Run B → Run B
◌>>◌ m n = λ s. after (m s) (λ a. n)

-- a value at once
abbrev pub pure : {A : Type 0} → A → Run A
pure a = λ s. (Ok a, s)

-- an end at once
abbrev pub end : {A : Type 0} → End → Run A
end e = λ s. (Err e, s)

-- the run halts at once
abbrev pub halt : {A : Type 0} → Halt → Run A
halt h = end (halts h)

-- what there is; else the evaluation is stuck
abbrev pub the : {A : Type 0} → Option A → Run A
the (Some a) = pure a
the None = halt stuck

-- an answer that is counted in units, with its stops at the place
abbrev pub settled : {A : Type 0} → ℕ → State → Answer A → Outcome A
settled at s (Ok a, u) = (Ok a, record s { units = u })
settled at s (Err Spent, u) = (Err (halts (spent at)), record s { units = u })
settled at s (Err NotSmall, u) = (Err (halts (fails (Refused TooBig) at)), record s { units = u })

-- a unit is spent at a place, as the equality checker spends one
abbrev pub spend : ℕ → Run (Unit {0})
spend at = λ s. settled at s (spend_unit s.units (λ u. (Ok tt, u)))

-- a call of the equality checker over the declarations, the equality rules and the units, made at a place
abbrev pub checker : {A : Type 0} → ℕ → (Declarations → EqualityRules → Units → Answer A) → Run A
checker at ask = λ s. settled at s (ask s.declarations s.equality_rules s.units)

-- an answer of the nucleus; a refusal is a fault at the place
abbrev pub answered : {A : Type 0} → ℕ → Result A Refusal → Run A
answered at (Ok a) = pure a
answered at (Err r) = halt (fails (Refused r) at)

-- a call of the nucleus over the declarations, made at a place
abbrev pub nucleus : {A : Type 0} → ℕ → (Declarations → Result A Refusal) → Run A
nucleus at ask = λ s. answered at (ask s.declarations) s

-- what a declaration leaves and answers; a refusal becomes a fault at the place
abbrev pub after_declaration : {A E : Type 0} → (E → Fault) → ℕ → Declarations → Result A E → Run A
after_declaration fault at W (Ok a) = λ s. (Ok a, record s { declarations = W })
after_declaration fault at W (Err e) = halt (fails (fault e) at)

-- a declaration over those before, made at a place
abbrev pub declare : {A E : Type 0} → (E → Fault) → ℕ → (Declarations → Declaration Declarations A E) → Run A
declare fault at d = λ s. after_declaration fault at (d s.declarations).after (d s.declarations).answer s

-- the rule of a name
abbrev pub the_rule : Name → Run (ℕ × Rule)
the_rule n = λ s. the (rule_of_name s.declarations n) s

-- the value is a judgement
abbrev pub as_judgement : Value → Run Assertion
as_judgement (judgement j) = pure j
as_judgement v = halt stuck

-- the value is a judgement or a boundary
abbrev pub as_statement : Value → Run Assertion
as_statement (judgement j) = pure j
as_statement (boundary b) = pure b
as_statement v = halt stuck

-- the value is a list of judgements
abbrev pub as_judgements : Value → Run (List Assertion)
as_judgements nil = pure []
as_judgements (cons v w) = as_judgement v >>= λ j. as_judgements w >>= λ js. pure (j ∷ js)
as_judgements v = halt stuck
