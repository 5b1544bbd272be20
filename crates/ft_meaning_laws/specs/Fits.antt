-- Values of types, and states that fit a scope.
use Rattle.std.specs.Prelude.{ℕ, ◌≡◌, true, Option, Some, None, Result, Ok, Err, List, [], ◌∷◌, length, codes}
use Rattle.ft_theory.specs.Rules.{Rule}
use Rattle.ft_items.specs.Item.{Name}
use Rattle.ft_items.specs.Store.{Declarations}
use Rattle.ft_items.specs.Good.{is_next}
use Rattle.ft_items.specs.Equal.{is_object_goal}
use Rattle.ft_meaning.specs.Names.{named, rule_of_name}
use Rattle.ft_meaning.specs.Trees.{ValueType, Command}
use Rattle.ft_meaning.specs.Trees as type
use Rattle.ft_meaning.specs.Typing.{RuleType, Scope, first_scope}
use Rattle.ft_meaning.specs.CommandTyping.{scope_after}
use Rattle.ft_meaning.specs.Values.{Value, judgement, boundary, unit, truth, pair, nil, cons, none, some, Environment, State, Halt, fails, spent, stuck}
use Rattle.ft_meaning.specs.Commands.{Done, run_command}
use Rattle.ft_meaning.specs.Transcript.{start}

-- the value has the type
abbrev pub HasType : Value → ValueType → Type 0
HasType (judgement a) type.judgement = Unit {0}
HasType (boundary a) type.boundary = Unit {0}
HasType unit type.unit = Unit {0}
HasType (truth b) type.bool = Unit {0}
HasType (pair v w) (type.pair A B) = HasType v A × HasType w B
HasType nil (type.list A) = Unit {0}
HasType (cons v w) (type.list A) = HasType v A × HasType w (type.list A)
HasType none (type.option A) = Unit {0}
HasType (some v) (type.option A) = HasType v A
HasType v A = ⊥

-- the named values have the types that the scope gives their names
abbrev pub HaveTypes : Environment → List (Name × ValueType) → Type 0
HaveTypes [] [] = Unit {0}
HaveTypes (p ∷ G) (q ∷ vs) = (p.0 ≡ q.0) × HasType p.1 q.1 × HaveTypes G vs
HaveTypes G vs = ⊥

-- The rule has the type: so many premises, and it makes a symbol, or it does not.
pub record RuleHasType (R : Rule) (t : RuleType) : Type 0 where
  pub premises : t.premises ≡ length R.premises
  pub kind : t.is_symbol ≡ is_object_goal R.conclusion

-- What a name means to a scope and among declarations: no rule to either, or a rule with its type.
abbrev pub SameRule : Option RuleType → Option (ℕ × Rule) → Type 0
SameRule None None = Unit {0}
SameRule (Some t) (Some R) = RuleHasType R.1 t
SameRule t R = ⊥

-- each name means the same rule, or none, to the scope and among the declarations
abbrev pub RulesFit : Scope → Declarations → Type 0
RulesFit scope W = (n : Name) → SameRule (named scope.rules n) (rule_of_name W n)

-- the operation `coerce` is declared
abbrev pub CanCoerce : Scope → Type 0
CanCoerce scope = named scope.operations (codes "coerce") ≡ Some (type.pair type.judgement type.boundary, type.judgement)

-- Units count past the variables: the number of the units used is greater than that of each variable.
abbrev pub CountsPast : State → Type 0
CountsPast s = is_next s.declarations.variables s.units.used ≡ true

-- The state, with its named values, fits a scope. Each rule that is declared has a name.
pub record Fits (scope : Scope) (G : Environment) (s : State) : Type 0 where
  pub values : HaveTypes G scope.values
  pub rules : RulesFit scope s.declarations
  pub names : length s.declarations.names ≡ length s.declarations.rules
  pub coerce : CanCoerce scope
  pub units : CountsPast s

-- What a command leaves fits the scope after it; where it halts the run it fits the one before. It is never stuck.
abbrev pub Leaves : Scope → Scope → Environment → Result (Done × Environment) Halt × State → Type 0
Leaves before further G (Ok d, s) = Fits further d.1 s
Leaves before further G (Err (fails why at), s) = Fits before G s
Leaves before further G (Err (spent at), s) = Fits before G s
Leaves before further G (Err stuck, s) = ⊥

-- A command that has a type, run in a state that fits its scope, leaves what fits.
abbrev pub TypedCommandsFit : Type 0
TypedCommandsFit = (c : Command) (before further : Scope) (G : Environment) (s : State)
    → Fits before G s → scope_after c before ≡ Ok further → Leaves before further G (run_command c G s)

-- The first state fits the first scope.
abbrev pub FirstStateFits : Type 0
FirstStateFits = (budget : ℕ) → Fits first_scope [] (start budget)
