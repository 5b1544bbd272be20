-- What is kept while a command is checked, and what the functions that check ensure.
use Rattle.std.specs.Prelude.{ℕ, ◌≡◌, ◌≢◌, List, [], ◌∷◌, ◌++◌, length, reverse, Result, Ok, Err}
use Rattle.ft_items.specs.Item.{Name}
use Rattle.ft_grammar.specs.declared.syntax.Named.{Named}
use Rattle.ft_meaning.specs.Trees.{Pattern, Form, place, ValueType}
use Rattle.ft_meaning.specs.Typing.{Wanted, Exactly, PairOf, ListOf, OptionOf}
use Rattle.ft_meaning.specs.Typing.{TypeWhy, Unbound, Twice, Mismatch, Arity, TypeFault, RuleType, Scope}
use Rattle.ft_meaning.specs.Typing.{fault_at, meant_by, ensure_arity, ensure_new, ensure_type, with_value}
use Rattle.ft_meaning.specs.Typing.{Bindings, case_scope, type_of}
use Rattle.ft_equality.specs.Results.{ensure, some_or, ◌>>=◌, ◌>>◌}
use Rattle.ft_types.specs.declared.fault.Wanted.{Wanted as AnyWanted}
use Rattle.ft_types.specs.declared.fault.Wanted.TheVariants as any
use Rattle.ft_types.specs.declared.fault.TypeWhy.{TypeWhy as AnyWhy}
use Rattle.ft_types.specs.declared.fault.TypeWhy.TheVariants as why
use Rattle.ft_types.specs.declared.fault.TypeFault.{TypeFault as AnyFault}
use Rattle.ft_types.specs.declared.types.KnownType.{KnownType}
use Rattle.ft_types.specs.declared.names.Entry.{Entry}
use Rattle.ft_types.specs.declared.checker.RuleShape.{RuleShape}
use Rattle.ft_types.specs.declared.checker.OperationShape.{OperationShape}
use Rattle.ft_types.specs.Names.{listed}
use Rattle.ft_types.specs.Types.{type_in, Below, Extends, stands_for}
use Rattle.ft_types.specs.Types.{list_part, option_part, pair_parts}

-- names with what becomes of their meanings
abbrev pub renamed : {A B : Type 0} → (A → B) → List (Name × A) → List (Name × B)
renamed f [] = []
renamed f (p ∷ ps) = (p.0, f p.1) ∷ renamed f ps

-- what typing knows of a rule
abbrev pub rule_in : RuleShape → RuleType
rule_in r = record { premises = r.premises; is_symbol = r.is_symbol }

-- the types of the argument and the result of an operation
abbrev pub operation_in : List ValueType → OperationShape → ValueType × ValueType
operation_in ts o = (type_in ts o.argument, type_in ts o.result)

-- all types of these names are among the first n
abbrev pub ValuesBelow : ℕ → List (Name × KnownType) → Type 0
ValuesBelow n [] = Unit {0}
ValuesBelow n (p ∷ ps) = Below n p.1 × ValuesBelow n ps

abbrev pub OperationsBelow : ℕ → List (Name × OperationShape) → Type 0
OperationsBelow n [] = Unit {0}
OperationsBelow n (p ∷ ps) = Below n p.1.argument × Below n p.1.result × OperationsBelow n ps

-- What is seen of a checker: the scope of the commands before, the names that stand for values within the
-- command, the last one first, and the table of types.
pub record Checking : Type 0 where
  pub top : Scope
  pub locals : List (Name × ValueType)
  pub types : List ValueType

-- the scope at hand
abbrev pub scope_of : Checking → Scope
scope_of v = record v.top { values = v.locals ++ v.top.values }

-- with one more value within the command
abbrev pub with_local : Name → ValueType → Checking → Checking
with_local n A v = record v { locals = (n, A) ∷ v.locals }

-- with another scope of the commands before
abbrev pub with_top : Checking → Scope → Checking
with_top v s = record v { top = s }

-- the scope with one more rule, or one more operation
abbrev pub with_rule : Name → RuleType → Scope → Scope
with_rule n r s = record s { rules = (n, r) ∷ s.rules }

abbrev pub with_operation : Name → ValueType × ValueType → Scope → Scope
with_operation n o s = record s { operations = (n, o) ∷ s.operations }

-- all types of a checker are in its table
pub record IsChecker (n : ℕ) (values : List (Name × KnownType)) (operations : List (Name × OperationShape))
    (locals : List (Name × KnownType)) : Type 0 where
  pub values_are : ValuesBelow n values
  pub operations_are : OperationsBelow n operations
  pub locals_are : ValuesBelow n locals

-- the scope of the commands before is as it was, and the table goes on
pub record Keeps (v w : Checking) : Type 0 where
  pub top : w.top ≡ v.top
  pub types : Extends v.types w.types

-- what is wanted, as it is defined
abbrev pub wanted_of : AnyWanted → Wanted
wanted_of (any.Exactly A) = Exactly (stands_for A)
wanted_of any.PairOf = PairOf
wanted_of any.ListOf = ListOf
wanted_of any.OptionOf = OptionOf

-- the reason, as it is defined; that memory was refused is not defined, and nothing is said of it
abbrev pub why_of : AnyWhy → TypeWhy
why_of (why.Unbound n) = Unbound n
why_of (why.Twice n) = Twice n
why_of (why.Mismatch A w) = Mismatch (stands_for A) (wanted_of w)
why_of (why.Arity n takes given) = Arity n takes given
why_of why.Memory = Unbound []

-- the fault, as it is defined
abbrev pub fault_of : AnyFault → TypeFault
fault_of e = fault_at e.at (why_of e.why)

-- a fault that is this one, or memory was refused
abbrev pub Says : AnyFault → TypeFault → Type 0
Says e f = e.why ≢ why.Memory → fault_of e ≡ f

-- what a function ensures that gives what stands for something, or the fault
abbrev pub Gives : {A B : Type 0} → Result A TypeFault → Result B AnyFault → (B → A) → Type 0
Gives outcome (Ok b) value = outcome ≡ Ok (value b)
Gives outcome (Err e) value = e.why ≢ why.Memory → outcome ≡ Err (fault_of e)

-- what a function ensures that tests
abbrev pub Tests : Result (Unit {0}) TypeFault → Result (Unit {0}) AnyFault → Type 0
Tests outcome (Ok b) = outcome ≡ Ok tt
Tests outcome (Err e) = e.why ≢ why.Memory → outcome ≡ Err (fault_of e)

-- what a function ensures that finds a type
abbrev pub Finds : Result ValueType TypeFault → Result KnownType AnyFault → Checking → Checking → Type 0
Finds outcome (Ok t) v w =
    (outcome ≡ Ok (type_in w.types t)) × Below (length w.types) t × (w.locals ≡ v.locals)
Finds outcome (Err e) v w = e.why ≢ why.Memory → outcome ≡ Err (fault_of e)

-- what a function ensures that finds the type of a form
abbrev pub FindsType : Result KnownType AnyFault → Checking → Checking → Form → Type 0
FindsType result v w e = Finds (type_of e (scope_of v)) result v w

-- what a function ensures that tests forms
abbrev pub Passes : Result (Unit {0}) TypeFault → Result (Unit {0}) AnyFault → Checking → Checking → Type 0
Passes outcome (Ok b) v w = (outcome ≡ Ok tt) × (w.locals ≡ v.locals)
Passes outcome (Err e) v w = e.why ≢ why.Memory → outcome ≡ Err (fault_of e)

-- the parts of a type that a pattern wants to be one of lists, of options, or of pairs
abbrev pub list_wanted : ℕ → ValueType → Result ValueType TypeFault
list_wanted at A = some_or (list_part A) (fault_at at (Mismatch A ListOf))

abbrev pub option_wanted : ℕ → ValueType → Result ValueType TypeFault
option_wanted at A = some_or (option_part A) (fault_at at (Mismatch A OptionOf))

abbrev pub pair_wanted : ℕ → ValueType → Result (ValueType × ValueType) TypeFault
pair_wanted at A = some_or (pair_parts A) (fault_at at (Mismatch A PairOf))

-- the names of a pattern that were found, the last one first
abbrev pub bound : List ValueType → List (Entry KnownType) → Bindings
bound ts xs = renamed (type_in ts) (listed xs)

-- what a function ensures that puts the names of patterns after those that were found before
abbrev pub Binds : Checking → List (Entry KnownType) → List (Entry KnownType)
    → Result (Unit {0}) AnyFault → (Bindings → Result Bindings TypeFault) → Type 0
Binds v old new result outcome = Gives (outcome (bound v.types old)) result (λ _. bound v.types new)

-- names that were seen, the last one first
abbrev pub last_first : List Name → List Name
last_first = reverse

-- the name was seen after those before
abbrev pub SeesNext : Name → List Name → List Name → Type 0
SeesNext n old new = last_first new ≡ n ∷ last_first old

-- the type of a case for values of a type
unfoldable pub type_of_case : Pattern → Form → ValueType → Scope → Result ValueType TypeFault
type_of_case p e A s = case_scope p A s >>= type_of e

-- a case for an operation that none of those before is for has the type
unfoldable pub handler_has : Named → Named → Form → List Name → ValueType → Scope → Result (Unit {0}) TypeFault
handler_has o x e before B s = meant_by s.operations o >>= λ p.
    ensure_new o before >> (type_of e (with_value x.name p.0 s) >>= ensure_type (place e) B)

-- the name is a symbol's, and so many are given as it takes
unfoldable pub symbol_wanted : Named → ℕ → Scope → Result (Unit {0}) TypeFault
symbol_wanted n given s = meant_by s.rules n >>= λ r.
    ensure r.is_symbol (fault_at n.at (Unbound n.name)) >> ensure_arity n r.premises given
