-- What is seen of the state of an evaluation, and how it goes further.
use Rattle.std.specs.Prelude.{ℕ, ◌≡◌, ◌≤◌, ◌<◌, List, [], ◌∷◌, ◌++◌, length, slice_index_or}
use Rattle.ft_base.specs.Budget.{Budget}
use Rattle.ft_items.specs.Item.{Name}
use Rattle.ft_items.specs.Store.{variables_in}
use Rattle.ft_kernel.specs.State.{State, next_number}
use Rattle.ft_meaning.specs.Values as meaning
use Rattle.ft_telling.specs.Telling.{state_of}
use Rattle.ft_values.specs.declared.scopes.Scope.{Scope}
use Rattle.ft_values.specs.declared.values.Value.{Value}
use Rattle.ft_values.specs.Kept.{Kept, unit, IsOver, GoesOn}
use Rattle.ft_values.specs.Named.{value_in, environment_in, NamesBelow}
use Rattle.ft_values.specs.Rows.{Below, Extends}
use Rattle.ft_values.specs.Scopes.{names_in, IsScopeOf, ExtendsScopes}

-- The kernel's list; the values of the table; the names of the scopes within the command; those of the
-- commands before; and the units.
pub record Evaluation : Type 0 where
  pub list : State
  pub values : List Kept
  pub scopes : List (List (Name × Value))
  pub top : List (Name × Value)
  pub units : Budget

-- the state of the run
abbrev pub run_of : Evaluation → meaning.State
run_of e = state_of e.list e.units

-- it is a value of the table, and what it is over the list
abbrev pub IsValueOf : Evaluation → Value → Type 0
IsValueOf e v = Below (length e.values) v

abbrev pub value_over : Evaluation → Value → meaning.Value
value_over e v = value_in e.list e.values v

-- it is a scope of the rows; its names, before those of the commands before; and what they stand for
abbrev pub IsScopeIn : Evaluation → Scope → Type 0
IsScopeIn e s = IsScopeOf (length e.scopes) s

abbrev pub names_over : Evaluation → Scope → List (Name × Value)
names_over e s = names_in e.scopes s ++ e.top

abbrev pub environment_of : Evaluation → Scope → meaning.Environment
environment_of e s = environment_in e.list e.values (names_over e s)

-- each value of the table is over the list
abbrev pub AllOver : State → List Kept → Type 0
AllOver s ks = (n : ℕ) → n < length ks → IsOver s (slice_index_or ks n unit)

-- the values of the names of each scope are among the first n rows
abbrev pub AllBelow : ℕ → List (List (Name × Value)) → Type 0
AllBelow n es = (k : ℕ) → k < length es → NamesBelow n (slice_index_or es k [])

-- What holds of each state: its values are over its list, names have values of its table, and a variable
-- is numbered by a unit that was used.
pub record IsEvaluation (e : Evaluation) : Type 0 where
  pub values_over : AllOver e.list e.values
  pub scopes_below : AllBelow (length e.values) e.scopes
  pub top_below : NamesBelow (length e.values) e.top
  pub numbered : next_number (variables_in e.list.items) ≤ e.units.used
  pub within : e.units.used ≤ e.units.total

-- The second state goes on from the first: items, values and scopes are added, units are used, and all
-- that there was stays.
pub record GoesFurther (e f : Evaluation) : Type 0 where
  pub list : GoesOn e.list f.list
  pub values : Extends e.values f.values
  pub scopes : ExtendsScopes e.scopes f.scopes
  pub top : f.top ≡ e.top
  pub used : e.units.used ≤ f.units.used
  pub total : f.units.total ≡ e.units.total

-- with another list
abbrev pub with_list : State → Evaluation → Evaluation
with_list s e = record e { list = s }

-- with one more value in the table
abbrev pub with_kept : Kept → Evaluation → Evaluation
with_kept k e = record e { values = e.values ++ k ∷ [] }

-- with one more row of scopes: the name with its value, before those of the scope around it
abbrev pub with_row : Scope → Name → Value → Evaluation → Evaluation
with_row s n v e = record e { scopes = e.scopes ++ ((n, v) ∷ names_in e.scopes s) ∷ [] }

-- with one more name for the commands after
abbrev pub with_top : Name → Value → Evaluation → Evaluation
with_top n v e = record e { top = (n, v) ∷ e.top }

-- without the scopes of a command
abbrev pub without_scopes : Evaluation → Evaluation
without_scopes e = record e { scopes = [] }
