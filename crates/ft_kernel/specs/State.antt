-- What is seen of a kernel: the trees of its table and its list of items.
use Rattle.std.specs.Prelude.{ℕ, suc, ◌≡◌, ◌+◌, Option, Some, None, true, false, max, nat_eq, nat_lt, if◌then◌else◌, List, [], ◌∷◌, ◌++◌, map, option_map}
use Rattle.ft_theory.specs.Expressions.{Expression}
use Rattle.ft_theory.specs.Statements.{Statement}
use Rattle.ft_items.specs.Sets.{Atom}
use Rattle.ft_items.specs.Item.{Name, Item}
use Rattle.ft_items.specs.Store.{Assertion, nth, entries_in, variables_in, rules_in}
use Rattle.ft_items.specs.Equal.{is_thesis}
use Rattle.ft_items.specs.Good.{equal_names}

pub record State : Type 0 where
  pub trees : List Expression
  pub items : List Item

-- the state with one more item
abbrev pub with_item : State → Item → State
with_item s i = record { trees = s.trees; items = s.items ++ i ∷ [] }

-- the entry of a number, where there is one
abbrev pub entry_at : State → ℕ → Option Assertion
entry_at s n = nth (entries_in s.items) n

-- the statement and the set of the entry of a number
abbrev pub statement_at : State → ℕ → Option Statement
statement_at s n = option_map (λ (a : Assertion). a.statement) (entry_at s n)

abbrev pub set_at : State → ℕ → Option (List Atom)
set_at s n = option_map (λ (a : Assertion). a.set) (entry_at s n)

-- the number is that of an entry
abbrev pub IsEntryOf : State → ℕ → Type 0
IsEntryOf s n = (a : Assertion) × (entry_at s n ≡ Some a)

-- the number is that of a thesis
abbrev pub IsThesisOf : State → ℕ → Type 0
IsThesisOf s j = (a : Assertion) × (entry_at s j ≡ Some a) × (is_thesis a.statement ≡ true)

-- the number is that of a boundary
abbrev pub IsBoundaryOf : State → ℕ → Type 0
IsBoundaryOf s b = (a : Assertion) × (entry_at s b ≡ Some a) × (is_thesis a.statement ≡ false)

-- name and entry of the variable with a number, where there is one
abbrev pub variable_numbered : List (ℕ × Name × ℕ) → ℕ → Option (Name × ℕ)
variable_numbered [] v = None
variable_numbered ((w, n, p) ∷ vs) v = if nat_eq w v then Some (n, p) else variable_numbered vs v

-- the number is that of a variable
abbrev pub IsVariableOf : State → ℕ → Type 0
IsVariableOf s v = (x : Name × ℕ) × (variable_numbered (variables_in s.items) v ≡ Some x)

-- 1 more than the greatest number of a variable, 0 without one
abbrev pub next_number : List (ℕ × Name × ℕ) → ℕ
next_number [] = 0
next_number ((v, n, p) ∷ vs) = max (v + 1) (next_number vs)

-- the place of the first name that is this one
abbrev pub place_of_name : List Name → Name → Option ℕ
place_of_name [] n = None
place_of_name (m ∷ ms) n = if equal_names m n then Some 0 else option_map suc (place_of_name ms n)

-- the names of the rules, in order
abbrev pub rule_names : List Item → List Name
rule_names items = map (λ (x : Name × List ℕ × ℕ). x.0) (rules_in items)

-- the number, where it is below the bound
abbrev pub if_below : ℕ → ℕ → Option ℕ
if_below n bound = if nat_lt n bound then Some n else None
