-- What an item adds to the entries, the metavariables or the rules of a list; and an entry as the program reads it.
use Rattle.std.specs.Prelude.{ℕ, nat_eq, ◌&&◌, cond, not, Bool, true, false, Option, Some, None, option_map, List, [], ◌∷◌, ◌++◌}
use Rattle.ft_theory.specs.Expressions.{Expression}
use Rattle.ft_items.specs.Item.{Stated, Name, Entry as AnyEntry, Item, variable, metavariable, rule, entry, shown}
use Rattle.ft_items.specs.Sets.{Atom, met, is_within}
use Rattle.ft_items.specs.Store.{Assertion, nth, entry_named, store_of, metavariables_in}
use Rattle.ft_judge.specs.Meaning.{thesis_in, boundary_in, ThesisBelow, BoundaryBelow}
use Rattle.ft_check.specs.declared.entry.RuleLine.{RuleLine}
use Rattle.ft_check.specs.declared.entry.Entry.{Entry}
use Rattle.ft_check.specs.declared.entry.Entry.TheVariants.{Thesis, Boundary}

-- the statement and the set of an entry, read over the trees of a table
abbrev pub entry_in : List Expression → Entry → Assertion
entry_in ts (Thesis x S) = record { statement = thesis_in ts x.now; set = S.now }
entry_in ts (Boundary x S) = record { statement = boundary_in ts x.now; set = S.now }

-- each expression of the entry is among the first n trees
abbrev pub EntryBelow : ℕ → Entry → Type 0
EntryBelow n (Thesis x S) = ThesisBelow n x.now
EntryBelow n (Boundary x S) = BoundaryBelow n x.now

-- the metavariables and the entry of a rule, without its name
abbrev pub line_of : Name × List ℕ × ℕ → List ℕ × ℕ
line_of x = (x.1, x.2)

-- a rule as the program reads it: its metavariables, and the entry of its conclusion
abbrev pub line_in : RuleLine → List ℕ × ℕ
line_in x = (x.premises.now, x.conclusion)

-- the statement and the set with a step: an entry of a list
abbrev pub with_step : Assertion → Stated → AnyEntry
with_step a t = record { statement = a.statement; set = a.set; step = t }

-- the statement and the set, where the item is an entry
abbrev pub assertion_of : Item → Option Assertion
assertion_of (variable v n p) = None
assertion_of (metavariable n p) = None
assertion_of (rule n ms p) = None
assertion_of (entry e) = Some (record { statement = e.statement; set = e.set })
assertion_of (shown p) = None

-- the name and the entry, where the item is a metavariable
abbrev pub metavariable_of : Item → Option (Name × ℕ)
metavariable_of (variable v n p) = None
metavariable_of (metavariable n p) = Some (n, p)
metavariable_of (rule n ms p) = None
metavariable_of (entry e) = None
metavariable_of (shown p) = None

-- the name, the metavariables and the entry, where the item is a rule
abbrev pub stated_rule : Item → Option (Name × List ℕ × ℕ)
stated_rule (variable v n p) = None
stated_rule (metavariable n p) = None
stated_rule (rule n ms p) = Some (n, ms, p)
stated_rule (entry e) = None
stated_rule (shown p) = None

-- The set of the entry of a metavariable's boundary, by the numbers of both.

-- the set, where there is an entry; else the empty one
abbrev pub set_or_none : Option Assertion → List Atom
set_or_none None = []
set_or_none (Some a) = a.set

-- the set of the entry of a number in a list; the empty one where there is none
abbrev pub set_at : List Item → Option ℕ → List Atom
set_at items None = []
set_at items (Some p) = set_or_none (entry_named (store_of items) p)

-- the set of the boundary of a metavariable of a list; the empty one where there is none
abbrev pub boundary_set : List Item → ℕ → List Atom
boundary_set items m = set_at items (option_map (λ d. d.1) (nth (metavariables_in items) m))

-- the test that the set of each metavariable has earlier metavariables alone, where those before are earlier than all
abbrev pub rest_on_earlier : (ℕ → List Atom) → List Atom → List ℕ → Bool
rest_on_earlier S before [] = true
rest_on_earlier S before (m ∷ ms) = is_within (S m) before && rest_on_earlier S (before ++ met m ∷ []) ms

-- the test for the empty list
abbrev pub is_nil : {A : Type 0} → List A → Bool
is_nil [] = true
is_nil (x ∷ xs) = false

-- the test that no variable has the number
abbrev pub no_variable : ℕ → List (ℕ × Name × ℕ) → Bool
no_variable v [] = true
no_variable v (x ∷ xs) = not (nat_eq v x.0) && no_variable v xs

-- number, name and entry, where the item is a variable
abbrev pub variable_of : Item → Option (ℕ × Name × ℕ)
variable_of (variable v n p) = Some (v, n, p)
variable_of (metavariable n p) = None
variable_of (rule n ms p) = None
variable_of (entry e) = None
variable_of (shown p) = None

-- the first variable of the number in a list
abbrev pub variable_in : ℕ → List (ℕ × Name × ℕ) → Option (ℕ × Name × ℕ)
variable_in v [] = None
variable_in v (x ∷ xs) = cond (nat_eq v x.0) (Some x) (variable_in v xs)
