-- What numbers name in a list of items. Where nothing has a number, a dummy stands.
use Rattle.std.specs.Prelude.{ℕ, Option, Some, None, List, [], ◌∷◌}
use Rattle.ft_theory.specs.Statements.{type_goal, Statement, plain}
use Rattle.ft_items.specs.Item.{Item}
use Rattle.ft_items.specs.Store.{Assertion, Declared, nth, entries_in, declared_by}
use Rattle.ft_items.specs.Rows.{statements}
use Rattle.ft_kernel.specs.State.{State, IsThesisOf}

abbrev pub entry_or : Option Assertion → Assertion
entry_or None = record { statement = plain type_goal; set = [] }
entry_or (Some a) = a

-- the entry of a number
abbrev pub entry_of : List Item → ℕ → Assertion
entry_of items j = entry_or (nth (entries_in items) j)

-- the entries of numbers, in their order
abbrev pub entries_of : List Item → List ℕ → List Assertion
entries_of items [] = []
entries_of items (j ∷ js) = entry_of items j ∷ entries_of items js

-- their statements
abbrev pub statements_of : List Item → List ℕ → List Statement
statements_of items js = statements (entries_of items js)

-- each number is that of a thesis
abbrev pub AreThesesOf : State → List ℕ → Type 0
AreThesesOf s [] = Unit {0}
AreThesesOf s (j ∷ js) = IsThesisOf s j × AreThesesOf s js

abbrev pub declared_or : Option Declared → Declared
declared_or None = record { name = []; boundary = plain type_goal; set = [] }
declared_or (Some d) = d

-- what is declared of the metavariable of a number
abbrev pub declared_of : List Item → ℕ → Declared
declared_of items m = declared_or (nth (declared_by items).metavariables m)
