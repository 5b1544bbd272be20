-- The item that is kept in a line, and where lines of a kind stand.
use Rattle.std.specs.Prelude.{ℕ, ◌≡◌, ◌+◌, nat_eq, Option, Some, None, Bool, true, false, if◌then◌else◌, List, [], ◌∷◌, map}
use Rattle.ft_theory.specs.Expressions.{Expression}
use Rattle.ft_items.specs.Item.{Name, Item, variable, metavariable, rule, entry, shown}
use Rattle.ft_items.specs.Store.{Assertion}
use Rattle.ft_judge.specs.Meaning.{thesis_in, boundary_in, ThesisBelow, BoundaryBelow}
use Rattle.ft_kernel.specs.Steps.{step_of}
use Rattle.ft_kernel.specs.declared.line.Content.{Content}
use Rattle.ft_kernel.specs.declared.line.Content.TheVariants.{Variable, Metavariable, Rule, Thesis, Boundary, Shown}
use Rattle.ft_kernel.specs.declared.line.Line.{Line}

-- the item of a content over the trees of a table
abbrev pub item_in : List Expression → Content → Item
item_in ts (Variable x) = variable x.number x.name x.ty
item_in ts (Metavariable x) = metavariable x.name x.boundary
item_in ts (Rule x) = rule x.name x.premises x.conclusion
item_in ts (Thesis x S s) = entry (record { statement = thesis_in ts x; set = S; step = step_of s })
item_in ts (Boundary x S s) = entry (record { statement = boundary_in ts x; set = S; step = step_of s })
item_in ts (Shown j) = shown j

-- each expression of the content is among the first n trees
abbrev pub ContentBelow : ℕ → Content → Type 0
ContentBelow n (Variable x) = Unit {0}
ContentBelow n (Metavariable x) = Unit {0}
ContentBelow n (Rule x) = Unit {0}
ContentBelow n (Thesis x S s) = ThesisBelow n x
ContentBelow n (Boundary x S s) = BoundaryBelow n x
ContentBelow n (Shown j) = Unit {0}

-- the items of lines
abbrev pub items_in : List Expression → List Line → List Item
items_in ts ls = map (λ l. item_in ts l.content) ls

-- the kinds of content that are counted
abbrev pub is_entry : Content → Bool
is_entry (Variable x) = false
is_entry (Metavariable x) = false
is_entry (Rule x) = false
is_entry (Thesis x S s) = true
is_entry (Boundary x S s) = true
is_entry (Shown j) = false

abbrev pub is_metavariable : Content → Bool
is_metavariable (Variable x) = false
is_metavariable (Metavariable x) = true
is_metavariable (Rule x) = false
is_metavariable (Thesis x S s) = false
is_metavariable (Boundary x S s) = false
is_metavariable (Shown j) = false

abbrev pub is_rule : Content → Bool
is_rule (Variable x) = false
is_rule (Metavariable x) = false
is_rule (Rule x) = true
is_rule (Thesis x S s) = false
is_rule (Boundary x S s) = false
is_rule (Shown j) = false

-- the places of the lines that pass the test, counted from k
abbrev pub places : (Content → Bool) → ℕ → List Line → List ℕ
places p k [] = []
places p k (l ∷ ls) = if p l.content then k ∷ places p (k + 1) ls else places p (k + 1) ls

-- the place of the variable of a number, counted from k
abbrev pub place_if_numbered : Content → ℕ → ℕ → Option ℕ → Option ℕ
place_if_numbered (Variable x) k v later = if nat_eq x.number v then Some k else later
place_if_numbered (Metavariable x) k v later = later
place_if_numbered (Rule x) k v later = later
place_if_numbered (Thesis x S s) k v later = later
place_if_numbered (Boundary x S s) k v later = later
place_if_numbered (Shown j) k v later = later

abbrev pub place_numbered : ℕ → List Line → ℕ → Option ℕ
place_numbered k [] v = None
place_numbered k (l ∷ ls) v = place_if_numbered l.content k v (place_numbered (k + 1) ls v)

-- each line that passes the test has as its number how many such lines stand before it, counted from n
abbrev pub AreNumbered : (Content → Bool) → ℕ → List Line → Type 0
AreNumbered p n [] = Unit {0}
AreNumbered p n (l ∷ ls) = (p l.content ≡ true → l.number ≡ n) × AreNumbered p (if p l.content then n + 1 else n) ls

-- each expression of the lines is among the first n trees
abbrev pub AllLinesBelow : ℕ → List Line → Type 0
AllLinesBelow n [] = Unit {0}
AllLinesBelow n (l ∷ ls) = ContentBelow n l.content × AllLinesBelow n ls

-- what a content adds to the entries, the metavariables or the rules of the list
abbrev pub assertion_in : List Expression → Content → Option Assertion
assertion_in ts (Variable x) = None
assertion_in ts (Metavariable x) = None
assertion_in ts (Rule x) = None
assertion_in ts (Thesis x S s) = Some (record { statement = thesis_in ts x; set = S })
assertion_in ts (Boundary x S s) = Some (record { statement = boundary_in ts x; set = S })
assertion_in ts (Shown j) = None

abbrev pub added_metavariable : Content → Option (Name × ℕ)
added_metavariable (Variable x) = None
added_metavariable (Metavariable x) = Some (x.name, x.boundary)
added_metavariable (Rule x) = None
added_metavariable (Thesis x S s) = None
added_metavariable (Boundary x S s) = None
added_metavariable (Shown j) = None

abbrev pub added_rule : Content → Option (Name × List ℕ × ℕ)
added_rule (Variable x) = None
added_rule (Metavariable x) = None
added_rule (Rule x) = Some (x.name, x.premises, x.conclusion)
added_rule (Thesis x S s) = None
added_rule (Boundary x S s) = None
added_rule (Shown j) = None
