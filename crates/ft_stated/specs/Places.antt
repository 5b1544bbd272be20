-- Where the entries, the metavariables and the rules of a list stand.
use Rattle.std.specs.Prelude.{ℕ, ◌≡◌, ◌+◌, Some, Bool, true, false, if◌then◌else◌, List, [], ◌∷◌, ◌++◌, length, take}
use Rattle.ft_items.specs.Item.{Name, Entry, Item, variable, metavariable, rule, entry, shown}
use Rattle.ft_items.specs.Store.{nth, entries_in, metavariables_in, rules_in}

-- Entry n stands at place k: the item there is an entry, and n entries stand before it.
abbrev pub EntryStands : List Item → ℕ → ℕ → Type 0
EntryStands items n k = (e : Entry) × (nth items k ≡ Some (entry e)) × (length (entries_in (take k items)) ≡ n)

-- Metavariable n stands at place k.
abbrev pub MetavariableStands : List Item → ℕ → ℕ → Type 0
MetavariableStands items n k = (x : Name) × (p : ℕ) × (nth items k ≡ Some (metavariable x p)) × (length (metavariables_in (take k items)) ≡ n)

-- Rule n stands at place k.
abbrev pub RuleStands : List Item → ℕ → ℕ → Type 0
RuleStands items n k = (x : Name) × (ms : List ℕ) × (p : ℕ) × (nth items k ≡ Some (rule x ms p)) × (length (rules_in (take k items)) ≡ n)

-- the kinds of item that are counted
abbrev pub is_entry : Item → Bool
is_entry (variable v n p) = false
is_entry (metavariable n p) = false
is_entry (rule n ms p) = false
is_entry (entry e) = true
is_entry (shown p) = false

abbrev pub is_metavariable : Item → Bool
is_metavariable (variable v n p) = false
is_metavariable (metavariable n p) = true
is_metavariable (rule n ms p) = false
is_metavariable (entry e) = false
is_metavariable (shown p) = false

abbrev pub is_rule : Item → Bool
is_rule (variable v n p) = false
is_rule (metavariable n p) = false
is_rule (rule n ms p) = true
is_rule (entry e) = false
is_rule (shown p) = false

-- how many items are of a kind
abbrev pub number_of : (Item → Bool) → List Item → ℕ
number_of p [] = 0
number_of p (i ∷ items) = if p i then number_of p items + 1 else number_of p items

-- The n-th item of a kind, from 0, stands at place k.
abbrev pub Stands : (Item → Bool) → List Item → ℕ → ℕ → Type 0
Stands p items n k = (i : Item) × (nth items k ≡ Some i) × (p i ≡ true) × (number_of p (take k items) ≡ n)

-- the places with one more, where the test holds
abbrev pub with_place : Bool → List ℕ → ℕ → List ℕ
with_place b ks k = if b then ks ++ k ∷ [] else ks

-- The index of a kind has the place of each item of this kind, in order.
pub record IsIndexOf (p : Item → Bool) (items : List Item) (ks : List ℕ) : Type 0 where
  pub many : length ks ≡ number_of p items
  pub at : (n k : ℕ) → nth ks n ≡ Some k → Stands p items n k

-- the indexes of the entries, the metavariables and the rules
abbrev pub AreIndexes : List Item → List ℕ → List ℕ → List ℕ → Type 0
AreIndexes items entries metavariables rules = IsIndexOf is_entry items entries × IsIndexOf is_metavariable items metavariables × IsIndexOf is_rule items rules
