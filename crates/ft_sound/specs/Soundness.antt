-- What holds of each good list of items: its entries are derivable, their contexts well formed, its rules a finitary theory;
-- and what the verdict tells.
-- After the soundness of context-free theories in Haselwarter and Bauer, "Finitary type theories with and without contexts".
use Rattle.std.specs.Prelude.{ℕ, Some, None, ◌≡◌, ◌≢◌, ◌↔◌, List, [], ◌∷◌, ◌++◌, length}
use Rattle.ft_theory.specs.Statements.{StatementMentionsOnly}
use Rattle.ft_theory.specs.Rules.{look_up}
use Rattle.ft_theory.specs.Derivability.{FinitaryUpTo}
use Rattle.ft_items.specs.Sets.{Atom, met, var, Has, Within}
use Rattle.ft_items.specs.Item.{Name, Entry, Item, entry}
use Rattle.ft_items.specs.Store.{Annotation, Declared, nth, Derivable, Declarations, declared_by, WellFormedContext}
use Rattle.ft_items.specs.Good.{Reject, reason, Allowed, Good, Counts, counts, Accepted, Rejected, verdict}

-- P holds of each entry of the list, with the declarations of the items before it
abbrev pub EachEntry : (Declarations → Entry → Type 0) → List Item → Type 0
EachEntry P items = (before after : List Item) (e : Entry) → items ≡ before ++ (entry e ∷ after) → P (declared_by before) e

-- In a good list the sequent of each entry is derivable by primitive steps, over the rules before the entry.
abbrev pub EntriesDerivable : Type 0
EntriesDerivable = (items : List Item) → Good items → EachEntry (λ W e. Derivable W e.statement e.set) items

-- In a good list the context of each entry is well formed: its metavariables first and then its variables, by number, each
-- holds over those before it.
abbrev pub ContextsWellFormed : Type 0
ContextsWellFormed = (items : List Item) → Good items → EachEntry (λ W e. WellFormedContext W e.set) items

-- In a good list the statement of each entry mentions only atoms of its set.
abbrev pub AtomsInSet : Type 0
AtomsInSet = (items : List Item) → Good items → EachEntry (λ W e. StatementMentionsOnly (λ v. Has (var v) e.set) (λ m k. Has (met m) e.set) e.statement) items

-- the atom is declared, and the set of its boundary or type is within the set
abbrev pub HasItsSet : Declarations → List Atom → Atom → Type 0
HasItsSet W S (met m) = (d : Declared) × (nth W.metavariables m ≡ Some d) × Within d.set S
HasItsSet W S (var v) = (d : Annotation) × (look_up W.variables v ≡ Some d) × Within d.set S

-- In a good list the set of each entry has, with an atom, the set of that atom's boundary or type.
abbrev pub SetsClosed : Type 0
SetsClosed = (items : List Item) → Good items → EachEntry (λ W e. (a : Atom) → Has a e.set → HasItsSet W e.set a) items

-- The rules of a good list form a finitary theory, whichever kinds of wide step are allowed.
abbrev pub RulesFinitary : Type 0
RulesFinitary = (items : List Item) → Good items → (k : ℕ) → FinitaryUpTo k (declared_by items).rules

-- the name differs from each of the others
abbrev pub Differs : Name → List Name → Type 0
Differs n [] = Unit {0}
Differs n (m ∷ ms) = (n ≢ m) × Differs n ms

-- no two of the names are the same
abbrev pub AllDiffer : List Name → Type 0
AllDiffer [] = Unit {0}
AllDiffer (n ∷ ns) = Differs n ns × AllDiffer ns

-- In a good list each rule has a name, and the names differ.
abbrev pub NamesDiffer : Type 0
NamesDiffer = (items : List Item) → Good items → AllDiffer (declared_by items).names × (length (declared_by items).names ≡ length (declared_by items).rules)

-- After a good list an item is allowed exactly where there is no reason against it.
abbrev pub AllowedWithoutReason : Type 0
AllowedWithoutReason = (items : List Item) → Good items → (i : Item) → Allowed items i ↔ (reason items i ≡ None)

-- What is accepted is good, and its counts are told.
abbrev pub AcceptedAreGood : Type 0
AcceptedAreGood = (items : List Item) (c : Counts) → verdict items ≡ Accepted c → Good items × (c ≡ counts items)

-- A good list is accepted, with its counts.
abbrev pub GoodAreAccepted : Type 0
GoodAreAccepted = (items : List Item) → Good items → verdict items ≡ Accepted (counts items)

-- What is rejected has an item of the number told, after a good list, and the reason told is its first one.
abbrev pub RejectedIsFirst : Type 0
RejectedIsFirst = (items : List Item) (k : ℕ) (why : Reject) → verdict items ≡ Rejected k why
    → (before : List Item) × (i : Item) × (after : List Item) × (items ≡ before ++ (i ∷ after)) × (length before ≡ k) × Good before × (reason before i ≡ Some why)

-- Where a good list is followed by an item with a reason against it, that item is the one named, whatever follows.
abbrev pub FirstIsRejected : Type 0
FirstIsRejected = (before after : List Item) (i : Item) (why : Reject) → Good before → reason before i ≡ Some why → verdict (before ++ (i ∷ after)) ≡ Rejected (length before) why

-- A list is good where each item, tested by itself after those before it, has no reason against it.
abbrev pub NoReasonIsGood : Type 0
NoReasonIsGood = (items : List Item) → ((before after : List Item) (i : Item) → items ≡ before ++ (i ∷ after) → reason before i ≡ None) → Good items

-- In an accepted list the sequent of each entry is derivable by primitive steps, whatever level is told.
abbrev pub AcceptedAreDerivable : Type 0
AcceptedAreDerivable = (items : List Item) (c : Counts) → verdict items ≡ Accepted c → EachEntry (λ W e. Derivable W e.statement e.set) items
