-- Which items are allowed after a list, which lists are good, the reasons against an item, and the verdict on a list.
use Rattle.std.specs.Prelude.{ℕ, zero, suc, Option, Some, None, Bool, true, false, cond, nat_lt, ◌&&◌, ◌+◌, ◌<◌, not, List, [], ◌∷◌, length, max, ◌≡◌, option_map, option_and_then, nat_eq}
use Rattle.ft_theory.specs.Statements.{is_type, Statement, plain}
use Rattle.ft_items.specs.Sets.{Atom, is_within, same_set, metavariables_only}
use Rattle.ft_items.specs.Equal.{equal_statements, is_thesis, is_plain}
use Rattle.ft_items.specs.Item.{Stated, Name, Entry, Item, variable, metavariable, rule, entry, shown}
use Rattle.ft_items.specs.Store.{Assertion, Annotation, Declared, Declarations, Store, each, entry_named, metavariable_named, resolve, Resolved, empty_store, add, store_of, declared_by}
use Rattle.ft_items.specs.Levels.{level}
use Rattle.ft_items.specs.Rows.{conclusion, result_set, theses, boundaries, concludes_thesis, atoms, differ, on_earlier}

-- What a step gives.

-- the test that each is a thesis
abbrev pub all_theses : List Assertion → Bool
all_theses [] = true
all_theses (p ∷ ps) = is_thesis p.statement && all_theses ps

-- the test that each is a boundary
abbrev pub all_boundaries : List Assertion → Bool
all_boundaries [] = true
all_boundaries (p ∷ ps) = not (is_thesis p.statement) && all_boundaries ps

-- the test that the entries named are theses and boundaries where the step's row has them
abbrev pub of_kind : Resolved → Bool
of_kind s = all_theses (theses s) && all_boundaries (boundaries s)

-- what a step gives over the declarations: a statement and its set; None where a kind is wrong or a condition fails
abbrev pub given : Declarations → Resolved → Option Assertion
given W s = cond (of_kind s) (option_map (λ x. record { statement = x; set = result_set s }) (conclusion W s)) None

-- what a stated step gives after a list; None where a number names nothing, a kind is wrong or a condition fails
abbrev pub gives : Store → Stated → Option Assertion
gives W s = option_and_then (given W.declarations) (resolve W s)

-- When an item is allowed.

-- the test that each earlier variable has a smaller number
abbrev pub is_next : List (ℕ × Annotation) → ℕ → Bool
is_next [] v = true
is_next (p ∷ G) v = nat_lt p.0 v && is_next G v

-- the test for a plain type
abbrev pub is_plain_type : Statement → Bool
is_plain_type (plain (is_type A)) = true
is_plain_type x = false

-- the test that two names have the same characters
abbrev pub equal_names : Name → Name → Bool
equal_names [] [] = true
equal_names [] (d ∷ n) = false
equal_names (c ∷ m) [] = false
equal_names (c ∷ m) (d ∷ n) = nat_eq c d && equal_names m n

-- the test that no earlier rule has the name
abbrev pub is_new : List Name → Name → Bool
is_new [] n = true
is_new (m ∷ ms) n = not (equal_names m n) && is_new ms n

-- A variable is allowed where its number is greater than that of each earlier variable and its entry is a plain type.
abbrev pub AllowedVariable : Store → ℕ → ℕ → Type 0
AllowedVariable W v p = (is_next W.declarations.variables v ≡ true) × (a : Assertion) × (entry_named W p ≡ Some a) × (is_plain_type a.statement ≡ true)

-- A metavariable is allowed where its entry is a boundary that rests on no variable.
abbrev pub AllowedMetavariable : Store → ℕ → Type 0
AllowedMetavariable W p = (a : Assertion) × (entry_named W p ≡ Some a) × (is_thesis a.statement ≡ false) × (metavariables_only a.set ≡ true)

-- A rule is allowed where its name is new, fewer than 65,536 rules stand before it, its metavariables differ, each has a
-- boundary that rests on earlier ones alone, and its entry is a plain boundary that rests on these metavariables alone.
abbrev pub AllowedRule : Store → Name → List ℕ → ℕ → Type 0
AllowedRule W n ms p = (is_new W.declarations.names n ≡ true) × (length W.declarations.rules < 65536)
    × (ds : List (ℕ × Declared)) × (each (metavariable_named W.declarations) ms ≡ Some ds) × (a : Assertion) × (entry_named W p ≡ Some a)
    × (differ (atoms ds) ≡ true) × (is_thesis a.statement ≡ false) × (is_plain a.statement ≡ true) × (on_earlier [] ds ≡ true) × (is_within a.set (atoms ds) ≡ true)

-- An entry is allowed where its statement and its set are what its step gives.
abbrev pub AllowedEntry : Store → Entry → Type 0
AllowedEntry W e = gives W e.step ≡ Some (record { statement = e.statement; set = e.set })

-- A shown mark is allowed where its entry is a thesis.
abbrev pub AllowedShown : Store → ℕ → Type 0
AllowedShown W p = (a : Assertion) × (entry_named W p ≡ Some a) × (is_thesis a.statement ≡ true)

-- the item is allowed after what the store has
abbrev pub AllowedIn : Store → Item → Type 0
AllowedIn W (variable v n p) = AllowedVariable W v p
AllowedIn W (metavariable n p) = AllowedMetavariable W p
AllowedIn W (rule n ms p) = AllowedRule W n ms p
AllowedIn W (entry e) = AllowedEntry W e
AllowedIn W (shown p) = AllowedShown W p

-- the item is allowed after a list
abbrev pub Allowed : List Item → Item → Type 0
Allowed items i = AllowedIn (store_of items) i

-- each item is allowed after the store and the items before it
abbrev pub GoodAfter : Store → List Item → Type 0
GoodAfter W [] = Unit {0}
GoodAfter W (i ∷ items) = AllowedIn W i × GoodAfter (add W i) items

-- A list is good where each of its items is allowed after those before it.
abbrev pub Good : List Item → Type 0
Good items = GoodAfter empty_store items

-- Reasons against an item, in their order.

-- The reasons to reject an item: a number names nothing; a boundary stands where a thesis belongs or the other way; a condition
-- of the step fails; the stated conclusion or set is another; a rule's name is taken; a variable's number is not greater than
-- the earlier ones; there are too many rules; something rests on more than it may.
pub data Reject : Type 0 where
  Reference : Reject
  Kind : Reject
  Premise : Reject
  Conclusion : Reject
  Set : Reject
  Named : Reject
  Number : Reject
  Many : Reject
  Loose : Reject

-- the reason where the test fails, and else what comes next
abbrev pub unless : Bool → Reject → Option Reject → Option Reject
unless b why next = cond b next (Some why)

-- the test that two tests have the same outcome
abbrev pub same_truth : Bool → Bool → Bool
same_truth true b = b
same_truth false b = not b

-- the reason against an entry whose step has this conclusion and this set: Premise, Conclusion, Set
abbrev pub reason_of_result : Option Statement → List Atom → Entry → Option Reject
reason_of_result None S e = Some Premise
reason_of_result (Some x) S e = unless (equal_statements x e.statement) Conclusion (unless (same_set S e.set) Set None)

-- the reason against an entry: Reference, Kind, and those of its result
abbrev pub reason_of_entry : Declarations → Option Resolved → Entry → Option Reject
reason_of_entry W None e = Some Reference
reason_of_entry W (Some s) e = unless (of_kind s && same_truth (concludes_thesis s) (is_thesis e.statement)) Kind (reason_of_result (conclusion W s) (result_set s) e)

-- the reason against a variable whose number is right: Reference, Kind, Premise
abbrev pub reason_of_variable : Option Assertion → Option Reject
reason_of_variable None = Some Reference
reason_of_variable (Some p) = unless (is_thesis p.statement) Kind (unless (is_plain_type p.statement) Premise None)

-- the reason against a metavariable: Reference, Kind, Loose
abbrev pub reason_of_metavariable : Option Assertion → Option Reject
reason_of_metavariable None = Some Reference
reason_of_metavariable (Some p) = unless (not (is_thesis p.statement)) Kind (unless (metavariables_only p.set) Loose None)

-- the reason against a rule with a new name, where there is place for it: Reference, Kind, Loose
abbrev pub reason_of_rule : Option (List (ℕ × Declared)) → Option Assertion → Option Reject
reason_of_rule None p = Some Reference
reason_of_rule (Some ms) None = Some Reference
reason_of_rule (Some ms) (Some p) =
    unless (differ (atoms ms) && not (is_thesis p.statement) && is_plain p.statement) Kind
    (unless (on_earlier [] ms && is_within p.set (atoms ms)) Loose None)

-- the reason against a shown mark: Reference, Kind
abbrev pub reason_of_shown : Option Assertion → Option Reject
reason_of_shown None = Some Reference
reason_of_shown (Some p) = unless (is_thesis p.statement) Kind None

-- The first reason against an item after what the store has. For a variable Number comes first, for a rule Name, then Many.
abbrev pub reason_in : Store → Item → Option Reject
reason_in W (variable v n p) = unless (is_next W.declarations.variables v) Number (reason_of_variable (entry_named W p))
reason_in W (metavariable n p) = reason_of_metavariable (entry_named W p)
reason_in W (rule n ms p) = unless (is_new W.declarations.names n) Named (unless (nat_lt (length W.declarations.rules) 65536) Many (reason_of_rule (each (metavariable_named W.declarations) ms) (entry_named W p)))
reason_in W (entry e) = reason_of_entry W.declarations (resolve W e.step) e
reason_in W (shown p) = reason_of_shown (entry_named W p)

-- the first reason against an item after a list; None where there is none
abbrev pub reason : List Item → Item → Option Reject
reason items i = reason_in (store_of items) i

-- The verdict.

-- the level of a step; 0 where it names what is not there
abbrev pub level_of_step : Option Resolved → ℕ
level_of_step None = zero
level_of_step (Some s) = level s

-- the level of an item: that of an entry's step, and 0 for other items
abbrev pub level_in : Store → Item → ℕ
level_in W (variable v n p) = zero
level_in W (metavariable n p) = zero
level_in W (rule n ms p) = zero
level_in W (entry e) = level_of_step (resolve W e.step)
level_in W (shown p) = zero

-- 1 for a shown mark, 0 for other items
abbrev pub shown_in : Item → ℕ
shown_in (variable v n p) = zero
shown_in (metavariable n p) = zero
shown_in (rule n ms p) = zero
shown_in (entry e) = zero
shown_in (shown p) = 1

-- what is counted in a list: its rules, entries and shown marks, and the greatest level of its entries
pub record Counts : Type 0 where
  pub rules : ℕ
  pub entries : ℕ
  pub shown : ℕ
  pub level : ℕ

-- The verdict on a list: accepted with its counts, or rejected with the number of an item, from 0, and a reason against it.
pub data Verdict : Type 0 where
  Accepted : Counts → Verdict
  Rejected : ℕ → Reject → Verdict

-- the number of shown marks
abbrev pub marks : List Item → ℕ
marks [] = zero
marks (i ∷ items) = shown_in i + marks items

-- the greatest level of the steps, 0 without one
abbrev pub greatest_level : Store → List Item → ℕ
greatest_level W [] = zero
greatest_level W (i ∷ items) = max (level_in W i) (greatest_level (add W i) items)

-- the counts of a list
abbrev pub counts : List Item → Counts
counts items = record { rules = length (declared_by items).rules; entries = length (store_of items).entries; shown = marks items; level = greatest_level empty_store items }

-- item k where there is a reason against it, and else what is found later
abbrev pub found_at : ℕ → Option Reject → Option (ℕ × Reject) → Option (ℕ × Reject)
found_at k None later = later
found_at k (Some why) later = Some (k, why)

-- the first item against which there is a reason, with its first reason; items are counted on from k
abbrev pub first_rejected : Store → ℕ → List Item → Option (ℕ × Reject)
first_rejected W k [] = None
first_rejected W k (i ∷ items) = found_at k (reason_in W i) (first_rejected (add W i) (suc k) items)

-- the verdict by the first rejected item and the counts
abbrev pub verdict_by : Option (ℕ × Reject) → Counts → Verdict
verdict_by None c = Accepted c
verdict_by (Some r) c = Rejected r.0 r.1

-- A list is accepted with its counts where no item has a reason against it. Otherwise it is rejected, with the first item that
-- has one and the first reason against that item.
abbrev pub verdict : List Item → Verdict
verdict items = verdict_by (first_rejected empty_store zero items) (counts items)
