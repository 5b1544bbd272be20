-- What holds of the calls of the nucleus: when they answer and what, which refusal comes, and what is derivable then.
use Rattle.std.specs.Prelude.{ℕ, suc, ◌<◌, ◌≤◌, true, false, nat_eq, Some, None, Result, Ok, Err, List, [], ◌∷◌, ◌++◌, length, ◌≡◌, ◌↔◌, ◌⊎◌}
use Rattle.ft_theory.specs.Statements.{Statement, domain_count, fill}
use Rattle.ft_theory.specs.Derivability.{FinitaryUpTo}
use Rattle.ft_theory.specs.Rules.{look_up, Rule}
use Rattle.ft_items.specs.Sets.{Atom, var, Has, precedes, Ascending}
use Rattle.ft_items.specs.Equal.{is_thesis, is_plain, is_object, head}
use Rattle.ft_items.specs.Item.{Name, Stated, Item, variable, metavariable, rule, entry, by_generic}
use Rattle.ft_items.specs.Store.{Assertion, Annotation, Declared, entry_named, variable_named, metavariable_named, rule_named, each, resolve, Resolved, Derivable, store_of, Declarations, declared_variable, declared_by}
use Rattle.ft_items.specs.Rows.{rests_on, atoms, differ, on_earlier}
use Rattle.ft_items.specs.Good.{given, is_next, is_new, Allowed, Good}
use Rattle.ft_reference.specs.Refusals.{Refusal, TooBig, Check, holds, refusal_of, first_refusal, formed, AllSmall}
use Rattle.ft_reference.specs.Compare.{fit_checks}
use Rattle.ft_reference.specs.Checks.{first_dependent, checks}
use Rattle.ft_reference.specs.Calls.{may_be_made, answer}
use Rattle.ft_reference.specs.Declare.{Outcome, Duplicate, TooMany, OpenPremise, OpenConclusion, Draft, new_variable, next_metavariable, new_metavariable, first_variable, first_outside, begin, premise, next_rule, finish}

-- A call answers a statement and its set exactly where its row gives these over the declarations and all that it forms is
-- small.
abbrev pub AnswersItsRow : Type 0
AnswersItsRow = (W : Declarations) (s : Resolved) (a : Assertion) → (answer W s ≡ Ok a) ↔ ((given W s ≡ Some a) × AllSmall (formed (checks W s)))

-- the tests of these checks hold
abbrev pub AllHold : List Check → Type 0
AllHold [] = Unit {0}
AllHold (c ∷ cs) = (holds c ≡ true) × AllHold cs

-- some check of the list fails with this refusal, and all before it hold
abbrev pub FailsFirst : List Check → Refusal → Type 0
FailsFirst cs r = (before : List Check) × (c : Check) × (after : List Check) × (cs ≡ before ++ (c ∷ after)) × AllHold before × (holds c ≡ false) × (refusal_of c ≡ r)

-- A call that may be made refuses exactly where one of its checks fails and those before it hold, with the refusal of that
-- check.
abbrev pub RefusesFirst : Type 0
RefusesFirst = (W : Declarations) (s : Resolved) (r : Refusal) → may_be_made s ≡ true → (answer W s ≡ Err r) ↔ FailsFirst (checks W s) r

-- Over the declarations of a good list, what a call on its statements answers is derivable by primitive steps over the rules, in the
-- context of its set.
abbrev pub AnswersDerivable : Type 0
AnswersDerivable = (items : List Item) → Good items → (n : Stated) (s : Resolved) (a : Assertion) → resolve (store_of items) n ≡ Some s → answer (declared_by items) s ≡ Ok a → Derivable (declared_by items) a.statement a.set

-- What it answers may be added to the list as an item.
abbrev pub AnswersAllowed : Type 0
AnswersAllowed = (items : List Item) → Good items → (n : Stated) (s : Resolved) (a : Assertion) → resolve (store_of items) n ≡ Some s → answer (declared_by items) s ≡ Ok a
    → Good (items ++ (entry (record { statement = a.statement; set = a.set; step = n }) ∷ []))

-- A thesis fits a boundary exactly where the boundary filled with the thesis's head is the thesis.
abbrev pub FitsIsFilling : Type 0
FitsIsFilling = (x b : Statement) → is_thesis x ≡ true → is_thesis b ≡ false → (first_refusal (fit_checks x b) ≡ None) ↔ (fill b (head x) ≡ x)

-- Declarations.

-- A refusal leaves the old state.
abbrev pub LeavesOld : {S A E : Type 0} → S → Outcome S A E → Type 0
LeavesOld {S} {A} {E} old o = (e : E) → o.answer ≡ Err e → o.after ≡ old

-- A refusal leaves the declarations, and the draft of a rule, as they are.
abbrev pub RefusalsChangeNothing : Type 0
RefusalsChangeNothing = (W : Declarations) (d : Draft) (v : ℕ) (n : Name) (p : Assertion) → LeavesOld W (new_variable W v n p) × LeavesOld W (new_metavariable W n p) × LeavesOld W (begin W n) × LeavesOld (W, d) (premise W d n p) × LeavesOld W (finish W d p)

-- A variable of the next number is made exactly where the item is allowed, and the declarations are then those of the longer
-- list.
abbrev pub VariablesAllowed : Type 0
VariablesAllowed = (items : List Item) (v p : ℕ) (n : Name) (a : Assertion) → is_next (declared_by items).variables v ≡ true → entry_named (store_of items) p ≡ Some a
    → ((new_variable (declared_by items) v n a).answer ≡ Ok (v, declared_variable n a)) ↔ (Allowed items (variable v n p) × ((new_variable (declared_by items) v n a).after ≡ declared_by (items ++ (variable v n p ∷ []))))

-- The same for a metavariable with a boundary.
abbrev pub MetavariablesAllowed : Type 0
MetavariablesAllowed = (items : List Item) (p : ℕ) (n : Name) (a : Assertion) → is_thesis a.statement ≡ false → entry_named (store_of items) p ≡ Some a
    → ((new_metavariable (declared_by items) n a).answer ≡ Ok (next_metavariable (declared_by items) n a)) ↔ (Allowed items (metavariable n p) × ((new_metavariable (declared_by items) n a).after ≡ declared_by (items ++ (metavariable n p ∷ []))))

-- the numbers of metavariables
abbrev pub numbers : List (ℕ × Declared) → List ℕ
numbers [] = []
numbers (d ∷ ds) = d.0 ∷ numbers ds

-- The draft's metavariables are declared, they differ, and each rests on earlier ones alone.
pub record IsDraft (W : Declarations) (d : Draft) : Type 0 where
  pub named : each (metavariable_named W) (numbers d.premises) ≡ Some d.premises
  pub different : differ (atoms d.premises) ≡ true
  pub ordered : on_earlier [] d.premises ≡ true

-- A draft that is begun is one, and with each premise that is made it stays one.
abbrev pub DraftsGrow : Type 0
DraftsGrow = ((W : Declarations) (n : Name) (d : Draft) → (begin W n).answer ≡ Ok d → IsDraft W d)
    × ((W : Declarations) (d : Draft) (n : Name) (b : Assertion) (m : ℕ × Declared) → IsDraft W d → (premise W d n b).answer ≡ Ok m → IsDraft (premise W d n b).after.0 (premise W d n b).after.1)

-- And it stays one as the list goes on, by whatever items.
abbrev pub DraftsStay : Type 0
DraftsStay = (items more : List Item) (d : Draft) → IsDraft (declared_by items) d → IsDraft (declared_by (items ++ more)) d

-- the item of a draft with the entry of its conclusion
abbrev pub drafted : Draft → ℕ → Item
drafted d p = rule d.name (numbers d.premises) p

-- A draft finishes with a plain boundary exactly where its rule is allowed, and the declarations are then those of the longer
-- list.
abbrev pub FinishesAllowed : Type 0
FinishesAllowed = (items : List Item) (d : Draft) (p : ℕ) (c : Assertion) → IsDraft (declared_by items) d → entry_named (store_of items) p ≡ Some c → is_thesis c.statement ≡ false → is_plain c.statement ≡ true
    → ((finish (declared_by items) d c).answer ≡ Ok (next_rule (declared_by items) d.premises c)) ↔ (Allowed items (drafted d p) × ((finish (declared_by items) d c).after ≡ declared_by (items ++ (drafted d p ∷ []))))

-- So, after a good list, the rules stay a finitary theory, whether the draft finishes or not.
abbrev pub FinishedIsFinitary : Type 0
FinishedIsFinitary = (items : List Item) (d : Draft) (p : ℕ) (c : Assertion) (k : ℕ) → Good items → IsDraft (declared_by items) d → entry_named (store_of items) p ≡ Some c → is_thesis c.statement ≡ false → is_plain c.statement ≡ true
    → FinitaryUpTo k (finish (declared_by items) d c).after.rules

-- What a declaration answers: what stands under the number in the declarations that it leaves.

-- for a variable of the next number
abbrev pub VariableIsThere : Type 0
VariableIsThere = (W : Declarations) (v : ℕ) (n : Name) (p : Assertion) (x : ℕ × Annotation) → is_next W.variables v ≡ true → (new_variable W v n p).answer ≡ Ok x
    → variable_named (new_variable W v n p).after v ≡ Some x

-- for a metavariable
abbrev pub MetavariableIsThere : Type 0
MetavariableIsThere = (W : Declarations) (n : Name) (b : Assertion) (m : ℕ × Declared) → (new_metavariable W n b).answer ≡ Ok m
    → metavariable_named (new_metavariable W n b).after (length W.metavariables) ≡ Some m

-- for a premise, which the draft has as its last one
abbrev pub PremiseIsThere : Type 0
PremiseIsThere = (W : Declarations) (d : Draft) (n : Name) (b : Assertion) (m : ℕ × Declared) → (premise W d n b).answer ≡ Ok m
    → (metavariable_named (premise W d n b).after.0 (length W.metavariables) ≡ Some m) × ((premise W d n b).after.1.premises ≡ d.premises ++ (m ∷ []))

-- for a rule
abbrev pub RuleIsThere : Type 0
RuleIsThere = (W : Declarations) (d : Draft) (c : Assertion) (r : ℕ × Rule) → (finish W d c).answer ≡ Ok r
    → rule_named (finish W d c).after (length W.rules) ≡ Some r

-- Which refusals name an atom: the least one.

-- no other atom of this kind is earlier in the set
abbrev pub IsLeast : (Atom → Type 0) → List Atom → Atom → Type 0
IsLeast P S a = Has a S × P a × ((b : Atom) → Has b S → P b → (a ≡ b) ⊎ (precedes a b ≡ true))

-- the least atom that is not among these, where there is one
abbrev pub FirstOutsideIsLeast : Type 0
FirstOutsideIsLeast = (others S : List Atom) (a : Atom) → Ascending S → first_outside others S ≡ Some a → IsLeast (λ b. Has b others → ⊥) S a

-- the atom is a variable
abbrev pub IsVariable : Atom → Type 0
IsVariable a = (v : ℕ) × (a ≡ var v)

-- the least variable of a set, where there is one
abbrev pub FirstVariableIsLeast : Type 0
FirstVariableIsLeast = (S : List Atom) (v : ℕ) → Ascending S → first_variable S ≡ Some v → IsLeast IsVariable S (var v)

-- the atom is a variable other than v, whose annotation rests on v
abbrev pub RestsOn : List (ℕ × Annotation) → ℕ → Atom → Type 0
RestsOn G v a = (w : ℕ) × (a ≡ var w) × (nat_eq w v ≡ false) × (rests_on v (look_up G w) ≡ true)

-- the least such variable of a set, where there is one
abbrev pub FirstDependentIsLeast : Type 0
FirstDependentIsLeast = (G : List (ℕ × Annotation)) (v w : ℕ) (S : List Atom) → Ascending S → first_dependent G v S ≡ Some w → IsLeast (RestsOn G v) S (var w)

-- Refusals of declarations.

-- what a call answers, alone
abbrev pub Answers : {S A E : Type 0} → Outcome S A E → Result A E → Type 0
Answers o r = o.answer ≡ r

-- A rule of a name that is there is refused, and after 65,536 rules each other; first when its draft is begun, and again when
-- it is finished.
abbrev pub NamesRefused : Type 0
NamesRefused = (W : Declarations) (d : Draft) (c : Assertion) →
    (Answers (begin W d.name) (Err Duplicate) ↔ (is_new W.names d.name ≡ false))
    × (Answers (begin W d.name) (Err TooMany) ↔ ((is_new W.names d.name ≡ true) × (65536 ≤ length W.rules)))
    × (Answers (finish W d c) (Err Duplicate) ↔ (is_new W.names d.name ≡ false))
    × (Answers (finish W d c) (Err TooMany) ↔ ((is_new W.names d.name ≡ true) × (65536 ≤ length W.rules)))

-- A premise or a conclusion is refused where it rests on an atom that is none of the draft's metavariables; the conclusion after
-- the name and the number of rules.
abbrev pub OpenRefused : Type 0
OpenRefused = (W : Declarations) (d : Draft) (n : Name) (b : Assertion) (a : Atom) →
    (Answers (premise W d n b) (Err (OpenPremise (suc (length d.premises)) a)) ↔ (first_outside (atoms d.premises) b.set ≡ Some a))
    × (Answers (finish W d b) (Err (OpenConclusion a)) ↔ ((is_new W.names d.name ≡ true) × (length W.rules < 65536) × (first_outside (atoms d.premises) b.set ≡ Some a)))

-- The generic application of a metavariable of a type or a term with 65,536 domains or more is too big.
abbrev pub WideRefused : Type 0
WideRefused = (W : Declarations) (m : ℕ) (d : Declared) → is_object d.boundary ≡ true → 65536 ≤ domain_count d.boundary → answer W (by_generic (m, d)) ≡ Err TooBig
