-- The metavariables of a good list, by their lines, with what they rest on.
use Rattle.std.proofs.Common.{◌≡◌, ℕ, Bool, true, false, Option, Some, None, List, refl, sym, ap, ◌∙◌}
use Rattle.std.specs.Prelude.{option_map}
use Rattle.std.proofs.lemmas.Option.{same_Some}
use Rattle.ft_common.proofs.Options.{none_some}
use Rattle.ft_theory.specs.Expressions.{Expression}
use Rattle.ft_theory.specs.Statements.{Statement}
use Rattle.ft_items.specs.Item.{Name, Item, Entry as AnyEntry}
use Rattle.ft_items.specs.Sets.{Atom, insert, met, union}
use Rattle.ft_items.specs.Equal.{equal_statements, is_thesis}
use Rattle.ft_items.specs.Store.{Assertion, Declared, declared, entry_named, metavariable_named, nth, entries_in, metavariables_in, store_of, declared_by}
use Rattle.ft_items.specs.Good.{Reject as Reason, Premise, Good, reason_of_result}
use Rattle.ft_items.proofs.Lists.{store_is}
use Rattle.ft_judge.specs.Meaning.{thesis_in, boundary_in}
use Rattle.ft_judge.specs.declared.judgement.Thesis.{Thesis as ThesisValue}
use Rattle.ft_placing.specs.Sides.{placed}
use Rattle.ft_placing.specs.declared.sides.At.{At}
use Rattle.ft_check.specs.AtHand.{generic, IsMetavariable}
use Rattle.ft_check.specs.declared.metavariable_at.MetavariableAt.{MetavariableAt}
use Rattle.ft_check.proofs.Basics.{named, nth_map}
use Rattle.ft_check.proofs.OfKind.{thesis_is}
use Rattle.ft_check.proofs.RuleLines.{metavariable_line}
use Rattle.ft_check.proofs.Standing.{entries_are}

-- The entry of the boundary, and what it declares.
pub record Read (items : List Item) (m : ℕ) (d : ℕ × Declared) : Type 0 where
  pub line : Name × ℕ
  pub stands : nth (metavariables_in items) m ≡ Some line
  pub entry : Assertion
  pub is : entry_named (store_of items) line.1 ≡ Some entry
  pub number : m ≡ d.0
  pub boundary : d.1.boundary ≡ entry.statement
  pub set : d.1.set ≡ entry.set
  pub kind : is_thesis entry.statement ≡ false

declares_so : (x : Name × ℕ) (a : Assertion) (o : Option Assertion) → o ≡ Some a → declared x o ≡ declared x (Some a)
declares_so x a o e = ap (declared x) e

pub read : (items : List Item) (m : ℕ) (d : ℕ × Declared) → Good items → metavariable_named (declared_by items) m ≡ Some d → Read items m d
read items m d g h = go (nth (metavariables_in items) m) refl
  where
    f : Name × ℕ → Declared
    f x = declared x (nth (entries_in items) x.1)

    known : (d.0 ≡ m) × (nth (declared_by items).metavariables m ≡ Some d.1)
    known = named (declared_by items) m d h

    found : option_map f (nth (metavariables_in items) m) ≡ Some d.1
    found = sym (ap (λ ds. nth ds m) (store_is items g).metavariables ∙ nth_map f (metavariables_in items) m) ∙ known.1

    go : (o : Option (Name × ℕ)) → nth (metavariables_in items) m ≡ o → Read items m d
    go None e = none_some (sym (ap (option_map f) e) ∙ found)
    go (Some x) e =
        let b = metavariable_line items m x g e in
        let same : d.1 ≡ declared x (Some b.conclusion) =
        sym (same_Some (f x) d.1 (sym (ap (option_map f) e) ∙ found)) ∙ declares_so x b.conclusion (nth (entries_in items) x.1) (sym (entries_are items x.1) ∙ b.is) in
        record {
          line = x;
          stands = e;
          entry = b.conclusion;
          is = b.is;
          number = sym known.0;
          boundary = ap (λ (c : Declared). c.boundary) same;
          set = ap (λ (c : Declared). c.set) same;
          kind = b.boundary;
        }

-- Where nothing is read, there is no such metavariable.
pub not_declared : {P : Type 0} (items : List Item) (m p : ℕ) → Good items → metavariable_named (declared_by items) m ≡ None → Some p ≡ option_map (λ (x : Name × ℕ). x.1) (nth (metavariables_in items) m) → P
not_declared {P} items m p g e h = go (nth (metavariables_in items) m) refl h
  where
    f : Name × ℕ → Declared
    f x = declared x (nth (entries_in items) x.1)

    found : option_map f (nth (metavariables_in items) m) ≡ nth (declared_by items).metavariables m
    found = sym (ap (λ ds. nth ds m) (store_is items g).metavariables ∙ nth_map f (metavariables_in items) m)

    go : (o : Option (Name × ℕ)) → nth (metavariables_in items) m ≡ o → Some p ≡ option_map (λ (x : Name × ℕ). x.1) o → P
    go None q h = none_some (sym h)
    go (Some x) q h = none_some (sym (ap (option_map {U = ℕ × Declared} (λ d. (m, d))) (sym (ap (option_map f) q) ∙ found) ∙ e))

pub no_line : {P : Type 0} (items : List Item) (m : ℕ) (d : ℕ × Declared) → Good items → metavariable_named (declared_by items) m ≡ Some d → None ≡ option_map (λ (x : Name × ℕ). x.1) (nth (metavariables_in items) m) → P
no_line items m d g h e = let k = read items m d g h in none_some (e ∙ ap (option_map (λ (x : Name × ℕ). x.1)) k.stands)

entry_is : (items : List Item) (m p : ℕ) (d : ℕ × Declared) (k : Read items m d) → Some p ≡ option_map (λ (x : Name × ℕ). x.1) (nth (metavariables_in items) m) → entry_named (store_of items) p ≡ Some k.entry
entry_is items m p d k e = ap (entry_named (store_of items)) (same_Some p k.line.1 (e ∙ ap (option_map (λ (x : Name × ℕ). x.1)) k.stands)) ∙ k.is

pub no_entry : {P : Type 0} (items : List Item) (m p : ℕ) (d : ℕ × Declared) → Good items → metavariable_named (declared_by items) m ≡ Some d → Some p ≡ option_map (λ (x : Name × ℕ). x.1) (nth (metavariables_in items) m)
    → None ≡ entry_named (store_of items) p → P
no_entry items m p d g h e q = let k = read items m d g h in none_some (q ∙ entry_is items m p d k e)

pub no_boundary : {P : Type 0} (ts : List Expression) (items : List Item) (m p : ℕ) (d : ℕ × Declared) (x : ThesisValue) (S : List Atom) → Good items → metavariable_named (declared_by items) m ≡ Some d
    → Some p ≡ option_map (λ (x : Name × ℕ). x.1) (nth (metavariables_in items) m) → Some (record { statement = thesis_in ts x; set = S }) ≡ entry_named (store_of items) p → P
no_boundary ts items m p d x S g h e q =
    let k = read items m d g h in
    let same : record { statement = thesis_in ts x; set = S } ≡ k.entry = same_Some _ k.entry (q ∙ entry_is items m p d k e) in
    let clash : true ≡ false = thesis_is ts x ∙ ap (λ (a : Assertion). is_thesis a.statement) same ∙ k.kind in
    absurd (no clash)
  where
    no : true ≡ false → ⊥
    no e = cc

pub is_read : (ts : List Expression) (items : List Item) (m p : ℕ) (d : ℕ × Declared) (x : MetavariableAt) → Good items → metavariable_named (declared_by items) m ≡ Some d
    → Some p ≡ option_map (λ (x : Name × ℕ). x.1) (nth (metavariables_in items) m) → Some (record { statement = boundary_in ts x.boundary.now; set = x.set.now }) ≡ entry_named (store_of items) p → IsMetavariable ts m x d
is_read ts items m p d x g h e q =
    let k = read items m d g h in
    let same : record { statement = boundary_in ts x.boundary.now; set = x.set.now } ≡ k.entry = same_Some _ k.entry (q ∙ entry_is items m p d k e) in
    record {
      number = k.number;
      boundary = ap (λ (a : Assertion). a.statement) same ∙ sym k.boundary;
      set = ap (λ (a : Assertion). a.set) same ∙ sym k.set;
    }

-- The reasons, by what is read.
pub generic_reason : (ts : List Expression) (m : ℕ) (d : ℕ × Declared) (x : MetavariableAt) (e : AnyEntry) (r : Option Reason) → IsMetavariable ts m x d
    → r ≡ reason_of_result (Some (generic m (boundary_in ts x.boundary.now))) (insert (met m) x.set.now) e → r ≡ reason_of_result (Some (generic d.0 d.1.boundary)) (insert (met d.0) d.1.set) e
generic_reason ts m d x e r k h =
    h ∙ ap (λ m. reason_of_result (Some (generic m (boundary_in ts x.boundary.now))) (insert (met m) x.set.now) e) k.number
    ∙ ap (λ b. reason_of_result (Some (generic d.0 b)) (insert (met d.0) x.set.now) e) k.boundary
    ∙ ap (λ S. reason_of_result (Some (generic d.0 d.1.boundary)) (insert (met d.0) S) e) k.set

pub placed_reason : (ts : List Expression) (a : At) (m : ℕ) (d : ℕ × Declared) (x : MetavariableAt) (xs ys : List Statement) (S R : List Atom) (e : AnyEntry) (r : Option Reason) → IsMetavariable ts m x d → xs ≡ ys → S ≡ R
    → r ≡ reason_of_result (placed a m (boundary_in ts x.boundary.now) xs) (insert (met m) (union x.set.now S)) e → r ≡ reason_of_result (placed a d.0 d.1.boundary ys) (insert (met d.0) (union d.1.set R)) e
placed_reason ts a m d x xs ys S R e r k f g h =
    h ∙ ap (λ m. reason_of_result (placed a m (boundary_in ts x.boundary.now) xs) (insert (met m) (union x.set.now S)) e) k.number
    ∙ ap (λ b. reason_of_result (placed a d.0 b xs) (insert (met d.0) (union x.set.now S)) e) k.boundary
    ∙ ap (λ T. reason_of_result (placed a d.0 d.1.boundary xs) (insert (met d.0) (union T S)) e) k.set
    ∙ ap (λ xs. reason_of_result (placed a d.0 d.1.boundary xs) (insert (met d.0) (union d.1.set S)) e) f
    ∙ ap (λ S. reason_of_result (placed a d.0 d.1.boundary ys) (insert (met d.0) (union d.1.set S)) e) g

-- where the test finds that nothing is concluded
pub tested_none : (C : Option Statement) (y : Statement) (S : List Atom) (e : AnyEntry) (o : Option Bool) → o ≡ option_map (λ z. equal_statements z y) C → o ≡ None → Some Premise ≡ reason_of_result C S e
tested_none None y S e o h k = refl
tested_none (Some x) y S e o h k = none_some (sym k ∙ h)
