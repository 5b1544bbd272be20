-- A further premise of a draft.
use Rattle.std.proofs.Common.{◌≡◌, ◌∙◌, ℕ, suc, ◌+◌, ◌<◌, Bool, true, false, if◌then◌else◌, arith, length-append, Option, Some, None, List, [], ◌∷◌, ◌++◌, length, map, refl, sym, ap, ap₂, subst}
use Rattle.std.specs.Prelude.{option_map, Result, Ok, Err, is_ok, is_err}
use Rattle.std.proofs.lemmas.Option.{same_Some}
use Rattle.ft_common.proofs.Booleans.{true_false}
use Rattle.ft_common.proofs.Choices.{if_true}
use Rattle.ft_items.specs.Sets.{Atom, met}
use Rattle.ft_items.specs.Item.{Name, metavariable}
use Rattle.ft_items.specs.Store.{Assertion, Declared, Declarations, nth, declared_metavariable, add_metavariable, empty_store, declared_by, metavariables_in}
use Rattle.ft_items.specs.Rows.{atoms}
use Rattle.ft_items.specs.Good.{Good, Allowed}
use Rattle.ft_items.proofs.Lists.{nth_end, declared_last, entries_all, metavariables_append}
use Rattle.ft_assume.specs.Atoms.{atom_of, atoms_of}
use Rattle.ft_assume.specs.declared.atom.Atom.{Atom as AtomValue}
use Rattle.ft_reference.specs.Declare as reference
use Rattle.ft_reference.specs.Declare.{outcome, first_outside}
use Rattle.ft_nucleus_laws.specs.Laws.{IsDraft}
use Rattle.ft_nucleus_laws.proofs.Declaring.{drafts_grow}
use Rattle.ft_kernel.specs.State.{State, with_item, entry_at, set_at, IsBoundaryOf}
use Rattle.ft_rules.specs.Drafts.{Drafted, declared_or, met_of, mets_of, draft_in, IsDraftOver, RestsOnOwn}
use Rattle.ft_rules.specs.Answers.{Premises}
use Rattle.ft_rules.specs.declared.fault.RuleFault.{RuleFault}
use Rattle.ft_rules.specs.declared.fault.RuleFault.TheVariants.{OpenPremise, Memory}
use Rattle.ft_rules.proofs.Own.{only_own}
use Rattle.ft_rules.proofs.Mets.{atoms_are, as_many, mets_append, mets_many, draft_later}

-- the set of an entry
pub set_is : (s : State) (b : ℕ) (a : Assertion) (S : List Atom) → entry_at s b ≡ Some a → set_at s b ≡ Some S → a.set ≡ S
set_is s b a S e h = same_Some a.set S (ap (option_map (λ (a : Assertion). a.set)) (sym e) ∙ h)

-- the first atom of a set that is none of a draft's metavariables
abbrev pub outside_in : State → Drafted → List Atom → Option Atom
outside_in s d S = first_outside (atoms (mets_of s.items d.premises)) S

pub outside_is : (s : State) (d : Drafted) (b : ℕ) (a : Assertion) (S : List Atom) (o : Option Atom) → entry_at s b ≡ Some a → set_at s b ≡ Some S → o ≡ first_outside (map met d.premises) S → outside_in s d a.set ≡ o
outside_is s d b a S o e k h = ap₂ first_outside (atoms_are s.items d.premises) (set_is s b a S e k) ∙ sym h

-- what was looked for among a draft's metavariables
pub looked : (o p : Option AtomValue) (own : List ℕ) (xs : List AtomValue) (d : Drafted) (S : List Atom) → option_map atom_of o ≡ first_outside (map met own) (atoms_of xs) → o ≡ p → own ≡ d.premises → atoms_of xs ≡ S
    → option_map atom_of p ≡ first_outside (map met d.premises) S
looked o p own xs d S h e q r = ap (option_map atom_of) (sym e) ∙ h ∙ ap₂ (λ ms S. first_outside (map met ms) S) q r

-- what the reference does, by the first atom outside
abbrev premised : State → Drafted → Name → Assertion → Option Atom → reference.Outcome (Declarations × reference.Draft) (ℕ × Declared) reference.RuleFault
premised s d n a o =
    outcome (option_map (reference.OpenPremise (suc (length (mets_of s.items d.premises)))) o) (declared_by s.items, draft_in s.items d)
    (add_metavariable (declared_by s.items) n (Some a), record { name = d.name; premises = mets_of s.items d.premises ++ reference.next_metavariable (declared_by s.items) n a ∷ [] })
    (reference.next_metavariable (declared_by s.items) n a)

pub premise_refused : (s : State) (d : Drafted) (n : Name) (b : ℕ) (S : List Atom) (i : ℕ) (x : AtomValue) → IsBoundaryOf s b → set_at s b ≡ Some S → Some (atom_of x) ≡ first_outside (map met d.premises) S
    → i ≡ suc (length d.premises) → Premises s d n b (Err (OpenPremise i x)) s d
premise_refused s d n b S i x p k h l = (
  p.0,
  p.1,
  (
    ap (λ o. (premised s d n p.0 o).answer) (outside_is s d b p.0 S (Some (atom_of x)) p.1 k h)
        ∙ ap (λ i. Err (reference.OpenPremise i (atom_of x))) (ap suc (as_many s.items d.premises) ∙ sym l),
    refl,
    refl,
  ),
)

pub premise_memory : (s t : State) (d e : Drafted) (n : Name) (b : ℕ) (f : RuleFault) → IsBoundaryOf s b → f ≡ Memory → t ≡ s → e ≡ d → Premises s d n b (Err f) t e
premise_memory s t d e n b f p m q r = subst (λ f. Premises s d n b (Err f) t e) (sym m) (p.0, p.1, (tt, q, r))

-- the boundary rests on the draft's own metavariables alone
pub rests_on_own : (s : State) (d : Drafted) (b : ℕ) (S : List Atom) → set_at s b ≡ Some S → None ≡ first_outside (map met d.premises) S → RestsOnOwn s b (map met d.premises)
rests_on_own s d b S k h = (S, k, sym h)

pub premise_allowed : (s : State) (d : Drafted) (n : Name) (b : ℕ) → IsBoundaryOf s b → RestsOnOwn s b (map met d.premises) → Allowed s.items (metavariable n b)
premise_allowed s d n b i r = (
  i.0,
  ap (λ es. nth es b) (entries_all empty_store s.items) ∙ i.1,
  i.2,
  only_own d.premises i.0.set (ap (first_outside (map met d.premises)) (set_is s b i.0 r.0 i.1 r.1) ∙ r.2),
)

-- the store with the new metavariable
store_met : (s t : State) (n : Name) (b : ℕ) (a : Assertion) → entry_at s b ≡ Some a → t ≡ with_item s (metavariable n b) → declared_by t.items ≡ add_metavariable (declared_by s.items) n (Some a)
store_met s t n b a e h =
    ap (λ (t : State). declared_by t.items) h
    ∙ declared_last s.items (metavariable n b)
    ∙ ap (add_metavariable (declared_by s.items) n) (ap (λ es. nth es b) (entries_all empty_store s.items) ∙ e)

-- what is made of the draft
new_met : (s t : State) (n : Name) (b m : ℕ) (a : Assertion) → Good s.items → entry_at s b ≡ Some a → t ≡ with_item s (metavariable n b) → m ≡ length (metavariables_in s.items)
    → met_of t.items m ≡ reference.next_metavariable (declared_by s.items) n a
new_met s t n b m a g h q k =
    let W = declared_by s.items in
    ap₂ (λ (X : Declarations) m. (m, declared_or (nth X.metavariables m))) (store_met s t n b a h q) (k ∙ sym (mets_many s.items g))
    ∙ ap (λ o. (length W.metavariables, declared_or o)) (nth_end W.metavariables (declared_metavariable n a))

new_draft : (s t : State) (d e : Drafted) (n : Name) (b m : ℕ) (a : Assertion) → Good s.items → IsDraftOver s.items d → entry_at s b ≡ Some a → t ≡ with_item s (metavariable n b) → m ≡ length (metavariables_in s.items)
    → e ≡ record { name = d.name; premises = d.premises ++ m ∷ [] }
    → draft_in t.items e ≡ record { name = d.name; premises = mets_of s.items d.premises ++ reference.next_metavariable (declared_by s.items) n a ∷ [] }
new_draft s t d e n b m a g i h q k r =
    let old : mets_of t.items d.premises ≡ mets_of s.items d.premises = ap (λ (t : State). mets_of t.items d.premises) q ∙ draft_later s.items (metavariable n b ∷ []) d i in
    ap (draft_in t.items) r
    ∙ ap (λ ds. record { name = d.name; premises = ds }) (mets_append t.items d.premises (m ∷ []) ∙ ap₂ (λ xs x. xs ++ x ∷ []) old (new_met s t n b m a g h q k))

pub premise_made : (s t : State) (d e : Drafted) (n : Name) (b m : ℕ) → Good s.items → IsDraftOver s.items d → IsBoundaryOf s b → RestsOnOwn s b (map met d.premises)
    → t ≡ with_item s (metavariable n b) → m ≡ length (metavariables_in s.items) → e ≡ record { name = d.name; premises = d.premises ++ m ∷ [] } → Premises s d n b (Ok m) t e
premise_made s t d e n b m g i p o q k r =
    let a : Assertion = p.0 in
    let none : outside_in s d a.set ≡ None = outside_is s d b a o.0 None p.1 o.1 (sym o.2) in (
      a,
      p.1,
      (
        ap (λ o. (premised s d n a o).answer) none ∙ ap Ok (sym (new_met s t n b m a g p.1 q k)),
        ap (λ o. (premised s d n a o).after) none ∙ ap₂ (λ X D. (X, D)) (sym (store_met s t n b a p.1 q)) (sym (new_draft s t d e n b m a g i p.1 q k r)),
        q,
        r,
      ),
    )

pub premise_draft : (s t : State) (d e : Drafted) (n : Name) (b m : ℕ) → IsDraftOver s.items d → Premises s d n b (Ok m) t e → IsDraftOver t.items e
premise_draft s t d e n b m i h =
    subst (λ (z : Declarations × reference.Draft). IsDraft z.0 z.1) h.2.1 (drafts_grow.1 (declared_by s.items) (draft_in s.items d) n h.0 (met_of t.items m) i h.2.0)

-- a push where there is room
pub pushed_ok : {A E : Type 0} (r : Result A E) → is_err r ≡ false → is_ok r ≡ true
pushed_ok (Ok a) h = refl
pushed_ok (Err e) h = true_false h

pub pushed_is : (d : Drafted) (old reserved pushed : List ℕ) (m : ℕ) (b : Bool) → old ≡ d.premises → reserved ≡ old → b ≡ true → pushed ≡ (if b then reserved ++ m ∷ [] else reserved) → pushed ≡ d.premises ++ m ∷ []
pushed_is d old reserved pushed m b o r e h = h ∙ if_true (reserved ++ m ∷ []) reserved b e ∙ ap (λ xs. xs ++ m ∷ []) (r ∙ o)

-- the new metavariable is there
pub metavariable_there : (s t : State) (n : Name) (p m : ℕ) → m ≡ length (metavariables_in s.items) → t ≡ with_item s (metavariable n p) → m < length (metavariables_in t.items)
metavariable_there s t n p m l u =
    let more : length (metavariables_in t.items) ≡ length (metavariables_in s.items ++ (n, p) ∷ []) = ap (λ (t : State). length (metavariables_in t.items)) u ∙ ap length (metavariables_append s.items (metavariable n p ∷ [])) in
    let last : length (metavariables_in s.items ++ (n, p) ∷ []) ≡ length (metavariables_in s.items) + 1 = length-append (metavariables_in s.items) ((n, p) ∷ []) in
    omega (arith, l, more, last)
