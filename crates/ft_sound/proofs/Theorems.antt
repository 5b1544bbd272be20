-- The theorems on good lists.
use Rattle.std.proofs.Common.{◌≡◌, ◌≢◌, ℕ, zero, suc, ◌+◌, true, false, nat_eq, not, Option, Some, None, List, [], ◌∷◌, ◌++◌, length, inl, inr, refl, sym, ap, ◌∙◌, subst, arith, append_assoc, length-append}
use Rattle.std.proofs.lemmas.Bool.{ltb-true, lt-ltb, eqb-true, and_parts, not-true, and_from}
use Rattle.std.proofs.lemmas.Option.{same_Some}
use Rattle.ft_common.proofs.Booleans.{true_false}
use Rattle.ft_common.proofs.Options.{none_some}
use Rattle.ft_theory.specs.Statements.{is_type, plain}
use Rattle.ft_theory.specs.Rules.{look_up}
use Rattle.ft_items.specs.Sets.{Atom, met, var, precedes, Has, Within, Ascending}
use Rattle.ft_items.specs.Item.{Name, Entry, Item, variable, metavariable, rule, entry, shown}
use Rattle.ft_items.specs.Store.{Assertion, Annotation, Declared, Store, nth, each, entry_named, metavariable_named, add_variable, add_metavariable, add_rule, add, add_all, empty_store, store_of, Declarations, declared_by, MemberHolds, MembersHold}
use Rattle.ft_items.specs.Good.{Reject, equal_names, is_new, reason_in, reason, AllowedIn, GoodAfter, Good, Counts, counts, Accepted, Rejected, found_at, first_rejected, verdict_by}
use Rattle.ft_sound.specs.Soundness.{EntriesDerivable, ContextsWellFormed, AtomsInSet, HasItsSet, SetsClosed, RulesFinitary, Differs, AllDiffer, NamesDiffer, AllowedWithoutReason, AcceptedAreGood, GoodAreAccepted, RejectedIsFirst, FirstIsRejected, NoReasonIsGood, AcceptedAreDerivable}
use Rattle.ft_items.proofs.SetLemmas.{precedes_trans, irreflexive, all_after}
use Rattle.ft_sound.proofs.Valid.{Declares, Proper, Valid, WellFormed, WellFormedStore, scoped_rules, up, mentions}
use Rattle.ft_items.proofs.Lists.{good_split}
use Rattle.ft_sound.proofs.Good.{entry_valid}
use Rattle.ft_sound.proofs.Reasons.{no_reason, allowed, well_formed_add, well_formed_all, well_formed_empty}

-- the store before an entry, and the entry in it
abbrev pub Before : Store → Entry → Type 0
Before W e = WellFormedStore W × AllowedIn W (entry e)

before_entry : (items before after : List Item) (e : Entry) → Good items → items ≡ before ++ (entry e ∷ after) → Before (store_of before) e
before_entry items before after e g p =
    let r : GoodAfter empty_store before × AllowedIn (store_of before) (entry e) = good_split empty_store before (entry e) after (subst (GoodAfter empty_store) p g) in
    (well_formed_all empty_store well_formed_empty before r.0, r.1)

valid_entry : (W : Store) (e : Entry) → Before W e → Valid W.declarations e.statement e.set
valid_entry W e b = entry_valid W b.0 e (no_reason W b.0 (entry e) b.1)

pub entries_derivable : EntriesDerivable
entries_derivable items g before after e p = (valid_entry (store_of before) e (before_entry items before after e g p)).derivable

pub atoms_in_set : AtomsInSet
atoms_in_set items g before after e p = mentions (declared_by before) e.statement e.set (entries_derivable items g before after e p)

pub sets_closed : SetsClosed
sets_closed items g before after e p a k = go a (r.0) r.1 r.2
  where
    r : (R : List Atom) × Declares (declared_by before) a R × Within R e.set
    r = (valid_entry (store_of before) e (before_entry items before after e g p)).proper.closed a k

    go : (a : Atom) (R : List Atom) → Declares (declared_by before) a R → Within R e.set → HasItsSet (declared_by before) e.set a
    go (met m) R d w = (d.0, d.1, subst (λ z. Within z e.set) (sym d.2) w)
    go (var v) R d w = (d.0, d.1, subst (λ z. Within z e.set) (sym d.2) w)

pub allowed_without_reason : AllowedWithoutReason
allowed_without_reason items g i = (no_reason (store_of items) (well_formed_all empty_store well_formed_empty items g) i, allowed (store_of items) i)

pub rules_finitary : RulesFinitary
rules_finitary items g k = (well_formed_all empty_store well_formed_empty items g).declarations.finitary k

-- the context of a set, in order
in_front : (done S : List Atom) (a c : Atom) → Ascending (done ++ (a ∷ S)) → Has c (done ++ (a ∷ S)) → precedes c a ≡ true → Has c done
in_front [] S a c s (inl e) h = irreflexive a (subst (λ z. precedes z a ≡ true) e h)
in_front [] S a c s (inr k) h = irreflexive a (precedes_trans a c a (all_after a c S s.0 k) h)
in_front (b ∷ done) S a c s (inl e) h = inl e
in_front (b ∷ done) S a c s (inr k) h = inr (in_front done S a c s.1 k h)

has_middle : (done S : List Atom) (a : Atom) → Has a (done ++ (a ∷ S))
has_middle [] S a = inl refl
has_middle (b ∷ done) S a = inr (has_middle done S a)

member_holds : (W : Declarations) → WellFormed W → (done S : List Atom) (a : Atom) → Proper W (done ++ (a ∷ S)) → MemberHolds W done a
member_holds W F done S (met m) p =
    let r : (R : List Atom) × Declares W (met m) R × Within R (done ++ (met m ∷ S)) = p.closed (met m) (has_middle done S (met m)) in (
      r.1.0,
      r.1.1,
      up W (scoped_rules W F) r.1.0.boundary r.1.0.set done
          (λ c k. in_front done S (met m) c p.ascending (r.2 c (subst (Has c) r.1.2 k)) (earlier c r.1.0 r.1.1 k))
          (F.metavariables m r.1.0 r.1.1).0.derivable,
    )
  where
    earlier : (c : Atom) (d : Declared) → nth W.metavariables m ≡ Some d → Has c d.set → precedes c (met m) ≡ true
    earlier (met n) d q k = lt-ltb n m ((F.metavariables m d q).3 n k)
    earlier (var v) d q k = absurd ((F.metavariables m d q).2 v k)
member_holds W F done S (var v) p =
    let r : (R : List Atom) × Declares W (var v) R × Within R (done ++ (var v ∷ S)) = p.closed (var v) (has_middle done S (var v)) in (
      r.1.0,
      r.1.1,
      up W (scoped_rules W F) (plain (is_type r.1.0.annotation)) r.1.0.set done
          (λ c k. in_front done S (var v) c p.ascending (r.2 c (subst (Has c) r.1.2 k)) (earlier c r.1.0 r.1.1 k))
          (F.variables v r.1.0 r.1.1).0.derivable,
    )
  where
    earlier : (c : Atom) (d : Annotation) → look_up W.variables v ≡ Some d → Has c d.set → precedes c (var v) ≡ true
    earlier (met n) d q k = refl
    earlier (var w) d q k = lt-ltb w v ((F.variables v d q).1 w k)

pub members_hold : (W : Declarations) → WellFormed W → (done S : List Atom) → Proper W (done ++ S) → MembersHold W done S
members_hold W F done [] p = tt
members_hold W F done (a ∷ S) p = (member_holds W F done S a p, members_hold W F (done ++ (a ∷ [])) S (subst (Proper W) (sym (append_assoc done (a ∷ []) S)) p))

pub contexts_well_formed : ContextsWellFormed
contexts_well_formed items g before after e p =
    let b : Before (store_of before) e = before_entry items before after e g p in
    members_hold (declared_by before) b.0.declarations [] e.set (valid_entry (store_of before) e b).proper

-- names
equal_names_self : (n : Name) → equal_names n n ≡ true
equal_names_self [] = refl
equal_names_self (c ∷ n) = and_from (nat_eq c c) (equal_names n n) (Rattle.std.proofs.lemmas.Bool.eq-eqb c c refl) (equal_names_self n)

name_differs : (m n : Name) → equal_names m n ≡ false → m ≢ n
name_differs m n h e = true_false (sym (subst (λ z. equal_names z n ≡ true) (sym e) (equal_names_self n)) ∙ h)

differs_last : (m : Name) (ns : List Name) (n : Name) → Differs m ns → m ≢ n → Differs m (ns ++ (n ∷ []))
differs_last m [] n d h = (h, tt)
differs_last m (k ∷ ns) n d h = (d.0, differs_last m ns n d.1 h)

all_differ_last : (ns : List Name) (n : Name) → AllDiffer ns → is_new ns n ≡ true → AllDiffer (ns ++ (n ∷ []))
all_differ_last [] n d h = (tt, tt)
all_differ_last (m ∷ ns) n d h =
    let k : (not (equal_names m n) ≡ true) × (is_new ns n ≡ true) = and_parts (not (equal_names m n)) (is_new ns n) h in
    (differs_last m ns n d.0 (name_differs m n (not-true (equal_names m n) k.0)), all_differ_last ns n d.1 k.1)

abbrev NamesFine : Declarations → Type 0
NamesFine W = AllDiffer W.names × (length W.names ≡ length W.rules)

names_rule : (W : Declarations) (n : Name) (os : Option (List (ℕ × Declared))) (o : Option Assertion) → NamesFine W → is_new W.names n ≡ true → NamesFine (add_rule W n os o)
names_rule W n None o f h = f
names_rule W n (Some ms) None f h = f
names_rule W n (Some ms) (Some p) f h = (all_differ_last W.names n f.0 h, longer)
  where
    longer : length (add_rule W n (Some ms) (Some p)).names ≡ length (add_rule W n (Some ms) (Some p)).rules
    longer = simp length-append (omega (arith, f.1))

names_variable : (W : Declarations) (v : ℕ) (n : Name) (o : Option Assertion) → NamesFine W → NamesFine (add_variable W v n o)
names_variable W v n None f = f
names_variable W v n (Some p) f = f

names_metavariable : (W : Declarations) (n : Name) (o : Option Assertion) → NamesFine W → NamesFine (add_metavariable W n o)
names_metavariable W n None f = f
names_metavariable W n (Some p) f = f

names_add : (W : Store) (i : Item) → NamesFine W.declarations → AllowedIn W i → NamesFine (add W i).declarations
names_add W (variable v n p) f h = names_variable W.declarations v n (entry_named W p) f
names_add W (metavariable n p) f h = names_metavariable W.declarations n (entry_named W p) f
names_add W (rule n ms p) f h = names_rule W.declarations n (each (metavariable_named W.declarations) ms) (entry_named W p) f h.0
names_add W (entry e) f h = f
names_add W (shown p) f h = f

names_all : (W : Store) (items : List Item) → NamesFine W.declarations → GoodAfter W items → NamesFine (add_all W items).declarations
names_all W [] f g = f
names_all W (i ∷ items) f g = names_all (add W i) items (names_add W i f g.0) g.1

pub names_differ : NamesDiffer
names_differ items g = names_all empty_store items (tt, refl) g

-- the verdict
none_good : (W : Store) (k : ℕ) (items : List Item) → first_rejected W k items ≡ None → GoodAfter W items
none_good W k [] h = tt
none_good W k (i ∷ items) h = go (reason_in W i) refl h (none_good (add W i) (suc k) items)
  where
    go : (o : Option Reject) → reason_in W i ≡ o → found_at k o (first_rejected (add W i) (suc k) items) ≡ None → (first_rejected (add W i) (suc k) items ≡ None → GoodAfter (add W i) items) → AllowedIn W i × GoodAfter (add W i) items
    go None q h ih = (allowed W i q, ih h)
    go (Some why) q h ih = none_some (sym h)

good_none : (W : Store) → WellFormedStore W → (k : ℕ) (items : List Item) → GoodAfter W items → first_rejected W k items ≡ None
good_none W F k [] g = refl
good_none W F k (i ∷ items) g = ap (λ o. found_at k o (first_rejected (add W i) (suc k) items)) (no_reason W F i g.0) ∙ good_none (add W i) (well_formed_add W F i g.0) (suc k) items g.1

abbrev First : Store → ℕ → List Item → ℕ → Reject → Type 0
First W k items j why = (before : List Item) × (i : Item) × (after : List Item) × (items ≡ before ++ (i ∷ after)) × (length before + k ≡ j) × GoodAfter W before × (reason_in (add_all W before) i ≡ Some why)

some_first : (W : Store) (k : ℕ) (items : List Item) (r : ℕ × Reject) → first_rejected W k items ≡ Some r → First W k items r.0 r.1
some_first W k [] r e = none_some e
some_first W k (i ∷ items) r e = go (reason_in W i) refl e (some_first (add W i) (suc k) items r)
  where
    later : reason_in W i ≡ None → First (add W i) (suc k) items r.0 r.1 → First W k (i ∷ items) r.0 r.1
    later q f = (i ∷ f.0, f.1, f.2, ap (λ z. i ∷ z) f.3, omega (arith, f.4), (allowed W i q, f.5), f.6)

    go : (o : Option Reject) → reason_in W i ≡ o → found_at k o (first_rejected (add W i) (suc k) items) ≡ Some r → (first_rejected (add W i) (suc k) items ≡ Some r → First (add W i) (suc k) items r.0 r.1) → First W k (i ∷ items) r.0 r.1
    go None q e ih = later q (ih e)
    go (Some w) q e ih =
        let p : (k, w) ≡ r = same_Some (k, w) r e in
        ([], i, items, refl, omega (arith, ap (λ (z : ℕ × Reject). z.0) p), tt, q ∙ ap (λ (z : ℕ × Reject). Some z.1) p)

first_some : (W : Store) → WellFormedStore W → (k : ℕ) (before after : List Item) (i : Item) (why : Reject) → GoodAfter W before → reason_in (add_all W before) i ≡ Some why → first_rejected W k (before ++ (i ∷ after)) ≡ Some (length before + k, why)
first_some W F k [] after i why g e = ap (λ o. found_at k o (first_rejected (add W i) (suc k) after)) e ∙ ap (λ n. Some (n, why)) (omega arith)
first_some W F k (j ∷ before) after i why g e =
    ap (λ o. found_at k o (first_rejected (add W j) (suc k) (before ++ (i ∷ after)))) (no_reason W F j g.0)
    ∙ first_some (add W j) (well_formed_add W F j g.0) (suc k) before after i why g.1 e
    ∙ ap (λ n. Some (n, why)) (omega arith)

pub good_are_accepted : GoodAreAccepted
good_are_accepted items g = ap (λ o. verdict_by o (counts items)) (good_none empty_store well_formed_empty zero items g)

pub accepted_are_good : AcceptedAreGood
accepted_are_good items c h = go (first_rejected empty_store zero items) refl h
  where
    one_count : (a b : Counts) → Accepted a ≡ Accepted b → b ≡ a
    one_count a b e = cc

    no_count : (k : ℕ) (why : Reject) (b : Counts) → Rejected k why ≡ Accepted b → ⊥
    no_count k why b e = cc

    go : (o : Option (ℕ × Reject)) → first_rejected empty_store zero items ≡ o → verdict_by o (counts items) ≡ Accepted c → Good items × (c ≡ counts items)
    go None q h = (none_good empty_store zero items q, one_count (counts items) c h)
    go (Some r) q h = absurd (no_count r.0 r.1 c h)

pub rejected_is_first : RejectedIsFirst
rejected_is_first items k why h = go (first_rejected empty_store zero items) refl h
  where
    no_count : (a : Counts) → Accepted a ≡ Rejected k why → ⊥
    no_count a e = cc

    place : (j : ℕ) (w : Reject) → Rejected j w ≡ Rejected k why → j ≡ k
    place j w e = cc

    cause : (j : ℕ) (w : Reject) → Rejected j w ≡ Rejected k why → w ≡ why
    cause j w e = cc

    found : (r : ℕ × Reject) → Rejected r.0 r.1 ≡ Rejected k why → First empty_store zero items r.0 r.1 → (before : List Item) × (i : Item) × (after : List Item) × (items ≡ before ++ (i ∷ after)) × (length before ≡ k) × Good before × (reason before i ≡ Some why)
    found r e f = (f.0, f.1, f.2, f.3, omega (arith, f.4, place r.0 r.1 e), f.5, f.6 ∙ ap Some (cause r.0 r.1 e))

    go : (o : Option (ℕ × Reject)) → first_rejected empty_store zero items ≡ o → verdict_by o (counts items) ≡ Rejected k why → (before : List Item) × (i : Item) × (after : List Item) × (items ≡ before ++ (i ∷ after)) × (length before ≡ k) × Good before × (reason before i ≡ Some why)
    go None q h = absurd (no_count (counts items) h)
    go (Some r) q h = found r h (some_first empty_store zero items r q)

pub first_is_rejected : FirstIsRejected
first_is_rejected before after i why g e =
    ap (λ o. verdict_by o (counts (before ++ (i ∷ after)))) (first_some empty_store well_formed_empty zero before after i why g e)
    ∙ ap (λ n. Rejected n why) (omega arith)

pub accepted_are_derivable : AcceptedAreDerivable
accepted_are_derivable items c h = entries_derivable items (accepted_are_good items c h).0

each_none : (W : Store) (items : List Item) → ((before after : List Item) (i : Item) → items ≡ before ++ (i ∷ after) → reason_in (add_all W before) i ≡ None) → GoodAfter W items
each_none W [] h = tt
each_none W (j ∷ items) h = (allowed W j (h [] items j refl), each_none (add W j) items (λ before after i p. h (j ∷ before) after i (ap (λ z. j ∷ z) p)))

pub no_reason_is_good : NoReasonIsGood
no_reason_is_good items h = each_none empty_store items h
