-- Declaring variables, metavariables and rules: allowed items, and what stays after a refusal.
use Rattle.std.proofs.Common.{◌≡◌, ◌≢◌, ℕ, suc, Bool, true, false, cond, nat_lt, ◌&&◌, not, Option, Some, None, List, [], ◌∷◌, ◌++◌, ◌⊎◌, length, inl, inr, refl, sym, ap, ap₂, ◌∙◌, subst, append_assoc, append-nil, arith}
use Rattle.std.specs.Prelude.{option_map, option_and_then, Result, Ok, Err}
use Rattle.std.proofs.lemmas.Bool.{ltb-true, lt-ltb, and_parts, and_from, not-true}
use Rattle.std.proofs.lemmas.Option.{same_Some}
use Rattle.ft_common.proofs.Options.{none_some, some_none}
use Rattle.ft_common.proofs.Booleans.{false_true}
use Rattle.ft_theory.specs.Rules.{Rule}
use Rattle.ft_theory.specs.Derivability.{FinitaryUpTo}
use Rattle.ft_items.specs.Sets.{Atom, met, var, has, is_within, metavariables_only, Has}
use Rattle.ft_items.specs.Item.{Name, variable, metavariable}
use Rattle.ft_items.specs.Store.{Assertion, Annotation, Declared, nth, each, entry_named, variable_named, metavariable_named, rule_named, add_variable, add_metavariable, add_rule, empty_store, declared_variable, declared_metavariable, declared_rule, Declarations, declared_by, Store, store_of}
use Rattle.ft_items.specs.Rows.{atoms, differ, on_earlier}
use Rattle.ft_items.specs.Good.{is_plain_type, is_new, Allowed}
use Rattle.ft_items.proofs.SetLemmas.{by_bool, has_true, has_false}
use Rattle.ft_items.proofs.Lists.{declared_last, good_last, Kept, nth_before, each_before, nth_end, nth_past, rule_end, look_new, store_append, before_all}
use Rattle.ft_sound.proofs.Theorems.{rules_finitary}
use Rattle.ft_reference.specs.Refusals.{Refusal, WrongForm, OpenBoundary}
use Rattle.ft_reference.specs.Declare.{outcome, refused_unless, first_of, new_variable, first_variable, next_metavariable, new_metavariable, RuleFault, Duplicate, TooMany, OpenPremise, OpenConclusion, Draft, name_fault, first_outside, begin, premise, next_rule, finish}
use Rattle.ft_nucleus_laws.specs.Laws.{LeavesOld, RefusalsChangeNothing, VariablesAllowed, MetavariablesAllowed, numbers, IsDraft, DraftsGrow, DraftsStay, drafted, FinishesAllowed, FinishedIsFinitary, VariableIsThere, MetavariableIsThere, PremiseIsThere, RuleIsThere}
use Rattle.ft_sound.proofs.Good.{atoms_last, has_last}

-- outcomes
ok_path : {A E : Type 0} (a b : A) (x y : Result A E) → x ≡ Ok a → y ≡ Ok b → x ≡ y → a ≡ b
ok_path a b x y p q e = cc

no_answer : {A E : Type 0} {P : Type 0} (e : E) (a : A) (x : Result A E) → x ≡ Err e → x ≡ Ok a → P
no_answer {A} {E} {P} e a x p q = absurd (clash p q)
  where
    clash : x ≡ Err e → x ≡ Ok a → ⊥
    clash p q = cc

stays : {S A E : Type 0} (o : Option E) (old made : S) (a : A) → LeavesOld old (outcome o old made a)
stays None old made a e h = no_answer e a (outcome None old made a).answer h refl
stays (Some r) old made a e h = refl

answers_none : {S A E : Type 0} (o : Option E) (old made : S) (a b : A) → (outcome o old made a).answer ≡ Ok b → (o ≡ None) × (a ≡ b)
answers_none None old made a b h = (refl, ok_path a b (outcome None old made a).answer (outcome None old made b).answer refl refl h)
answers_none (Some e) old made a b h = no_answer e b (outcome (Some e) old made a).answer refl h

none_answers : {S A E : Type 0} (o : Option E) (old made : S) (a : A) → o ≡ None → ((outcome o old made a).answer ≡ Ok a) × ((outcome o old made a).after ≡ made)
none_answers None old made a h = (refl, refl)
none_answers (Some e) old made a h = some_none h

pub refusals_change_nothing : RefusalsChangeNothing
refusals_change_nothing W d v n p = (stays _ _ _ _, stays _ _ _ _, stays _ _ _ _, stays _ _ _ _, stays _ _ _ _)

-- refusals that are none
pub unless_true : {E : Type 0} (b : Bool) (e : E) → refused_unless b e ≡ None → b ≡ true
unless_true true e h = refl
unless_true false e h = some_none h

true_unless : {E : Type 0} (b : Bool) (e : E) → b ≡ true → refused_unless b e ≡ None
true_unless true e h = refl
true_unless false e h = false_true h

pub both_none : {E : Type 0} (o p : Option E) → first_of o p ≡ None → (o ≡ None) × (p ≡ None)
both_none None p h = (refl, h)
both_none (Some e) p h = some_none h

none_both : {E : Type 0} (o p : Option E) → o ≡ None → p ≡ None → first_of o p ≡ None
none_both o p h k = ap (λ z. first_of z p) h ∙ k

pub map_none : {A B : Type 0} (f : A → B) (o : Option A) → option_map f o ≡ None → o ≡ None
map_none f None h = refl
map_none f (Some a) h = some_none h

-- the entry is the one named
same_entry : (W : Store) (p : ℕ) (a b : Assertion) → entry_named W p ≡ Some a → entry_named W p ≡ Some b → b ≡ a
same_entry W p a b h k = same_Some b a (sym k ∙ h)

-- variables
pub variables_allowed : VariablesAllowed
variables_allowed items v p n a next named = (there, back)
  where
    W : Declarations
    W = declared_by items

    x : ℕ × Annotation
    x = (v, declared_variable n a)

    there : (new_variable W v n a).answer ≡ Ok x → Allowed items (variable v n p) × ((new_variable W v n a).after ≡ declared_by (items ++ (variable v n p ∷ [])))
    there h =
        let k : (refused_unless (is_plain_type a.statement) WrongForm ≡ None) × (x ≡ x) = answers_none (refused_unless (is_plain_type a.statement) WrongForm) W (add_variable W v n (Some a)) x x h in (
          (next, a, named, unless_true (is_plain_type a.statement) WrongForm k.0),
          (none_answers (refused_unless (is_plain_type a.statement) WrongForm) W (add_variable W v n (Some a)) x k.0).1
              ∙ ap (add_variable W v n) (sym named)
              ∙ sym (declared_last items (variable v n p)),
        )

    back : Allowed items (variable v n p) × ((new_variable W v n a).after ≡ declared_by (items ++ (variable v n p ∷ []))) → (new_variable W v n a).answer ≡ Ok x
    back h =
        (none_answers (refused_unless (is_plain_type a.statement) WrongForm) W (add_variable W v n (Some a)) x
        (true_unless (is_plain_type a.statement) WrongForm (subst (λ (z : Assertion). is_plain_type z.statement ≡ true) (same_entry (store_of items) p a h.0.1 named h.0.2) h.0.3))).0

-- metavariables
no_first : (S : List Atom) → first_variable S ≡ None → metavariables_only S ≡ true
no_first [] h = refl
no_first (met m ∷ S) h = no_first S h
no_first (var v ∷ S) h = some_none h

first_none : (S : List Atom) → metavariables_only S ≡ true → first_variable S ≡ None
first_none [] h = refl
first_none (met m ∷ S) h = first_none S h
first_none (var v ∷ S) h = false_true h

pub metavariables_allowed : MetavariablesAllowed
metavariables_allowed items p n a kind named = (there, back)
  where
    W : Declarations
    W = declared_by items

    o : Option Refusal
    o = option_map OpenBoundary (first_variable a.set)

    x : ℕ × Declared
    x = next_metavariable W n a

    there : (new_metavariable W n a).answer ≡ Ok x → Allowed items (metavariable n p) × ((new_metavariable W n a).after ≡ declared_by (items ++ (metavariable n p ∷ [])))
    there h =
        let k : (o ≡ None) × (x ≡ x) = answers_none o W (add_metavariable W n (Some a)) x x h in (
          (a, named, kind, no_first a.set (map_none OpenBoundary (first_variable a.set) k.0)),
          (none_answers o W (add_metavariable W n (Some a)) x k.0).1
              ∙ ap (add_metavariable W n) (sym named)
              ∙ sym (declared_last items (metavariable n p)),
        )

    back : Allowed items (metavariable n p) × ((new_metavariable W n a).after ≡ declared_by (items ++ (metavariable n p ∷ []))) → (new_metavariable W n a).answer ≡ Ok x
    back h =
        (none_answers o W (add_metavariable W n (Some a)) x
        (ap (option_map OpenBoundary) (first_none a.set (subst (λ (z : Assertion). metavariables_only z.set ≡ true) (same_entry (store_of items) p a h.0.0 named h.0.1) h.0.3)))).0

-- sets within others
pub no_outside : (R S : List Atom) → first_outside R S ≡ None → is_within S R ≡ true
no_outside R [] h = refl
no_outside R (a ∷ S) h = go (has a R) h (no_outside R S)
  where
    go : (b : Bool) → cond b (first_outside R S) (Some a) ≡ None → (first_outside R S ≡ None → is_within S R ≡ true) → (b && is_within S R) ≡ true
    go true h ih = ih h
    go false h ih = absurd (clash h)
      where
        clash : Some a ≡ None → ⊥
        clash h = cc

outside_none : (R S : List Atom) → is_within S R ≡ true → first_outside R S ≡ None
outside_none R [] h = refl
outside_none R (a ∷ S) h =
    let k : (has a R ≡ true) × (is_within S R ≡ true) = and_parts (has a R) (is_within S R) h in
    ap (λ z. cond z (first_outside R S) (Some a)) k.0 ∙ outside_none R S k.1

-- drafts: one more metavariable
numbers_last : (ds : List (ℕ × Declared)) (x : ℕ × Declared) → numbers (ds ++ (x ∷ [])) ≡ numbers ds ++ (x.0 ∷ [])
numbers_last [] x = refl
numbers_last (d ∷ ds) x = ap (λ z. d.0 ∷ z) (numbers_last ds x)

-- the parts of a list that each names
abbrev Parts : Declarations → ℕ → List ℕ → List (ℕ × Declared) → Type 0
Parts W m ms ds = (d : ℕ × Declared) × (es : List (ℕ × Declared)) × (metavariable_named W m ≡ Some d) × (each (metavariable_named W) ms ≡ Some es) × (ds ≡ d ∷ es)

parts : (W : Declarations) (m : ℕ) (ms : List ℕ) (ds : List (ℕ × Declared)) → each (metavariable_named W) (m ∷ ms) ≡ Some ds → Parts W m ms ds
parts W m ms ds h = go (metavariable_named W m) refl (each (metavariable_named W) ms) refl h
  where
    go : (o : Option (ℕ × Declared)) → metavariable_named W m ≡ o → (os : Option (List (ℕ × Declared))) → each (metavariable_named W) ms ≡ os → option_and_then (λ d. option_map (λ ds. d ∷ ds) os) o ≡ Some ds → Parts W m ms ds
    go None q os r h = none_some h
    go (Some d) q None r h = none_some h
    go (Some d) q (Some es) r h = (d, es, q, r, sym (same_Some (d ∷ es) ds h))

each_last : (W : Declarations) (ms : List ℕ) (ds : List (ℕ × Declared)) (m : ℕ) (x : ℕ × Declared) → each (metavariable_named W) ms ≡ Some ds → metavariable_named W m ≡ Some x → each (metavariable_named W) (ms ++ (m ∷ [])) ≡ Some (ds ++ (x ∷ []))
each_last W [] ds m x h k = ap (option_and_then (λ d. Some (d ∷ []))) k ∙ ap (λ z. Some (z ++ (x ∷ []))) (same_Some [] ds h)
each_last W (l ∷ ms) ds m x h k =
    let p : Parts W l ms ds = parts W l ms ds h in
    ap (option_and_then (λ d. option_map (λ ds. d ∷ ds) (each (metavariable_named W) (ms ++ (m ∷ []))))) p.2
    ∙ ap (option_map (λ ds. p.0 ∷ ds)) (each_last W ms p.1 m x p.3 k)
    ∙ ap (λ z. Some (z ++ (x ∷ []))) (sym p.4)

-- metavariables that are there are not the next one
met_path : (m n : ℕ) → met m ≡ met n → m ≡ n
met_path m n e = cc

not_there : (W : Declarations) (ds es : List (ℕ × Declared)) (m : ℕ) → each (metavariable_named W) (numbers ds) ≡ Some es → nth W.metavariables m ≡ None → Has (met m) (atoms ds) → ⊥
not_there W [] es m h k i = i
not_there W (d ∷ ds) es m h k i = go (parts W d.0 (numbers ds) es h) i (λ es h i. not_there W ds es m h k i)
  where
    go : Parts W d.0 (numbers ds) es → (met m ≡ met d.0) ⊎ Has (met m) (atoms ds) → ((es : List (ℕ × Declared)) → each (metavariable_named W) (numbers ds) ≡ Some es → Has (met m) (atoms ds) → ⊥) → ⊥
    go p (inl e) ih = none_some (sym (ap (λ z. option_map (λ d. (z, d)) (nth W.metavariables z)) (sym (met_path m d.0 e)) ∙ ap (option_map (λ d. (m, d))) k) ∙ p.2)
    go p (inr i) ih = ih p.1 p.3 i

not_has : (b a : Atom) (S : List Atom) → has b S ≡ false → b ≢ a → not (has b (S ++ (a ∷ []))) ≡ true
not_has b a S h n = by_bool (not (has b (S ++ (a ∷ []))) ≡ true) (has b (S ++ (a ∷ []))) (λ k. absurd (go (has_last S a b (has_true b (S ++ (a ∷ [])) k)))) (λ k. ap not k)
  where
    go : Has b S ⊎ (b ≡ a) → ⊥
    go (inl k) = has_false b S h k
    go (inr e) = n e

differ_last : (S : List Atom) (a : Atom) → differ S ≡ true → (Has a S → ⊥) → differ (S ++ (a ∷ [])) ≡ true
differ_last [] a h n = refl
differ_last (b ∷ S) a h n =
    let k : (not (has b S) ≡ true) × (differ S ≡ true) = and_parts (not (has b S)) (differ S) h in
    and_from (not (has b (S ++ (a ∷ [])))) (differ (S ++ (a ∷ []))) (not_has b a S (not-true (has b S) k.0) (λ e. n (inl (sym e)))) (differ_last S a k.1 (λ i. n (inr i)))

earlier_last : (before : List Atom) (ds : List (ℕ × Declared)) (x : ℕ × Declared) → on_earlier before ds ≡ true → is_within x.1.set (before ++ atoms ds) ≡ true → on_earlier before (ds ++ (x ∷ [])) ≡ true
earlier_last before [] x h k = and_from (is_within x.1.set before) true (subst (λ z. is_within x.1.set z ≡ true) (append-nil before) k) refl
earlier_last before (d ∷ ds) x h k =
    let i : (is_within d.1.set before ≡ true) × (on_earlier (before ++ (met d.0 ∷ [])) ds ≡ true) = and_parts (is_within d.1.set before) (on_earlier (before ++ (met d.0 ∷ [])) ds) h in
    and_from (is_within d.1.set before) (on_earlier (before ++ (met d.0 ∷ [])) (ds ++ (x ∷ []))) i.0
    (earlier_last (before ++ (met d.0 ∷ [])) ds x i.1 (subst (λ z. is_within x.1.set z ≡ true) (sym (append_assoc before (met d.0 ∷ []) (atoms ds))) k))

-- the draft with the premise
more : (W : Declarations) (d : Draft) (n : Name) (b : Assertion) → IsDraft W d → is_within b.set (atoms d.premises) ≡ true
    → IsDraft (add_metavariable W n (Some b)) (record d { premises = d.premises ++ (next_metavariable W n b ∷ []) })
more W d n b i h = record {
  named = ap (each (metavariable_named X)) (numbers_last d.premises x)
      ∙ each_last X (numbers d.premises) d.premises m x (each_before W X stays_there (numbers d.premises) d.premises i.named) (ap (option_map (λ d. (m, d))) (nth_end W.metavariables x.1));
  different = ap differ (atoms_last d.premises x) ∙ differ_last (atoms d.premises) (met m) i.different (not_there W d.premises d.premises m i.named (nth_past W.metavariables (length W.metavariables) (omega arith)));
  ordered = earlier_last [] d.premises x i.ordered h;
}
  where
    m : ℕ
    m = length W.metavariables

    x : ℕ × Declared
    x = next_metavariable W n b

    X : Declarations
    X = add_metavariable W n (Some b)

    stays_there : Kept W X
    stays_there k e q = nth_before W.metavariables (x.1 ∷ []) k e q

pub drafts_stay : DraftsStay
drafts_stay items more d i =
    let W = declared_by items in
    let X = declared_by (items ++ more) in
    let later : Kept W X = subst (λ (Y : Store). Kept W Y.declarations) (sym (store_append empty_store items more)) (before_all (store_of items) more).metavariables in
    record { named = each_before W X later (numbers d.premises) d.premises i.named; different = i.different; ordered = i.ordered }

pub drafts_grow : DraftsGrow
drafts_grow = (begun, grown)
  where
    begun : (W : Declarations) (n : Name) (d : Draft) → (begin W n).answer ≡ Ok d → IsDraft W d
    begun W n d h = subst (IsDraft W) (answers_none (name_fault W n) W W (record { name = n; premises = [] }) d h).1 (record { named = refl; different = refl; ordered = refl })

    grown : (W : Declarations) (d : Draft) (n : Name) (b : Assertion) (m : ℕ × Declared) → IsDraft W d → (premise W d n b).answer ≡ Ok m → IsDraft (premise W d n b).after.0 (premise W d n b).after.1
    grown W d n b m i h =
        let e : (option_map (OpenPremise (suc (length d.premises))) (first_outside (atoms d.premises) b.set) ≡ None) × (next_metavariable W n b ≡ m) = answers_none _ _ _ _ m h in
        subst (λ (z : Declarations × Draft). IsDraft z.0 z.1) (sym (none_answers (option_map (OpenPremise (suc (length d.premises))) (first_outside (atoms d.premises) b.set)) _ _ (next_metavariable W n b) e.0).1)
        (more W d n b i (no_outside (atoms d.premises) b.set (map_none _ _ e.0)))

-- rules
pub finishes_allowed : FinishesAllowed
finishes_allowed items d p c i named kind flat = (there, back)
  where
    W : Declarations
    W = declared_by items

    o : Option RuleFault
    o = first_of (name_fault W d.name) (option_map OpenConclusion (first_outside (atoms d.premises) c.set))

    made : Declarations
    made = add_rule W d.name (Some d.premises) (Some c)

    x : ℕ × Rule
    x = next_rule W d.premises c

    there : (finish W d c).answer ≡ Ok x → Allowed items (drafted d p) × ((finish W d c).after ≡ declared_by (items ++ (drafted d p ∷ [])))
    there h =
        let k : o ≡ None = (answers_none o W made x x h).0 in
        let f : (name_fault W d.name ≡ None) × (option_map OpenConclusion (first_outside (atoms d.premises) c.set) ≡ None) = both_none (name_fault W d.name) (option_map OpenConclusion (first_outside (atoms d.premises) c.set)) k in
        let g : (refused_unless (is_new W.names d.name) Duplicate ≡ None) × (refused_unless (nat_lt (length W.rules) 65536) TooMany ≡ None) = both_none (refused_unless (is_new W.names d.name) Duplicate) (refused_unless (nat_lt (length W.rules) 65536) TooMany) f.0 in (
          (
            unless_true (is_new W.names d.name) Duplicate g.0,
            ltb-true (length W.rules) 65536 (unless_true (nat_lt (length W.rules) 65536) TooMany g.1),
            d.premises,
            i.named,
            c,
            named,
            i.different,
            kind,
            flat,
            i.ordered,
            no_outside (atoms d.premises) c.set (map_none OpenConclusion (first_outside (atoms d.premises) c.set) f.1),
          ),
          (none_answers o W made x k).1
              ∙ ap₂ (add_rule W d.name) (sym i.named) (sym named)
              ∙ sym (declared_last items (drafted d p)),
        )

    back : Allowed items (drafted d p) × ((finish W d c).after ≡ declared_by (items ++ (drafted d p ∷ []))) → (finish W d c).answer ≡ Ok x
    back h = (none_answers o W made x (none_both (name_fault W d.name) (option_map OpenConclusion (first_outside (atoms d.premises) c.set)) free closed)).0
      where
        free : name_fault W d.name ≡ None
        free = none_both (refused_unless (is_new W.names d.name) Duplicate) (refused_unless (nat_lt (length W.rules) 65536) TooMany)
            (true_unless (is_new W.names d.name) Duplicate h.0.0)
            (true_unless (nat_lt (length W.rules) 65536) TooMany (lt-ltb (length W.rules) 65536 h.0.1))

        same : (h.0.2 ≡ d.premises) × (h.0.4 ≡ c)
        same = (same_Some h.0.2 d.premises (sym h.0.3 ∙ i.named), same_entry (store_of items) p c h.0.4 named h.0.5)

        closed : option_map OpenConclusion (first_outside (atoms d.premises) c.set) ≡ None
        closed = ap (option_map OpenConclusion) (outside_none (atoms d.premises) c.set (subst (λ z. is_within c.set (atoms z) ≡ true) same.0 (subst (λ (z : Assertion). is_within z.set (atoms h.0.2) ≡ true) same.1 h.0.10)))

pub finished_is_finitary : FinishedIsFinitary
finished_is_finitary items d p c k g i named kind flat = go o refl
  where
    W : Declarations
    W = declared_by items

    o : Option RuleFault
    o = first_of (name_fault W d.name) (option_map OpenConclusion (first_outside (atoms d.premises) c.set))

    x : ℕ × Rule
    x = next_rule W d.premises c

    longer : (finish W d c).answer ≡ Ok x → FinitaryUpTo k (finish W d c).after.rules
    longer h =
        let a : Allowed items (drafted d p) × ((finish W d c).after ≡ declared_by (items ++ (drafted d p ∷ []))) = (finishes_allowed items d p c i named kind flat).0 h in
        subst (λ (z : Declarations). FinitaryUpTo k z.rules) (sym a.1) (rules_finitary (items ++ (drafted d p ∷ [])) (good_last empty_store items (drafted d p) g a.0) k)

    go : (z : Option RuleFault) → o ≡ z → FinitaryUpTo k (finish W d c).after.rules
    go None e = longer (none_answers o W (add_rule W d.name (Some d.premises) (Some c)) x e).0
    go (Some f) e = subst (λ (z : Declarations). FinitaryUpTo k z.rules) (sym (stays o W (add_rule W d.name (Some d.premises) (Some c)) x f (ap (λ z. (outcome z W (add_rule W d.name (Some d.premises) (Some c)) x).answer) e))) (rules_finitary items g k)

-- what is answered is there
pub variable_is_there : VariableIsThere
variable_is_there W v n p x next h =
    let k : (o ≡ None) × ((v, declared_variable n p) ≡ x) = answers_none o W made (v, declared_variable n p) x h in
    ap (λ (z : Declarations). variable_named z v) (none_answers o W made (v, declared_variable n p) k.0).1
    ∙ ap (option_map (λ d. (v, d))) (look_new W.variables v (declared_variable n p) next)
    ∙ ap Some k.1
  where
    o : Option Refusal
    o = refused_unless (is_plain_type p.statement) WrongForm

    made : Declarations
    made = add_variable W v n (Some p)

metavariable_end : (W : Declarations) (n : Name) (b : Assertion) → metavariable_named (add_metavariable W n (Some b)) (length W.metavariables) ≡ Some (next_metavariable W n b)
metavariable_end W n b = ap (option_map (λ d. (length W.metavariables, d))) (nth_end W.metavariables (declared_metavariable n b))

pub metavariable_is_there : MetavariableIsThere
metavariable_is_there W n b m h =
    let k : (o ≡ None) × (next_metavariable W n b ≡ m) = answers_none o W made (next_metavariable W n b) m h in
    ap (λ (z : Declarations). metavariable_named z (length W.metavariables)) (none_answers o W made (next_metavariable W n b) k.0).1 ∙ metavariable_end W n b ∙ ap Some k.1
  where
    o : Option Refusal
    o = option_map OpenBoundary (first_variable b.set)

    made : Declarations
    made = add_metavariable W n (Some b)

pub premise_is_there : PremiseIsThere
premise_is_there W d n b m h =
    let k : (o ≡ None) × (next_metavariable W n b ≡ m) = answers_none o (W, d) made (next_metavariable W n b) m h in
    let e : (premise W d n b).after ≡ made = (none_answers o (W, d) made (next_metavariable W n b) k.0).1 in (
      ap (λ (z : Declarations × Draft). metavariable_named z.0 (length W.metavariables)) e ∙ metavariable_end W n b ∙ ap Some k.1,
      ap (λ (z : Declarations × Draft). z.1.premises) e ∙ ap (λ x. d.premises ++ (x ∷ [])) k.1,
    )
  where
    o : Option RuleFault
    o = option_map (OpenPremise (suc (length d.premises))) (first_outside (atoms d.premises) b.set)

    made : Declarations × Draft
    made = (add_metavariable W n (Some b), record d { premises = d.premises ++ (next_metavariable W n b ∷ []) })

pub rule_is_there : RuleIsThere
rule_is_there W d c r h =
    let k : (o ≡ None) × (next_rule W d.premises c ≡ r) = answers_none o W made (next_rule W d.premises c) r h in
    ap (λ (z : Declarations). rule_named z (length W.rules)) (none_answers o W made (next_rule W d.premises c) k.0).1
    ∙ ap (option_map (λ R. (length W.rules, R))) (rule_end W.rules (declared_rule d.premises c))
    ∙ ap Some k.1
  where
    o : Option RuleFault
    o = first_of (name_fault W d.name) (option_map OpenConclusion (first_outside (atoms d.premises) c.set))

    made : Declarations
    made = add_rule W d.name (Some d.premises) (Some c)
