-- What stands before a place, by the place where it stands.
use Rattle.std.proofs.Common.{◌≡◌, ℕ, zero, suc, ◌<◌, ◌≤◌, nat_lt, Bool, true, false, Option, Some, None, List, [], ◌∷◌, refl, sym, ap, ap₂, ◌∙◌, subst, length, take, arith}
use Rattle.std.proofs.lemmas.Bool.{lt-ltb, ltb-true, ltb-false}
use Rattle.std.specs.Prelude.{option_map}
use Rattle.ft_common.proofs.Options.{none_some}
use Rattle.ft_items.specs.Item.{Name, Item, variable, metavariable, rule, entry, shown}
use Rattle.ft_items.specs.Store.{Assertion, nth, entry_named, empty_store, store_of, entries_in, metavariables_in, rules_in}
use Rattle.ft_items.proofs.Lists.{entries_all, nth_past, nth_within}
use Rattle.ft_stated.specs.Places.{EntryStands, MetavariableStands, RuleStands}
use Rattle.ft_check.specs.Entries.{assertion_of, line_of, metavariable_of, stated_rule}

-- what the items of a list add, where f tells what an item adds
abbrev also : {A : Type 0} → Option A → List A → List A
also None xs = xs
also (Some x) xs = x ∷ xs

abbrev picked : {A : Type 0} → (Item → Option A) → List Item → List A
picked f [] = []
picked f (i ∷ items) = also (f i) (picked f items)

entries_picked : (items : List Item) → entries_in items ≡ picked assertion_of items
entries_picked [] = refl
entries_picked (variable v n p ∷ items) = entries_picked items
entries_picked (metavariable n p ∷ items) = entries_picked items
entries_picked (rule n ms p ∷ items) = entries_picked items
entries_picked (entry e ∷ items) = ap (λ xs. record { statement = e.statement; set = e.set } ∷ xs) (entries_picked items)
entries_picked (shown p ∷ items) = entries_picked items

metavariables_picked : (items : List Item) → metavariables_in items ≡ picked metavariable_of items
metavariables_picked [] = refl
metavariables_picked (variable v n p ∷ items) = metavariables_picked items
metavariables_picked (metavariable n p ∷ items) = ap (λ xs. (n, p) ∷ xs) (metavariables_picked items)
metavariables_picked (rule n ms p ∷ items) = metavariables_picked items
metavariables_picked (entry e ∷ items) = metavariables_picked items
metavariables_picked (shown p ∷ items) = metavariables_picked items

rules_picked : (items : List Item) → rules_in items ≡ picked stated_rule items
rules_picked [] = refl
rules_picked (variable v n p ∷ items) = rules_picked items
rules_picked (metavariable n p ∷ items) = rules_picked items
rules_picked (rule n ms p ∷ items) = ap (λ xs. (n, ms, p) ∷ xs) (rules_picked items)
rules_picked (entry e ∷ items) = rules_picked items
rules_picked (shown p ∷ items) = rules_picked items

-- what the item at place k adds stands, of all that is added before a later place, after as many as are added before k
there : {A : Type 0} (f : Item → Option A) (items : List Item) (k j : ℕ) (i : Item) (a : A) → nth items k ≡ Some i → f i ≡ Some a → k < j → nth (picked f (take j items)) (length (picked f (take k items))) ≡ Some a
there f [] k j i a h e lt = none_some h
there f (x ∷ items) k zero i a h e lt = absurd (omega (arith, lt))
there f (x ∷ items) zero (suc j) i a h e lt =
    let same : x ≡ i = cc in
    ap (λ o. nth (also o (picked f (take j items))) 0) (ap f same ∙ e)
there {A} f (x ∷ items) (suc k) (suc j) i a h e lt = go (f x) (there f items k j i a h e (omega (arith, lt)))
  where
    go : (o : Option A) → nth (picked f (take j items)) (length (picked f (take k items))) ≡ Some a → nth (also o (picked f (take j items))) (length (also o (picked f (take k items)))) ≡ Some a
    go None h = h
    go (Some b) h = h

-- no more is added before an earlier place
fewer : {A : Type 0} (f : Item → Option A) (items : List Item) (j k : ℕ) → j ≤ k → length (picked f (take j items)) ≤ length (picked f (take k items))
fewer f [] zero zero h = omega arith
fewer f [] zero (suc k) h = omega arith
fewer f [] (suc j) zero h = omega arith
fewer f [] (suc j) (suc k) h = omega arith
fewer f (x ∷ items) zero k h = omega arith
fewer f (x ∷ items) (suc j) zero h = absurd (omega (arith, h))
fewer {A} f (x ∷ items) (suc j) (suc k) h = go (f x) (fewer f items j k (omega (arith, h)))
  where
    go : (o : Option A) → length (picked f (take j items)) ≤ length (picked f (take k items)) → length (also o (picked f (take j items))) ≤ length (also o (picked f (take k items)))
    go None le = le
    go (Some b) le = omega (arith, le)

fewer_all : {A : Type 0} (f : Item → Option A) (items : List Item) (j : ℕ) → length (picked f (take j items)) ≤ length (picked f items)
fewer_all f [] zero = omega arith
fewer_all f [] (suc j) = omega arith
fewer_all f (x ∷ items) zero = omega arith
fewer_all {A} f (x ∷ items) (suc j) = go (f x) (fewer_all f items j)
  where
    go : (o : Option A) → length (picked f (take j items)) ≤ length (picked f items) → length (also o (picked f (take j items))) ≤ length (also o (picked f items))
    go None le = le
    go (Some b) le = omega (arith, le)

-- the entries of the store of a list are those of the list
pub entries_are : (items : List Item) (p : ℕ) → entry_named (store_of items) p ≡ nth (entries_in items) p
entries_are items p = ap (λ es. nth es p) (entries_all empty_store items)

-- an entry by its place
pub entry_within : (items : List Item) (p k : ℕ) → EntryStands items p k → k < length items
entry_within items p k s = nth_within items k (entry s.0) s.1

pub entry_absent : (items : List Item) (i p : ℕ) → length (entries_in items) ≤ p → None ≡ entry_named (store_of (take i items)) p
entry_absent items i p le = sym (entries_are (take i items) p ∙ ap (λ es. nth es p) (entries_picked (take i items)) ∙ nth_past (picked assertion_of (take i items)) p less)
  where
    less : length (picked assertion_of (take i items)) ≤ p
    less = let all : length (picked assertion_of items) ≤ p = subst (λ es. length es ≤ p) (entries_picked items) le in omega (arith, all, fewer_all assertion_of items i)

pub entry_later : (items : List Item) (i p k : ℕ) → EntryStands items p k → i ≤ k → None ≡ entry_named (store_of (take i items)) p
entry_later items i p k s le = sym (entries_are (take i items) p ∙ ap (λ es. nth es p) (entries_picked (take i items)) ∙ nth_past (picked assertion_of (take i items)) p less)
  where
    less : length (picked assertion_of (take i items)) ≤ p
    less = let many : length (picked assertion_of (take k items)) ≡ p = sym (ap length (entries_picked (take k items))) ∙ s.2 in omega (arith, many, fewer assertion_of items i k le)

pub entry_there : (items : List Item) (i p k : ℕ) (x : Item) → EntryStands items p k → k < i → nth items k ≡ Some x → assertion_of x ≡ entry_named (store_of (take i items)) p
entry_there items i p k x s lt h =
    let a : Assertion = record { statement = s.0.statement; set = s.0.set } in
    let both : Some x ≡ Some (entry s.0) = sym h ∙ s.1 in
    let same : x ≡ entry s.0 = cc in
    ap assertion_of same
    ∙ sym (entries_are (take i items) p ∙ ap₂ (λ es n. nth es n) (entries_picked (take i items)) (sym (sym (ap length (entries_picked (take k items))) ∙ s.2))
    ∙ there assertion_of items k i (entry s.0) a s.1 refl lt)

-- a metavariable by its place
pub metavariable_within : (items : List Item) (m k : ℕ) → MetavariableStands items m k → k < length items
metavariable_within items m k s = nth_within items k (metavariable s.0 s.1) s.2

abbrev entry_of : Name × ℕ → ℕ
entry_of d = d.1

pub metavariable_absent : (items : List Item) (i m : ℕ) → length (metavariables_in items) ≤ m → None ≡ option_map (λ (d : Name × ℕ). d.1) (nth (metavariables_in (take i items)) m)
metavariable_absent items i m le = sym (ap (option_map entry_of) (ap (λ ms. nth ms m) (metavariables_picked (take i items)) ∙ nth_past (picked metavariable_of (take i items)) m less))
  where
    less : length (picked metavariable_of (take i items)) ≤ m
    less = let all : length (picked metavariable_of items) ≤ m = subst (λ ms. length ms ≤ m) (metavariables_picked items) le in omega (arith, all, fewer_all metavariable_of items i)

pub metavariable_later : (items : List Item) (i m k : ℕ) → MetavariableStands items m k → i ≤ k → None ≡ option_map (λ (d : Name × ℕ). d.1) (nth (metavariables_in (take i items)) m)
metavariable_later items i m k s le = sym (ap (option_map entry_of) (ap (λ ms. nth ms m) (metavariables_picked (take i items)) ∙ nth_past (picked metavariable_of (take i items)) m less))
  where
    less : length (picked metavariable_of (take i items)) ≤ m
    less = let many : length (picked metavariable_of (take k items)) ≡ m = sym (ap length (metavariables_picked (take k items))) ∙ s.3 in omega (arith, many, fewer metavariable_of items i k le)

pub metavariable_there : (items : List Item) (i m k : ℕ) (x : Item) → MetavariableStands items m k → k < i → nth items k ≡ Some x
    → option_map (λ (d : Name × ℕ). d.1) (metavariable_of x) ≡ option_map (λ (d : Name × ℕ). d.1) (nth (metavariables_in (take i items)) m)
metavariable_there items i m k x s lt h =
    let both : Some x ≡ Some (metavariable s.0 s.1) = sym h ∙ s.2 in
    let same : x ≡ metavariable s.0 s.1 = cc in
    ap (option_map entry_of) (ap metavariable_of same
    ∙ sym (ap₂ (λ ms n. nth ms n) (metavariables_picked (take i items)) (sym (sym (ap length (metavariables_picked (take k items))) ∙ s.3))
    ∙ there metavariable_of items k i (metavariable s.0 s.1) (s.0, s.1) s.2 refl lt))

-- a rule by its place
above : (n m : ℕ) → m ≤ n → false ≡ nat_lt n m
above n m le = go (nat_lt n m) refl
  where
    go : (b : Bool) → nat_lt n m ≡ b → false ≡ b
    go true e = let lt : n < m = ltb-true n m e in absurd (omega (arith, lt, le))
    go false e = refl

pub rule_absent : (items : List Item) (i r : ℕ) → length (rules_in items) ≤ r → false ≡ nat_lt r (length (rules_in (take i items)))
rule_absent items i r le = above r (length (rules_in (take i items))) less
  where
    less : length (rules_in (take i items)) ≤ r
    less = let all : length (picked stated_rule items) ≤ r = subst (λ rs. length rs ≤ r) (rules_picked items) le in
        let part : length (rules_in (take i items)) ≡ length (picked stated_rule (take i items)) = ap length (rules_picked (take i items)) in omega (arith, all, part, fewer_all stated_rule items i)

pub rule_found : (items : List Item) (i r k : ℕ) → RuleStands items r k → nat_lt k i ≡ nat_lt r (length (rules_in (take i items)))
rule_found items i r k s = go (nat_lt k i) refl
  where
    many : length (picked stated_rule (take k items)) ≡ r
    many = sym (ap length (rules_picked (take k items))) ∙ s.4

    same : length (picked stated_rule (take i items)) ≡ length (rules_in (take i items))
    same = sym (ap length (rules_picked (take i items)))

    go : (b : Bool) → nat_lt k i ≡ b → b ≡ nat_lt r (length (rules_in (take i items)))
    go true e =
        let lt : k < i = ltb-true k i e in
        let in_ : length (picked stated_rule (take k items)) < length (picked stated_rule (take i items)) =
        nth_within (picked stated_rule (take i items)) (length (picked stated_rule (take k items))) (s.0, s.1, s.2) (there stated_rule items k i (rule s.0 s.1 s.2) (s.0, s.1, s.2) s.3 refl lt) in
        sym (lt-ltb r (length (rules_in (take i items))) (omega (arith, in_, many, same)))
    go false e =
        let le : i ≤ k = ltb-false k i e in
        above r (length (rules_in (take i items))) (omega (arith, many, same, fewer stated_rule items i k le))

pub rule_within : (items : List Item) (r k : ℕ) → RuleStands items r k → k < length items
rule_within items r k s = nth_within items k (rule s.0 s.1 s.2) s.3

pub line_absent : (items : List Item) (i r : ℕ) → length (rules_in items) ≤ r → None ≡ option_map line_of (nth (rules_in (take i items)) r)
line_absent items i r le = sym (ap (option_map line_of) (ap (λ rs. nth rs r) (rules_picked (take i items)) ∙ nth_past (picked stated_rule (take i items)) r less))
  where
    less : length (picked stated_rule (take i items)) ≤ r
    less = let all : length (picked stated_rule items) ≤ r = subst (λ rs. length rs ≤ r) (rules_picked items) le in omega (arith, all, fewer_all stated_rule items i)

pub line_later : (items : List Item) (i r k : ℕ) → RuleStands items r k → i ≤ k → None ≡ option_map line_of (nth (rules_in (take i items)) r)
line_later items i r k s le = sym (ap (option_map line_of) (ap (λ rs. nth rs r) (rules_picked (take i items)) ∙ nth_past (picked stated_rule (take i items)) r less))
  where
    less : length (picked stated_rule (take i items)) ≤ r
    less = let many : length (picked stated_rule (take k items)) ≡ r = sym (ap length (rules_picked (take k items))) ∙ s.4 in omega (arith, many, fewer stated_rule items i k le)

pub line_there : (items : List Item) (i r k : ℕ) (x : Item) → RuleStands items r k → k < i → nth items k ≡ Some x
    → option_map line_of (stated_rule x) ≡ option_map line_of (nth (rules_in (take i items)) r)
line_there items i r k x s lt h =
    let both : Some x ≡ Some (rule s.0 s.1 s.2) = sym h ∙ s.3 in
    let same : x ≡ rule s.0 s.1 s.2 = cc in
    ap (option_map line_of) (ap stated_rule same
    ∙ sym (ap₂ (λ rs n. nth rs n) (rules_picked (take i items)) (sym (sym (ap length (rules_picked (take k items))) ∙ s.4))
    ∙ there stated_rule items k i (rule s.0 s.1 s.2) (s.0, s.1, s.2) s.3 refl lt))
