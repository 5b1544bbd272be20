-- Indexes of items, and what is found by them.
use Rattle.std.proofs.Common.{◌≡◌, ℕ, zero, suc, ◌+◌, ◌<◌, ◌≤◌, Bool, true, false, cond, Option, Some, None, List, [], ◌∷◌, ◌++◌, refl, sym, ap, ◌∙◌, subst, length, get_or, take, arith}
use Rattle.std.specs.Prelude.{IfSome, IfNone}
use Rattle.std.proofs.lemmas.List.{take-append-le, take_all, take_at, take_more, length-append, length-map, length-take-le, map-append}
use Rattle.ft_theory.specs.Expressions.{Expression}
use Rattle.ft_items.specs.Item.{Item, variable, metavariable, rule, entry, shown}
use Rattle.ft_items.specs.Store.{nth, entries_in, metavariables_in, rules_in}
use Rattle.ft_items.proofs.SetLemmas.{wrong}
use Rattle.ft_items.proofs.Lists.{nth_before, nth_end, nth_there, nth_within}
use Rattle.ft_stated.specs.Lines.{item_in, items_in, StatedBelow, AllStatedBelow}
use Rattle.ft_stated.specs.Places.{is_entry, is_metavariable, is_rule, number_of, Stands, with_place, IsIndexOf, AreIndexes, EntryStands, MetavariableStands, RuleStands}
use Rattle.ft_stated.specs.declared.stated.Stated.{Stated}

-- what is read at a place of a list
pub nth_read : {A : Type 0} (xs : List A) (n : ℕ) (x : A) → n < length xs → x ≡ get_or xs n x → Some x ≡ nth xs n
nth_read xs n x h e = ap Some e ∙ sym (nth_there xs n x h)

nth_none : {A : Type 0} (xs : List A) (n : ℕ) → None ≡ nth xs n → length xs ≤ n
nth_none [] n h = omega arith
nth_none (y ∷ xs) zero h = let clash : None ≡ Some y = h in cc
nth_none (y ∷ xs) (suc n) h = let le : length xs ≤ n = nth_none xs n h in omega (arith, le)

-- of a list with one more: an earlier member, or the last
nth_last : {A : Type 0} (P : ℕ → A → Type 0) (xs : List A) (x : A) → ((n : ℕ) (y : A) → nth xs n ≡ Some y → P n y) → P (length xs) x → (n : ℕ) (y : A) → nth (xs ++ x ∷ []) n ≡ Some y → P n y
nth_last P [] x old new zero y h = let same : x ≡ y = cc in subst (P 0) same new
nth_last P [] x old new (suc n) y h = let clash : None ≡ Some y = h in cc
nth_last P (z ∷ xs) x old new zero y h = old zero y h
nth_last P (z ∷ xs) x old new (suc n) y h = nth_last (λ n. P (suc n)) xs x (λ n y e. old (suc n) y e) new n y h

number_last : (p : Item → Bool) (items : List Item) (i : Item) → number_of p (items ++ i ∷ []) ≡ number_of p items + cond (p i) 1 0
number_last p [] i = go (p i)
  where
    go : (b : Bool) → cond b (0 + 1) 0 ≡ 0 + cond b 1 0
    go true = refl
    go false = refl
number_last p (j ∷ items) i = go (p j) (number_last p items i)
  where
    go : (b : Bool) → number_of p (items ++ i ∷ []) ≡ number_of p items + cond (p i) 1 0
        → cond b (number_of p (items ++ i ∷ []) + 1) (number_of p (items ++ i ∷ [])) ≡ cond b (number_of p items + 1) (number_of p items) + cond (p i) 1 0
    go true h = omega (arith, h)
    go false h = h

stands_more : (p : Item → Bool) (items : List Item) (i : Item) (n k : ℕ) → Stands p items n k → Stands p (items ++ i ∷ []) n k
stands_more p items i n k h =
    let lt : k < length items = nth_within items k h.0 h.1 in
    (h.0, nth_before items (i ∷ []) k h.0 h.1, h.2, ap (number_of p) (take-append-le k items (i ∷ []) (omega (arith, lt))) ∙ h.3)

-- an index with one more item
index_more : (p : Item → Bool) (items : List Item) (i : Item) (ks : List ℕ) → IsIndexOf p items ks → IsIndexOf p (items ++ i ∷ []) (with_place (p i) ks (length items))
index_more p items i ks h = go (p i) refl
  where
    go : (b : Bool) → p i ≡ b → IsIndexOf p (items ++ i ∷ []) (with_place b ks (length items))
    go true e = record {
      many = length-append ks (length items ∷ []) ∙ ap (λ n. n + 1) h.many ∙ sym (number_last p items i ∙ ap (λ b. number_of p items + cond b 1 0) e);
      at = nth_last (Stands p (items ++ i ∷ [])) ks (length items) (λ n k s. stands_more p items i n k (h.at n k s)) (i, nth_end items i, e, ap (number_of p) (take_at items (i ∷ []) (length items) refl) ∙ sym h.many);
    }
    go false e =
        let none : number_of p items + 0 ≡ number_of p items = omega arith in
        record {
          many = h.many ∙ sym (number_last p items i ∙ ap (λ b. number_of p items + cond b 1 0) e ∙ none);
          at = λ n k s. stands_more p items i n k (h.at n k s);
        }

-- the items up to the next place
pub taken_next : (ts : List Expression) (xs : List Stated) (k : ℕ) (x : Stated) → k < length xs → x ≡ get_or xs k x → items_in ts (take (k + 1) xs) ≡ items_in ts (take k xs) ++ item_in ts x ∷ []
taken_next ts xs k x lt at = ap (items_in ts) (take_more xs k x lt ∙ ap (λ y. take k xs ++ y ∷ []) (sym at)) ∙ map-append (item_in ts) (take k xs) (x ∷ [])

pub taken_many : (ts : List Expression) (xs : List Stated) (k : ℕ) → k < length xs → length (items_in ts (take k xs)) ≡ k
taken_many ts xs k lt = length-map (take k xs) (item_in ts) ∙ length-take-le k xs (omega (arith, lt))

pub taken_all : (ts : List Expression) (xs : List Stated) (k : ℕ) → length xs ≤ k → items_in ts (take k xs) ≡ items_in ts xs
taken_all ts xs k le = ap (items_in ts) (take_all k xs le)

-- the indexes of one more item
pub indexes_next : (ts : List Expression) (xs : List Stated) (k place : ℕ) (x : Stated) (es ms rs es' ms' rs' : List ℕ)
    → AreIndexes (items_in ts (take k xs)) es ms rs → k < length xs → x ≡ get_or xs k x → place ≡ k
    → es' ≡ with_place (is_entry (item_in ts x)) es place → ms' ≡ with_place (is_metavariable (item_in ts x)) ms place → rs' ≡ with_place (is_rule (item_in ts x)) rs place
    → AreIndexes (items_in ts (take (k + 1) xs)) es' ms' rs'
indexes_next ts xs k place x es ms rs es' ms' rs' h lt at is e m r = (one is_entry es es' h.0 e, one is_metavariable ms ms' h.1 m, one is_rule rs rs' h.2 r)
  where
    before : List Item
    before = items_in ts (take k xs)

    after : items_in ts (take (k + 1) xs) ≡ before ++ item_in ts x ∷ []
    after = taken_next ts xs k x lt at

    many : length before ≡ k
    many = taken_many ts xs k lt

    one : (p : Item → Bool) (ks ks' : List ℕ) → IsIndexOf p before ks → ks' ≡ with_place (p (item_in ts x)) ks place → IsIndexOf p (items_in ts (take (k + 1) xs)) ks'
    one p ks ks' h e =
        subst (λ X. IsIndexOf p X ks') (sym after)
        (subst (IsIndexOf p (before ++ item_in ts x ∷ [])) (sym (e ∙ ap (with_place (p (item_in ts x)) ks) (is ∙ sym many)))
        (index_more p before (item_in ts x) ks h))

pub indexes_end : (ts : List Expression) (xs : List Stated) (k : ℕ) (es ms rs : List ℕ) → AreIndexes (items_in ts (take k xs)) es ms rs → length xs ≤ k → AreIndexes (items_in ts xs) es ms rs
indexes_end ts xs k es ms rs h le = subst (λ X. AreIndexes X es ms rs) (taken_all ts xs k le) h

-- how many there are of each kind
entries_many : (items : List Item) → number_of is_entry items ≡ length (entries_in items)
entries_many [] = refl
entries_many (variable v n p ∷ items) = entries_many items
entries_many (metavariable n p ∷ items) = entries_many items
entries_many (rule n ms p ∷ items) = entries_many items
entries_many (entry e ∷ items) = let h : number_of is_entry items ≡ length (entries_in items) = entries_many items in omega (arith, h)
entries_many (shown p ∷ items) = entries_many items

metavariables_many : (items : List Item) → number_of is_metavariable items ≡ length (metavariables_in items)
metavariables_many [] = refl
metavariables_many (variable v n p ∷ items) = metavariables_many items
metavariables_many (metavariable n p ∷ items) = let h : number_of is_metavariable items ≡ length (metavariables_in items) = metavariables_many items in omega (arith, h)
metavariables_many (rule n ms p ∷ items) = metavariables_many items
metavariables_many (entry e ∷ items) = metavariables_many items
metavariables_many (shown p ∷ items) = metavariables_many items

rules_many : (items : List Item) → number_of is_rule items ≡ length (rules_in items)
rules_many [] = refl
rules_many (variable v n p ∷ items) = rules_many items
rules_many (metavariable n p ∷ items) = rules_many items
rules_many (rule n ms p ∷ items) = let h : number_of is_rule items ≡ length (rules_in items) = rules_many items in omega (arith, h)
rules_many (entry e ∷ items) = rules_many items
rules_many (shown p ∷ items) = rules_many items

-- what is found by an index
pub entry_found : (items : List Item) (ks : List ℕ) (n k : ℕ) → IsIndexOf is_entry items ks → nth ks n ≡ Some k → EntryStands items n k
entry_found items ks n k h e = go (h.at n k e).0 (h.at n k e).1 (h.at n k e).2
  where
    many : length (entries_in (take k items)) ≡ n
    many = sym (entries_many (take k items)) ∙ (h.at n k e).3

    go : (i : Item) → nth items k ≡ Some i → is_entry i ≡ true → EntryStands items n k
    go (variable v x p) s t = wrong t
    go (metavariable x p) s t = wrong t
    go (rule x ms p) s t = wrong t
    go (entry e) s t = (e, s, many)
    go (shown p) s t = wrong t

pub metavariable_found : (items : List Item) (ks : List ℕ) (n k : ℕ) → IsIndexOf is_metavariable items ks → nth ks n ≡ Some k → MetavariableStands items n k
metavariable_found items ks n k h e = go (h.at n k e).0 (h.at n k e).1 (h.at n k e).2
  where
    many : length (metavariables_in (take k items)) ≡ n
    many = sym (metavariables_many (take k items)) ∙ (h.at n k e).3

    go : (i : Item) → nth items k ≡ Some i → is_metavariable i ≡ true → MetavariableStands items n k
    go (variable v x p) s t = wrong t
    go (metavariable x p) s t = (x, p, s, many)
    go (rule x ms p) s t = wrong t
    go (entry e) s t = wrong t
    go (shown p) s t = wrong t

pub rule_found : (items : List Item) (ks : List ℕ) (n k : ℕ) → IsIndexOf is_rule items ks → nth ks n ≡ Some k → RuleStands items n k
rule_found items ks n k h e = go (h.at n k e).0 (h.at n k e).1 (h.at n k e).2
  where
    many : length (rules_in (take k items)) ≡ n
    many = sym (rules_many (take k items)) ∙ (h.at n k e).3

    go : (i : Item) → nth items k ≡ Some i → is_rule i ≡ true → RuleStands items n k
    go (variable v x p) s t = wrong t
    go (metavariable x p) s t = wrong t
    go (rule x ms p) s t = (x, ms, p, s, many)
    go (entry e) s t = wrong t
    go (shown p) s t = wrong t

-- what an index answers
pub entry_answered : (items : List Item) (ks : List ℕ) (n : ℕ) (o : Option ℕ) → IsIndexOf is_entry items ks → o ≡ nth ks n → IfSome o (λ k. EntryStands items n k)
entry_answered items ks n None h e = tt
entry_answered items ks n (Some k) h e = entry_found items ks n k h (sym e)

pub entry_missing : (items : List Item) (ks : List ℕ) (n : ℕ) (o : Option ℕ) → IsIndexOf is_entry items ks → o ≡ nth ks n → IfNone o (length (entries_in items) ≤ n)
entry_missing items ks n None h e = subst (λ m. m ≤ n) (h.many ∙ entries_many items) (nth_none ks n e)
entry_missing items ks n (Some k) h e = tt

pub metavariable_answered : (items : List Item) (ks : List ℕ) (n : ℕ) (o : Option ℕ) → IsIndexOf is_metavariable items ks → o ≡ nth ks n → IfSome o (λ k. MetavariableStands items n k)
metavariable_answered items ks n None h e = tt
metavariable_answered items ks n (Some k) h e = metavariable_found items ks n k h (sym e)

pub metavariable_missing : (items : List Item) (ks : List ℕ) (n : ℕ) (o : Option ℕ) → IsIndexOf is_metavariable items ks → o ≡ nth ks n → IfNone o (length (metavariables_in items) ≤ n)
metavariable_missing items ks n None h e = subst (λ m. m ≤ n) (h.many ∙ metavariables_many items) (nth_none ks n e)
metavariable_missing items ks n (Some k) h e = tt

pub rule_answered : (items : List Item) (ks : List ℕ) (n : ℕ) (o : Option ℕ) → IsIndexOf is_rule items ks → o ≡ nth ks n → IfSome o (λ k. RuleStands items n k)
rule_answered items ks n None h e = tt
rule_answered items ks n (Some k) h e = rule_found items ks n k h (sym e)

pub rule_missing : (items : List Item) (ks : List ℕ) (n : ℕ) (o : Option ℕ) → IsIndexOf is_rule items ks → o ≡ nth ks n → IfNone o (length (rules_in items) ≤ n)
rule_missing items ks n None h e = subst (λ m. m ≤ n) (h.many ∙ rules_many items) (nth_none ks n e)
rule_missing items ks n (Some k) h e = tt

-- what is stated at a place
pub place_within : (ts : List Expression) (xs : List Stated) (i : ℕ) → i < length (items_in ts xs) → i < length xs
place_within ts xs i h = subst (λ n. i < n) (length-map xs (item_in ts)) h

pub item_at : (ts : List Expression) (xs : List Stated) (i : ℕ) (d : Stated) → i < length xs → nth (items_in ts xs) i ≡ Some (item_in ts (get_or xs i d))
item_at ts [] i d h = absurd (omega (arith, h))
item_at ts (x ∷ xs) zero d h = refl
item_at ts (x ∷ xs) (suc i) d h = item_at ts xs i d (omega (arith, h))

pub below_at : (n : ℕ) (xs : List Stated) (i : ℕ) (d : Stated) → AllStatedBelow n xs → i < length xs → StatedBelow n (get_or xs i d)
below_at n [] i d h lt = absurd (omega (arith, lt))
below_at n (x ∷ xs) zero d h lt = h.0
below_at n (x ∷ xs) (suc i) d h lt = below_at n xs i d h.1 (omega (arith, lt))
