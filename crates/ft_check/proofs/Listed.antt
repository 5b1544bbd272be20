-- The items of a list, one by one, and their counts.
use Rattle.std.proofs.Common.{◌≡◌, ℕ, zero, suc, ◌+◌, ◌<◌, ◌≤◌, cond, Option, Some, None, List, [], ◌∷◌, ◌++◌, refl, sym, ap, ap₂, ◌∙◌, length, take, max, arith}
use Rattle.std.specs.Prelude.{IfOk, Result, Ok, Err, option_map}
use Rattle.std.proofs.lemmas.List.{length-take-le, take_all}
use Rattle.ft_items.specs.Item.{Item, Entry, variable, metavariable, rule, entry, shown}
use Rattle.ft_items.specs.Store.{Store, Resolved, Derivable, nth, resolve, add, add_all, empty_store, store_of, entries_in, rules_in, declared_by}
use Rattle.ft_items.specs.Levels.{level}
use Rattle.ft_items.specs.Good.{Reject, reason_in, reason_of_entry, first_rejected, Good, level_of_step, level_in, shown_in, marks, greatest_level, found_at, Counts, counts, Accepted, Rejected, verdict_by, verdict}
use Rattle.ft_items.proofs.Lists.{entries_all}
use Rattle.ft_sound.specs.Soundness.{EachEntry}
use Rattle.ft_sound.proofs.Theorems.{accepted_are_good, accepted_are_derivable}
use Rattle.ft_stated.specs.Places.{is_entry, is_rule}
use Rattle.ft_check.specs.Rejects.{reason_of}
use Rattle.ft_check.specs.Verdicts.{verdict_of}
use Rattle.ft_check.specs.declared.verdict.Verdict.{Verdict as Told}
use Rattle.ft_check.proofs.Naming.{rules_many}
use Rattle.ft_common.proofs.Options.{none_some}

-- A list without a reason is good.
pub good_so_far : (items : List Item) → first_rejected empty_store zero items ≡ None → Good items
good_so_far items h = (accepted_are_good items (counts items) (ap (λ o. verdict_by o (counts items)) h)).0

-- the list up to the next place
pub take_nth : {A : Type 0} (xs : List A) (k : ℕ) (x : A) → nth xs k ≡ Some x → take (k + 1) xs ≡ take k xs ++ (x ∷ [])
take_nth [] k x h = none_some h
take_nth (y ∷ xs) zero x h = let same : y ≡ x = cc in ap (λ z. z ∷ []) same
take_nth (y ∷ xs) (suc k) x h = let e : suc k + 1 ≡ suc (k + 1) = omega arith in ap (λ n. take n (y ∷ xs)) e ∙ ap (λ z. y ∷ z) (take_nth xs k x h)

-- The first rejected item, where there is none before it.
found_none : (k : ℕ) (o : Option Reject) (later : Option (ℕ × Reject)) → found_at k o later ≡ None → (o ≡ None) × (later ≡ None)
found_none k None later h = (refl, h)
found_none k (Some w) later h = none_some (sym h)

first_last : (W : Store) (k : ℕ) (items : List Item) (x : Item) → first_rejected W k items ≡ None
    → first_rejected W k (items ++ (x ∷ [])) ≡ found_at (length items + k) (reason_in (add_all W items) x) None
first_last W k [] x h = let e : k ≡ 0 + k = omega arith in ap (λ m. found_at m (reason_in W x) None) e
first_last W k (i ∷ items) x h =
    let n = found_none k (reason_in W i) (first_rejected (add W i) (suc k) items) h in
    let e : length items + suc k ≡ suc (length items) + k = omega arith in
    ap (λ o. found_at k o (first_rejected (add W i) (suc k) (items ++ (x ∷ [])))) n.0
    ∙ first_last (add W i) (suc k) items x n.1
    ∙ ap (λ m. found_at m (reason_in (add_all (add W i) items) x) None) e

first_within : (W : Store) (k : ℕ) (items more : List Item) (j : ℕ) (w : Reject) → first_rejected W k items ≡ Some (j, w) → first_rejected W k (items ++ more) ≡ Some (j, w)
first_within W k [] more j w h = none_some h
first_within W k (i ∷ items) more j w h = go (reason_in W i) h (first_within (add W i) (suc k) items more j w)
  where
    go : (o : Option Reject) → found_at k o (first_rejected (add W i) (suc k) items) ≡ Some (j, w)
        → (first_rejected (add W i) (suc k) items ≡ Some (j, w) → first_rejected (add W i) (suc k) (items ++ more) ≡ Some (j, w))
        → found_at k o (first_rejected (add W i) (suc k) (items ++ more)) ≡ Some (j, w)
    go None h ih = ih h
    go (Some v) h ih = h

abbrev pub NoneTo : List Item → ℕ → Type 0
NoneTo items k = first_rejected empty_store zero (take k items) ≡ None

last_is : (items : List Item) (k : ℕ) (x : Item) → nth items k ≡ Some x → k ≤ length items → NoneTo items k
    → first_rejected empty_store zero (take (k + 1) items) ≡ found_at k (reason_in (store_of (take k items)) x) None
last_is items k x h le n =
    ap (first_rejected empty_store zero) (take_nth items k x h)
    ∙ first_last empty_store zero (take k items) x n
    ∙ ap (λ m. found_at m (reason_in (store_of (take k items)) x) None) (let l = length-take-le k items le in omega (arith, l))

pub none_next : (items : List Item) (k : ℕ) (x : Item) (o : Option Rattle.ft_check.specs.declared.reject.Reject.Reject) → nth items k ≡ Some x → k ≤ length items → NoneTo items k
    → option_map reason_of o ≡ reason_in (store_of (take k items)) x → o ≡ None → NoneTo items (k + 1)
none_next items k x o h le n e f = last_is items k x h le n ∙ ap (λ r. found_at k r None) (sym e ∙ ap (option_map reason_of) f)

split_at : {A : Type 0} (xs : List A) (k : ℕ) → (more : List A) × (xs ≡ take k xs ++ more)
split_at xs zero = (xs, refl)
split_at [] (suc k) = ([], refl)
split_at (x ∷ xs) (suc k) = let s = split_at xs k in (s.0, ap (λ z. x ∷ z) s.1)

pub rejected_here : (items : List Item) (k : ℕ) (x : Item) (o : Option Rattle.ft_check.specs.declared.reject.Reject.Reject) (why : Rattle.ft_check.specs.declared.reject.Reject.Reject) → nth items k ≡ Some x → k ≤ length items → NoneTo items k
    → option_map reason_of o ≡ reason_in (store_of (take k items)) x → o ≡ Some why → Rejected k (reason_of why) ≡ verdict items
rejected_here items k x o why h le n e f =
    let s = split_at items (k + 1) in
    let here : first_rejected empty_store zero (take (k + 1) items) ≡ Some (k, reason_of why) = last_is items k x h le n ∙ ap (λ r. found_at k r None) (sym e ∙ ap (option_map reason_of) f) in
    ap (λ o. verdict_by o (counts items)) (sym (ap (first_rejected empty_store zero) s.1 ∙ first_within empty_store zero (take (k + 1) items) s.0 k (reason_of why) here))

pub accepted_here : (items : List Item) (k : ℕ) (c : Counts) → length items ≤ k → NoneTo items k → c ≡ counts (take k items) → Accepted c ≡ verdict items
accepted_here items k c le n e =
    let all = take_all k items le in
    ap Accepted (e ∙ ap counts all) ∙ ap (λ o. verdict_by o (counts items)) (sym (ap (first_rejected empty_store zero) (sym all) ∙ n))

-- The counts with one more item.
rules_last : (items : List Item) (x : Item) → length (rules_in (items ++ (x ∷ []))) ≡ length (rules_in items) + cond (is_rule x) 1 0
rules_last [] (variable v n p) = refl
rules_last [] (metavariable n p) = refl
rules_last [] (rule n ms p) = refl
rules_last [] (entry e) = refl
rules_last [] (shown p) = refl
rules_last (variable v n p ∷ items) x = rules_last items x
rules_last (metavariable n p ∷ items) x = rules_last items x
rules_last (rule n ms p ∷ items) x = let h = rules_last items x in omega (arith, h)
rules_last (entry e ∷ items) x = rules_last items x
rules_last (shown p ∷ items) x = rules_last items x

entries_last : (items : List Item) (x : Item) → length (entries_in (items ++ (x ∷ []))) ≡ length (entries_in items) + cond (is_entry x) 1 0
entries_last [] (variable v n p) = refl
entries_last [] (metavariable n p) = refl
entries_last [] (rule n ms p) = refl
entries_last [] (entry e) = refl
entries_last [] (shown p) = refl
entries_last (variable v n p ∷ items) x = entries_last items x
entries_last (metavariable n p ∷ items) x = entries_last items x
entries_last (rule n ms p ∷ items) x = entries_last items x
entries_last (entry e ∷ items) x = let h = entries_last items x in omega (arith, h)
entries_last (shown p ∷ items) x = entries_last items x

marks_last : (items : List Item) (x : Item) → marks (items ++ (x ∷ [])) ≡ marks items + shown_in x
marks_last [] x = omega arith
marks_last (i ∷ items) x = let h = marks_last items x in omega (arith, h)

level_last : (W : Store) (items : List Item) (x : Item) → greatest_level W (items ++ (x ∷ [])) ≡ max (greatest_level W items) (level_in (add_all W items) x)
level_last W [] x = omega arith
level_last W (i ∷ items) x = let h = level_last (add W i) items x in ap (max (level_in W i)) h ∙ omega arith

entries_number : (items : List Item) → length (store_of items).entries ≡ length (entries_in items)
entries_number items = ap length (entries_all empty_store items)

abbrev counted : ℕ → ℕ → ℕ → ℕ → Counts
counted r e s l = record { rules = r; entries = e; shown = s; level = l }

four : (a a' b b' c c' d d' : ℕ) → a ≡ a' → b ≡ b' → c ≡ c' → d ≡ d' → counted a b c d ≡ counted a' b' c' d'
four a a' b b' c c' d d' p q r s = cc

counts_last : (items : List Item) (k : ℕ) (x : Item) (r r' e e' s s' l l' m : ℕ) → nth items k ≡ Some x → NoneTo items k → NoneTo items (k + 1)
    → counted r e s l ≡ counts (take k items)
    → r' ≡ r + cond (is_rule x) 1 0 → e' ≡ e + cond (is_entry x) 1 0 → s' ≡ s + shown_in x → l' ≡ max l m → m ≡ level_in (store_of (take k items)) x
    → counted r' e' s' l' ≡ counts (take (k + 1) items)
counts_last items k x r r' e e' s s' l l' m h n n' c rs es ss ls ms =
    let before = take k items in
    let g = good_so_far before n in
    let g' = good_so_far (take (k + 1) items) n' in
    let after : take (k + 1) items ≡ before ++ (x ∷ []) = take_nth items k x h in
    let rule_count : r' ≡ length (declared_by (take (k + 1) items)).rules =
    rs ∙ ap (λ n. n + cond (is_rule x) 1 0) (ap (λ (c : Counts). c.rules) c ∙ rules_many before g) ∙ sym (rules_last before x) ∙ ap (λ xs. length (rules_in xs)) (sym after) ∙ sym (rules_many (take (k + 1) items) g') in
    let entry_count : e' ≡ length (store_of (take (k + 1) items)).entries =
    es ∙ ap (λ n. n + cond (is_entry x) 1 0) (ap (λ (c : Counts). c.entries) c ∙ entries_number before) ∙ sym (entries_last before x) ∙ ap (λ xs. length (entries_in xs)) (sym after) ∙ sym (entries_number (take (k + 1) items)) in
    let mark_count : s' ≡ marks (take (k + 1) items) =
    ss ∙ ap (λ n. n + shown_in x) (ap (λ (c : Counts). c.shown) c) ∙ sym (marks_last before x) ∙ ap marks (sym after) in
    let greatest : l' ≡ greatest_level empty_store (take (k + 1) items) =
    ls ∙ ap₂ max (ap (λ (c : Counts). c.level) c) ms ∙ sym (level_last empty_store before x) ∙ ap (greatest_level empty_store) (sym after) in
    four r' _ e' _ s' _ l' _ rule_count entry_count mark_count greatest

none_before : (W : Store) (k : ℕ) (items more : List Item) → first_rejected W k (items ++ more) ≡ None → first_rejected W k items ≡ None
none_before W k [] more h = refl
none_before W k (i ∷ items) more h =
    let n = found_none k (reason_in W i) (first_rejected (add W i) (suc k) (items ++ more)) h in
    ap (λ o. found_at k o (first_rejected (add W i) (suc k) items)) n.0 ∙ none_before (add W i) (suc k) items more n.1

pub counts_next : (items : List Item) (k : ℕ) (x : Item) (r r' e e' s s' l l' m : ℕ) → nth items k ≡ Some x → k < length items → NoneTo items (k + 1)
    → counted r e s l ≡ counts (take k items)
    → r' ≡ r + cond (is_rule x) 1 0 → e' ≡ e + cond (is_entry x) 1 0 → s' ≡ s + shown_in x → l' ≡ max l m
    → (Good (take k items) → reason_in (store_of (take k items)) x ≡ None → m ≡ level_in (store_of (take k items)) x)
    → counted r' e' s' l' ≡ counts (take (k + 1) items)
counts_next items k x r r' e e' s s' l l' m h lt n' c rs es ss ls ms =
    let n : NoneTo items k = none_before empty_store zero (take k items) (x ∷ []) (sym (ap (first_rejected empty_store zero) (take_nth items k x h)) ∙ n') in
    let here = found_none k (reason_in (store_of (take k items)) x) None (sym (last_is items k x h (omega (arith, lt)) n) ∙ n') in
    counts_last items k x r r' e e' s s' l l' m h n n' c rs es ss ls (ms (good_so_far (take k items) n) here.0)

-- Where there is no reason against an entry, its step names what is there.
pub record NamedStep (W : Store) (e : Entry) : Type 0 where
  pub step : Resolved
  pub is : resolve W e.step ≡ Some step

pub named_step : (W : Store) (e : Entry) → reason_in W (entry e) ≡ None → NamedStep W e
named_step W e h = go (resolve W e.step) refl h
  where
    go : (o : Option Resolved) → resolve W e.step ≡ o → reason_of_entry W.declarations o e ≡ None → NamedStep W e
    go None q h = none_some (sym h)
    go (Some s) q h = record { step = s; is = q }

-- the level of what is stated
pub level_stated : (W : Store) (x : Item) (e : Entry) (n : ℕ) → x ≡ entry e → reason_in W x ≡ None → ((s : Resolved) → resolve W e.step ≡ Some s → n ≡ level s) → n ≡ level_in W x
level_stated W x e n q r h =
    let b = named_step W e (sym (ap (reason_in W) q) ∙ r) in
    h b.step b.is ∙ ap level_of_step (sym b.is) ∙ ap (level_in W) (sym q)

-- What the verdict tells.
pub all_derivable : {E : Type 0} (items : List Item) (r : Result Told E) → IfOk r (λ v. verdict_of v ≡ verdict items)
    → IfOk r (λ v. (c : Counts) → verdict_of v ≡ Accepted c → EachEntry (λ W e. Derivable W e.statement e.set) items)
all_derivable items (Ok v) h = λ c e. accepted_are_derivable items c (sym h ∙ e)
all_derivable items (Err e) h = tt
