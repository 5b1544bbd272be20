-- What is found by number is the item at its place.
use Rattle.std.proofs.Common.{◌≡◌, ◌∙◌, sym, ap, ap₂, refl, subst, ℕ, zero, suc, ◌<◌, nat_eq, nat_lt, Bool, true, false, cond, Option, Some, option_map, List, [], ◌∷◌, ◌++◌, length, map, take, drop, arith}
use Rattle.std.proofs.lemmas.Bool.{eq-eqb, ne_eqb, ltb-true}
use Rattle.ft_items.specs.Sets.{Atom}
use Rattle.ft_theory.specs.Statements.{Statement}
use Rattle.ft_items.specs.Item.{Stated, Name, Entry, Item, variable, metavariable, rule, entry, shown}
use Rattle.ft_items.specs.Store.{Assertion, nth, empty_store, annotated, entries_in, variables_in, metavariables_in, rules_in}
use Rattle.ft_items.specs.Good.{Good, is_next}
use Rattle.ft_common.proofs.Options.{one_value}
use Rattle.ft_items.proofs.Lists.{good_split, store_is, annotated_number}
use Rattle.ft_items.proofs.SetLemmas.{both}
use Rattle.ft_kernel.specs.State.{variable_numbered}

pub entry_place : (items : List Item) (i : ℕ) (e : Entry) → nth items i ≡ Some (entry e) → nth (entries_in items) (length (entries_in (take i items))) ≡ Some (record { statement = e.statement; set = e.set })
entry_place [] i e h = cc
entry_place (j ∷ items) zero e h = let same : j ≡ entry e = cc in ap (λ j. nth (entries_in (j ∷ items)) 0) same
entry_place (variable v n p ∷ items) (suc i) e h = entry_place items i e h
entry_place (metavariable n p ∷ items) (suc i) e h = entry_place items i e h
entry_place (rule n ms p ∷ items) (suc i) e h = entry_place items i e h
entry_place (entry d ∷ items) (suc i) e h = entry_place items i e h
entry_place (shown p ∷ items) (suc i) e h = entry_place items i e h

pub metavariable_place : (items : List Item) (i : ℕ) (n : Name) (p : ℕ) → nth items i ≡ Some (metavariable n p) → nth (metavariables_in items) (length (metavariables_in (take i items))) ≡ Some (n, p)
metavariable_place [] i n p h = cc
metavariable_place (j ∷ items) zero n p h = let same : j ≡ metavariable n p = cc in ap (λ j. nth (metavariables_in (j ∷ items)) 0) same
metavariable_place (variable w m q ∷ items) (suc i) n p h = metavariable_place items i n p h
metavariable_place (metavariable m q ∷ items) (suc i) n p h = metavariable_place items i n p h
metavariable_place (rule m ms q ∷ items) (suc i) n p h = metavariable_place items i n p h
metavariable_place (entry d ∷ items) (suc i) n p h = metavariable_place items i n p h
metavariable_place (shown q ∷ items) (suc i) n p h = metavariable_place items i n p h

pub rule_place : (items : List Item) (i : ℕ) (n : Name) (ms : List ℕ) (p : ℕ) → nth items i ≡ Some (rule n ms p) → nth (rules_in items) (length (rules_in (take i items))) ≡ Some (n, ms, p)
rule_place [] i n ms p h = cc
rule_place (j ∷ items) zero n ms p h = let same : j ≡ rule n ms p = cc in ap (λ j. nth (rules_in (j ∷ items)) 0) same
rule_place (variable w m q ∷ items) (suc i) n ms p h = rule_place items i n ms p h
rule_place (metavariable m q ∷ items) (suc i) n ms p h = rule_place items i n ms p h
rule_place (rule m ns q ∷ items) (suc i) n ms p h = rule_place items i n ms p h
rule_place (entry d ∷ items) (suc i) n ms p h = rule_place items i n ms p h
rule_place (shown q ∷ items) (suc i) n ms p h = rule_place items i n ms p h

-- the first variable of the number, when none before it has the number
abbrev AllBefore : List (ℕ × Name × ℕ) → ℕ → Type 0
AllBefore [] v = Unit {0}
AllBefore (x ∷ xs) v = (x.0 < v) × AllBefore xs v

passed : (xs ys : List (ℕ × Name × ℕ)) (v : ℕ) → AllBefore xs v → variable_numbered (xs ++ ys) v ≡ variable_numbered ys v
passed [] ys v h = refl
passed (x ∷ xs) ys v h =
    let other : nat_eq x.0 v ≡ false = ne_eqb x.0 v (λ e. absurd (omega (arith, h.0, e))) in
    ap (λ b. cond b (Some (x.1, x.2)) (variable_numbered (xs ++ ys) v)) other ∙ passed xs ys v h.1

variables_split : (items : List Item) (i v : ℕ) (n : Name) (p : ℕ) → nth items i ≡ Some (variable v n p) → variables_in items ≡ variables_in (take i items) ++ ((v, n, p) ∷ variables_in (drop (suc i) items))
variables_split [] i v n p h = cc
variables_split (j ∷ items) zero v n p h = let same : j ≡ variable v n p = cc in ap (λ j. variables_in (j ∷ items)) same
variables_split (variable w m q ∷ items) (suc i) v n p h = ap (λ z. (w, m, q) ∷ z) (variables_split items i v n p h)
variables_split (metavariable m q ∷ items) (suc i) v n p h = variables_split items i v n p h
variables_split (rule m ms q ∷ items) (suc i) v n p h = variables_split items i v n p h
variables_split (entry d ∷ items) (suc i) v n p h = variables_split items i v n p h
variables_split (shown q ∷ items) (suc i) v n p h = variables_split items i v n p h

items_split : (items : List Item) (i : ℕ) (x : Item) → nth items i ≡ Some x → items ≡ take i items ++ (x ∷ drop (suc i) items)
items_split [] i x h = cc
items_split (j ∷ items) zero x h = let same : j ≡ x = cc in ap (λ j. j ∷ items) same
items_split (j ∷ items) (suc i) x h = ap (λ z. j ∷ z) (items_split items i x h)

all_before : (es : List Assertion) (xs : List (ℕ × Name × ℕ)) (v : ℕ) → is_next (map (λ (x : ℕ × Name × ℕ). annotated x (nth es x.2)) xs) v ≡ true → AllBefore xs v
all_before es [] v h = tt
all_before es (x ∷ xs) v h =
    let rest = map (λ (x : ℕ × Name × ℕ). annotated x (nth es x.2)) xs in
    let k : (nat_lt (annotated x (nth es x.2)).0 v ≡ true) × (is_next rest v ≡ true) = both (nat_lt (annotated x (nth es x.2)).0 v) (is_next rest v) h in
    (ltb-true x.0 v (ap (λ u. nat_lt u v) (sym (annotated_number x (nth es x.2))) ∙ k.0), all_before es xs v k.1)

-- the variable at a place of a good list is that of its number
variable_place : (items : List Item) (i v : ℕ) (n : Name) (p : ℕ) → Good items → nth items i ≡ Some (variable v n p) → variable_numbered (variables_in items) v ≡ Some (n, p)
variable_place items i v n p g h =
    let before = take i items in
    let after = drop (suc i) items in
    let split = good_split empty_store before (variable v n p) after (subst Good (items_split items i (variable v n p) h) g) in
    let next : is_next (map (λ (x : ℕ × Name × ℕ). annotated x (nth (entries_in before) x.2)) (variables_in before)) v ≡ true = subst (λ G. is_next G v ≡ true) (store_is before split.0).variables split.1.0 in
    let self : nat_eq v v ≡ true = eq-eqb v v refl in
    ap (λ vs. variable_numbered vs v) (variables_split items i v n p h) ∙ passed (variables_in before) ((v, n, p) ∷ variables_in after) v (all_before (entries_in before) (variables_in before) v next)
    ∙ ap (λ b. cond b (Some (n, p)) (variable_numbered (variables_in after) v)) self

-- a number that a variable of the list has names one
pub variable_there : (items : List Item) (i v : ℕ) (n : Name) (p : ℕ) → nth items i ≡ Some (variable v n p) → (x : Name × ℕ) × (variable_numbered (variables_in items) v ≡ Some x)
variable_there items i v n p h =
    let found = go (variables_in (take i items)) in
    (found.0, ap (λ vs. variable_numbered vs v) (variables_split items i v n p h) ∙ found.1)
  where
    more : List (ℕ × Name × ℕ)
    more = variables_in (drop (suc i) items)

    by : (b : Bool) (x : Name × ℕ) (o : Option (Name × ℕ)) → ((y : Name × ℕ) × (o ≡ Some y)) → (y : Name × ℕ) × (cond b (Some x) o ≡ Some y)
    by true x o h = (x, refl)
    by false x o h = h

    here : (b : Bool) → nat_eq v v ≡ b → (y : Name × ℕ) × (cond (nat_eq v v) (Some (n, p)) (variable_numbered more v) ≡ Some y)
    here b e = ((n, p), ap (λ b. cond b (Some (n, p)) (variable_numbered more v)) (eq-eqb v v refl))

    go : (xs : List (ℕ × Name × ℕ)) → (x : Name × ℕ) × (variable_numbered (xs ++ ((v, n, p) ∷ more)) v ≡ Some x)
    go [] = here true (eq-eqb v v refl)
    go (x ∷ xs) = by (nat_eq x.0 v) (x.1, x.2) (variable_numbered (xs ++ ((v, n, p) ∷ more)) v) (go xs)

-- the items, by what their readers answer
pub variable_read : (items : List Item) (i v : ℕ) (n : Name) (p w : ℕ) (m : Name) (q : ℕ) → Good items → nth items i ≡ Some (variable v n p) → w ≡ v → variable_numbered (variables_in items) v ≡ Some (m, q)
    → nth items i ≡ Some (variable w m q)
variable_read items i v n p w m q g h e r =
    let same : (n, p) ≡ (m, q) = one_value (variable_numbered (variables_in items) v) (n, p) (m, q) (variable_place items i v n p g h) r in
    h ∙ ap₂ (λ v (x : Name × ℕ). Some (variable v x.0 x.1)) (sym e) same

pub metavariable_read : (items : List Item) (i v : ℕ) (n : Name) (p : ℕ) (m : Name) (q : ℕ) → nth items i ≡ Some (metavariable n p) → v ≡ length (metavariables_in (take i items)) → nth (metavariables_in items) v ≡ Some (m, q)
    → nth items i ≡ Some (metavariable m q)
metavariable_read items i v n p m q h e r =
    let same : (n, p) ≡ (m, q) = one_value (nth (metavariables_in items) v) (n, p) (m, q) (ap (nth (metavariables_in items)) e ∙ metavariable_place items i n p h) r in
    h ∙ ap (λ (x : Name × ℕ). Some (metavariable x.0 x.1)) same

pub rule_read : (items : List Item) (i v : ℕ) (n : Name) (ms : List ℕ) (p : ℕ) (m : Name) (ns : List ℕ) (q : ℕ) → nth items i ≡ Some (rule n ms p) → v ≡ length (rules_in (take i items)) → nth (rules_in items) v ≡ Some (m, ns, q)
    → nth items i ≡ Some (rule m ns q)
rule_read items i v n ms p m ns q h e r =
    let same : (n, ms, p) ≡ (m, ns, q) = one_value (nth (rules_in items) v) (n, ms, p) (m, ns, q) (ap (nth (rules_in items)) e ∙ rule_place items i n ms p h) r in
    h ∙ ap (λ (x : Name × List ℕ × ℕ). Some (rule x.0 x.1 x.2)) same

pub entry_read : (items : List Item) (i j : ℕ) (x : Statement) (S : List Atom) (s : Stated) (y : Statement) (R : List Atom) → nth items i ≡ Some (entry (record { statement = x; set = S; step = s })) → j ≡ length (entries_in (take i items))
    → option_map (λ (a : Assertion). a.statement) (nth (entries_in items) j) ≡ Some y → option_map (λ (a : Assertion). a.set) (nth (entries_in items) j) ≡ Some R
    → nth items i ≡ Some (entry (record { statement = y; set = R; step = s }))
entry_read items i j x S s y R h e p q =
    let found : nth (entries_in items) j ≡ Some (record { statement = x; set = S }) = ap (nth (entries_in items)) e ∙ entry_place items i (record { statement = x; set = S; step = s }) h in
    let same_x : x ≡ y = one_value (Some x) x y refl (sym (ap (option_map (λ (a : Assertion). a.statement)) found) ∙ p) in
    let same_S : S ≡ R = one_value (Some S) S R refl (sym (ap (option_map (λ (a : Assertion). a.set)) found) ∙ q) in
    h ∙ ap₂ (λ x S. Some (entry (record { statement = x; set = S; step = s }))) same_x same_S

pub entry_there : (items : List Item) (i j : ℕ) (x : Statement) (S : List Atom) (s : Stated) → nth items i ≡ Some (entry (record { statement = x; set = S; step = s })) → j ≡ length (entries_in (take i items))
    → nth (entries_in items) j ≡ Some (record { statement = x; set = S })
entry_there items i j x S s h e = ap (nth (entries_in items)) e ∙ entry_place items i (record { statement = x; set = S; step = s }) h
