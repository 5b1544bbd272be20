-- The greatest numbers of variables, as a list grows and as they are read.
use Rattle.std.proofs.Common.{◌≡◌, ℕ, zero, suc, ◌+◌, ◌-◌, ◌<◌, ◌≤◌, max, Bool, true, false, Option, Some, None, List, [], ◌∷◌, ◌++◌, refl, sym, ap, ◌∙◌, subst, length, get_or, take, arith, nat_lt}
use Rattle.std.specs.List.Sorted.{IsPartitionedBy, IsPartitionPoint}
use Rattle.std.proofs.lemmas.Bool.{lt-ltb, ltb-true, ltb-false}
use Rattle.ft_items.specs.Item.{Name, Item, variable, metavariable, rule, entry, shown}
use Rattle.ft_items.specs.Store.{variables_in}
use Rattle.ft_stated.specs.First.{at_least, greatest_number, greatest_up_to, number_after, number_after_all}
use Rattle.ft_stated.specs.declared.firsts.Greatest.{Greatest}

-- how the numbers are read
pub read_at : (gs : List Greatest) (n : ℕ) (d : Greatest) (m : Option ℕ) → n < length gs → Some (get_or gs n d).number ≡ number_after (suc n) gs m
read_at [] n d m h = absurd (omega (arith, h))
read_at (g ∷ gs) zero d m h = refl
read_at (g ∷ gs) (suc n) d m h = read_at gs n d (Some g.number) (omega (arith, h))

-- the greatest number of m and those of the variables
abbrev pub greatest_with : Option ℕ → List (ℕ × Name × ℕ) → Option ℕ
greatest_with m [] = m
greatest_with m (x ∷ xs) = greatest_with (Some (at_least x.0 m)) xs

abbrev pub joined : Option ℕ → Option ℕ → Option ℕ
joined None o = o
joined (Some v) o = Some (at_least v o)

max_swapped : (a b : ℕ) → max a b ≡ max b a
max_swapped a b = omega arith

max_joined : (a b c : ℕ) → max (max a b) c ≡ max b (max a c)
max_joined a b c = omega arith

join_next : (v : ℕ) (m o : Option ℕ) → joined (Some (at_least v m)) o ≡ joined m (Some (at_least v o))
join_next v None None = refl
join_next v None (Some b) = refl
join_next v (Some a) None = ap Some (max_swapped v a)
join_next v (Some a) (Some b) = ap Some (max_joined v a b)

with_greatest : (m : Option ℕ) (xs : List (ℕ × Name × ℕ)) → greatest_with m xs ≡ joined m (greatest_number xs)
with_greatest None [] = refl
with_greatest (Some v) [] = refl
with_greatest m (x ∷ xs) = with_greatest (Some (at_least x.0 m)) xs ∙ join_next x.0 m (greatest_number xs)

-- what is read after all places
pub read_all : (k : ℕ) (m : Option ℕ) (items : List Item) → number_after (length (greatest_up_to k m items)) (greatest_up_to k m items) m ≡ greatest_with m (variables_in items)
read_all k m [] = refl
read_all k m (variable v n p ∷ items) = read_all (k + 1) (Some (at_least v m)) items
read_all k m (metavariable n p ∷ items) = read_all (k + 1) m items
read_all k m (rule n ms p ∷ items) = read_all (k + 1) m items
read_all k m (entry e ∷ items) = read_all (k + 1) m items
read_all k m (shown p ∷ items) = read_all (k + 1) m items

-- a list with one more
abbrev pub IsMore : ℕ → Option ℕ → List Item → Item → Type 0
IsMore k m items i = greatest_up_to k m (items ++ i ∷ []) ≡ greatest_up_to k m items ++ greatest_up_to (k + length items) (greatest_with m (variables_in items)) (i ∷ [])

more_after : (k : ℕ) (m : Option ℕ) (j : Item) (items : List Item) (i : Item) → ((n : Option ℕ) → IsMore (k + 1) n items i) → IsMore k m (j ∷ items) i
more_after k m j items i ih = go j
  where
    step : (n : Option ℕ) → greatest_up_to (k + 1) n (items ++ i ∷ []) ≡ greatest_up_to (k + 1) n items ++ greatest_up_to (k + length (j ∷ items)) (greatest_with n (variables_in items)) (i ∷ [])
    step n =
        let e : (k + 1) + length items ≡ k + length (j ∷ items) = omega arith in
        ih n ∙ ap (λ l. greatest_up_to (k + 1) n items ++ greatest_up_to l (greatest_with n (variables_in items)) (i ∷ [])) e

    go : (j : Item) → greatest_up_to k m (j ∷ (items ++ i ∷ [])) ≡ greatest_up_to k m (j ∷ items) ++ greatest_up_to (k + length (j ∷ items)) (greatest_with m (variables_in (j ∷ items))) (i ∷ [])
    go (variable v n p) = ap (λ gs. record { place = k; number = at_least v m } ∷ gs) (step (Some (at_least v m)))
    go (metavariable n p) = step m
    go (rule n ms p) = step m
    go (entry e) = step m
    go (shown p) = step m

up_to_more : (k : ℕ) (m : Option ℕ) (items : List Item) (i : Item) → IsMore k m items i
up_to_more k m [] i = let z : k ≡ k + 0 = omega arith in ap (λ k. greatest_up_to k m (i ∷ [])) z
up_to_more k m (j ∷ items) i = more_after k m j items i (λ n. up_to_more (k + 1) n items i)

pub greatest_more : (items : List Item) (i : Item) (gs : List Greatest) → gs ≡ greatest_up_to 0 None items
    → gs ++ greatest_up_to (length items) (number_after_all gs) (i ∷ []) ≡ greatest_up_to 0 None (items ++ i ∷ [])
greatest_more items i gs h =
    ap (λ gs. gs ++ greatest_up_to (length items) (number_after_all gs) (i ∷ [])) h
    ∙ ap (λ m. greatest_up_to 0 None items ++ greatest_up_to (length items) m (i ∷ [])) (read_all 0 None items)
    ∙ (let z : length items ≡ 0 + length items = omega arith in ap (λ l. greatest_up_to 0 None items ++ greatest_up_to l (greatest_with None (variables_in items)) (i ∷ [])) z)
    ∙ sym (up_to_more 0 None items i)

-- each place is at least the first that is counted
place_from : (k : ℕ) (m : Option ℕ) (items : List Item) (j : ℕ) (d : Greatest) → j < length (greatest_up_to k m items) → k ≤ (get_or (greatest_up_to k m items) j d).place
place_from k m [] j d h = absurd (omega (arith, h))
place_from k m (variable v n p ∷ items) zero d h = omega arith
place_from k m (variable v n p ∷ items) (suc j) d h = let le : k + 1 ≤ (get_or (greatest_up_to (k + 1) (Some (at_least v m)) items) j d).place = place_from (k + 1) (Some (at_least v m)) items j d (omega (arith, h)) in omega (arith, le)
place_from k m (metavariable n p ∷ items) j d h = let le : k + 1 ≤ (get_or (greatest_up_to (k + 1) m items) j d).place = place_from (k + 1) m items j d h in omega (arith, le)
place_from k m (rule n ms p ∷ items) j d h = let le : k + 1 ≤ (get_or (greatest_up_to (k + 1) m items) j d).place = place_from (k + 1) m items j d h in omega (arith, le)
place_from k m (entry e ∷ items) j d h = let le : k + 1 ≤ (get_or (greatest_up_to (k + 1) m items) j d).place = place_from (k + 1) m items j d h in omega (arith, le)
place_from k m (shown p ∷ items) j d h = let le : k + 1 ≤ (get_or (greatest_up_to (k + 1) m items) j d).place = place_from (k + 1) m items j d h in omega (arith, le)

-- no place before i comes after one that is not before it
pub parted : (i k : ℕ) (m : Option ℕ) (items : List Item) → IsPartitionedBy (λ (g : Greatest). nat_lt g.place i) (greatest_up_to k m items)
parted i k m [] a j d le lt t = absurd (omega (arith, lt))
parted i k m (variable v n p ∷ items) zero zero d le lt t = t
parted i k m (variable v n p ∷ items) zero (suc j) d le lt t =
    let from : k + 1 ≤ (get_or (greatest_up_to (k + 1) (Some (at_least v m)) items) j d).place = place_from (k + 1) (Some (at_least v m)) items j d (omega (arith, lt)) in
    let below : (get_or (greatest_up_to (k + 1) (Some (at_least v m)) items) j d).place < i = ltb-true _ i t in
    lt-ltb k i (omega (arith, from, below))
parted i k m (variable v n p ∷ items) (suc a) zero d le lt t = absurd (omega (arith, le))
parted i k m (variable v n p ∷ items) (suc a) (suc j) d le lt t = parted i (k + 1) (Some (at_least v m)) items a j d (omega (arith, le)) (omega (arith, lt)) t
parted i k m (metavariable n p ∷ items) a j d le lt t = parted i (k + 1) m items a j d le lt t
parted i k m (rule n ms p ∷ items) a j d le lt t = parted i (k + 1) m items a j d le lt t
parted i k m (entry e ∷ items) a j d le lt t = parted i (k + 1) m items a j d le lt t
parted i k m (shown p ∷ items) a j d le lt t = parted i (k + 1) m items a j d le lt t

-- The greatest number read at the point up to which places are before i is that of the variables before i.
abbrev pub IsPointAt : ℕ → List Greatest → ℕ → Type 0
IsPointAt i gs n = IsPartitionPoint (λ (g : Greatest). nat_lt g.place i ≡ true) (λ (g : Greatest). nat_lt g.place i ≡ false) gs n

abbrev pub IsReadAt : ℕ → ℕ → Option ℕ → List Item → ℕ → Type 0
IsReadAt i k m items n = number_after n (greatest_up_to k m items) m ≡ greatest_with m (variables_in (take (i - k) items))

nothing_taken : (i k : ℕ) (items : List Item) → i ≤ k → take (i - k) items ≡ []
nothing_taken i k items h = let z : i - k ≡ 0 = omega (arith, h) in ap (λ n. take n items) z

one_taken : (i k : ℕ) (j : Item) (items : List Item) → k < i → take (i - k) (j ∷ items) ≡ j ∷ take (i - (k + 1)) items
one_taken i k j items h = let e : i - k ≡ suc (i - (k + 1)) = omega (arith, h) in ap (λ n. take n (j ∷ items)) e

take_none : (n : ℕ) → take {A = Item} n [] ≡ []
take_none zero = refl
take_none (suc n) = refl

read_none : (n : ℕ) (m : Option ℕ) → number_after n [] m ≡ m
read_none zero m = refl
read_none (suc n) m = refl

-- where no place is before i, nothing is read
read_nothing : (i k : ℕ) (m : Option ℕ) (items : List Item) (n : ℕ) (gs : List Greatest) → gs ≡ greatest_up_to k m items → i ≤ k → IsPointAt i gs n → number_after n gs m ≡ m
read_nothing i k m items zero gs e le h = refl
read_nothing i k m items (suc n) [] e le h = refl
read_nothing i k m items (suc n) (g ∷ gs) e le h =
    let below : g.place < i = ltb-true _ i (h.0 0 g (omega arith) (omega arith)) in
    let one : 0 < length (g ∷ gs) = omega arith in
    let some : 0 < length (greatest_up_to k m items) = subst (λ X. 0 < length X) e one in
    let from : k ≤ (get_or (greatest_up_to k m items) 0 g).place = place_from k m items 0 g some in
    let from_g : k ≤ g.place = subst (λ X. k ≤ (get_or X 0 g).place) (sym e) from in
    absurd (omega (arith, below, from_g, le))

read_past : (i k : ℕ) (m : Option ℕ) (j : Item) (items : List Item) (n : ℕ) → greatest_up_to k m (j ∷ items) ≡ greatest_up_to (k + 1) m items
    → ((ys : List Item) → variables_in (j ∷ ys) ≡ variables_in ys)
    → IsPointAt i (greatest_up_to k m (j ∷ items)) n → (k + 1 ≤ i → IsReadAt i (k + 1) m items n) → IsReadAt i k m (j ∷ items) n
read_past i k m j items n same passed h ih = go (nat_lt k i) refl
  where
    go : (b : Bool) → nat_lt k i ≡ b → IsReadAt i k m (j ∷ items) n
    go true t =
        let lt : k < i = ltb-true k i t in
        ap (λ gs. number_after n gs m) same ∙ ih (omega (arith, lt))
        ∙ sym (ap (λ xs. greatest_with m (variables_in xs)) (one_taken i k j items lt) ∙ ap (greatest_with m) (passed (take (i - (k + 1)) items)))
    go false f =
        let le : i ≤ k = ltb-false k i f in
        read_nothing i k m (j ∷ items) n (greatest_up_to k m (j ∷ items)) refl le h
        ∙ sym (ap (λ xs. greatest_with m (variables_in xs)) (nothing_taken i k (j ∷ items) le))

read_variable : (i k : ℕ) (m : Option ℕ) (v : ℕ) (x : Name) (p : ℕ) (items : List Item) (n : ℕ) → IsPointAt i (greatest_up_to k m (variable v x p ∷ items)) n
    → ((n : ℕ) → k + 1 ≤ i → IsPointAt i (greatest_up_to (k + 1) (Some (at_least v m)) items) n → IsReadAt i (k + 1) (Some (at_least v m)) items n)
    → IsReadAt i k m (variable v x p ∷ items) n
read_variable i k m v x p items zero h ih =
    let le : i ≤ k = ltb-false k i (h.1 0 (record { place = k; number = at_least v m }) (omega arith) (omega arith)) in
    sym (ap (λ xs. greatest_with m (variables_in xs)) (nothing_taken i k (variable v x p ∷ items) le))
read_variable i k m v x p items (suc n) h ih =
    let lt : k < i = ltb-true k i (h.0 0 (record { place = k; number = at_least v m }) (omega arith) (omega arith)) in
    ih n (omega (arith, lt)) (λ a d lo hi. h.0 (suc a) d (omega arith) (omega (arith, hi)), λ a d lo hi. h.1 (suc a) d (omega (arith, lo)) (omega (arith, hi)))
    ∙ sym (ap (λ xs. greatest_with m (variables_in xs)) (one_taken i k (variable v x p) items lt))

pub read_before : (i k : ℕ) (m : Option ℕ) (items : List Item) (n : ℕ) → IsPointAt i (greatest_up_to k m items) n → IsReadAt i k m items n
read_before i k m [] n h = read_none n m ∙ sym (ap (λ xs. greatest_with m (variables_in xs)) (take_none (i - k)))
read_before i k m (variable v x p ∷ items) n h = read_variable i k m v x p items n h (λ n le g. read_before i (k + 1) (Some (at_least v m)) items n g)
read_before i k m (metavariable x p ∷ items) n h = read_past i k m (metavariable x p) items n refl (λ ys. refl) h (λ le. read_before i (k + 1) m items n h)
read_before i k m (rule x ms p ∷ items) n h = read_past i k m (rule x ms p) items n refl (λ ys. refl) h (λ le. read_before i (k + 1) m items n h)
read_before i k m (entry e ∷ items) n h = read_past i k m (entry e) items n refl (λ ys. refl) h (λ le. read_before i (k + 1) m items n h)
read_before i k m (shown p ∷ items) n h = read_past i k m (shown p) items n refl (λ ys. refl) h (λ le. read_before i (k + 1) m items n h)

pub greatest_read : (i : ℕ) (items : List Item) (gs : List Greatest) (n : ℕ) → gs ≡ greatest_up_to 0 None items → IsPointAt i gs n → number_after n gs None ≡ greatest_number (variables_in (take i items))
greatest_read i items gs n e h =
    ap (λ gs. number_after n gs None) e
    ∙ read_before i 0 None items n (subst (λ gs. IsPointAt i gs n) e h)
    ∙ (let z : i - 0 ≡ i = omega arith in ap (λ j. greatest_with None (variables_in (take j items))) z)
    ∙ with_greatest None (variables_in (take i items))

pub parted_places : (i : ℕ) (items : List Item) (gs : List Greatest) → gs ≡ greatest_up_to 0 None items → IsPartitionedBy (λ (g : Greatest). nat_lt g.place i) gs
parted_places i items gs e = subst (IsPartitionedBy (λ (g : Greatest). nat_lt g.place i)) (sym e) (parted i 0 None items)
