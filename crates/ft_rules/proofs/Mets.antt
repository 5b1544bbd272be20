-- The metavariables of a draft over a list, and their order.
use Rattle.std.proofs.Common.{◌≡◌, ◌⊎◌, inl, inr, ◌∙◌, ℕ, zero, suc, ◌<◌, ◌≤◌, Option, Some, None, List, [], ◌∷◌, ◌++◌, length, get_or, map, refl, sym, ap, ap₂, subst, arith}
use Rattle.std.specs.Prelude.{option_map, option_and_then}
use Rattle.std.proofs.lemmas.Bool.{cases_lt}
use Rattle.std.proofs.lemmas.List.{length-map}
use Rattle.std.proofs.lemmas.Option.{same_Some}
use Rattle.ft_common.proofs.Options.{none_some}
use Rattle.ft_items.specs.Sets.{met}
use Rattle.ft_items.specs.Item.{Item}
use Rattle.ft_items.specs.Store.{Declared, Declarations, nth, each, metavariable_named, declared_by, metavariables_in}
use Rattle.ft_items.specs.Rows.{atoms}
use Rattle.ft_items.specs.Good.{Good}
use Rattle.ft_items.proofs.Lists.{nth_within, store_is}
use Rattle.ft_nucleus_laws.specs.Laws.{numbers, IsDraft}
use Rattle.ft_nucleus_laws.proofs.Declaring as laws
use Rattle.ft_rules.specs.Drafts.{Drafted, declared_or, met_of, mets_of, draft_in, IsDraftOver, InOrder}

-- the metavariables of a draft
pub atoms_are : (items : List Item) (ms : List ℕ) → atoms (mets_of items ms) ≡ map met ms
atoms_are items [] = refl
atoms_are items (m ∷ ms) = ap (λ S. met m ∷ S) (atoms_are items ms)

pub numbers_are : (items : List Item) (ms : List ℕ) → numbers (mets_of items ms) ≡ ms
numbers_are items [] = refl
numbers_are items (m ∷ ms) = ap (λ ns. m ∷ ns) (numbers_are items ms)

pub as_many : (items : List Item) (ms : List ℕ) → length (mets_of items ms) ≡ length ms
as_many items [] = refl
as_many items (m ∷ ms) = ap suc (as_many items ms)

pub mets_append : (items : List Item) (ms ns : List ℕ) → mets_of items (ms ++ ns) ≡ mets_of items ms ++ mets_of items ns
mets_append items [] ns = refl
mets_append items (m ∷ ms) ns = ap (λ ds. met_of items m ∷ ds) (mets_append items ms ns)

pub named : (items : List Item) (d : Drafted) → IsDraftOver items d → each (metavariable_named (declared_by items)) d.premises ≡ Some (mets_of items d.premises)
named items d i = ap (each (metavariable_named (declared_by items))) (sym (numbers_are items d.premises)) ∙ i.named

-- metavariables that are declared
met_found : (items : List Item) (m : ℕ) (d : Declared) → nth (declared_by items).metavariables m ≡ Some d → met_of items m ≡ (m, d)
met_found items m d h = ap (λ o. (m, declared_or o)) h

mets_found : (items : List Item) (ms : List ℕ) (ds : List (ℕ × Declared)) → each (metavariable_named (declared_by items)) ms ≡ Some ds → mets_of items ms ≡ ds
mets_found items [] ds h = same_Some [] ds h
mets_found items (m ∷ ms) ds h = go (nth W.metavariables m) refl (each (metavariable_named W) ms) refl h (mets_found items ms)
  where
    W : Declarations
    W = declared_by items

    go : (o : Option Declared) → nth W.metavariables m ≡ o → (os : Option (List (ℕ × Declared))) → each (metavariable_named W) ms ≡ os → option_and_then (λ d. option_map (λ ds. d ∷ ds) os) (option_map (λ d. (m, d)) o) ≡ Some ds
        → ((ds : List (ℕ × Declared)) → each (metavariable_named W) ms ≡ Some ds → mets_of items ms ≡ ds) → mets_of items (m ∷ ms) ≡ ds
    go None e os f k ih = none_some k
    go (Some d) e None f k ih = none_some k
    go (Some d) e (Some more) f k ih = ap₂ (λ x xs. x ∷ xs) (met_found items m d e) (ih more f) ∙ same_Some ((m, d) ∷ more) ds k

all_before : (W : Declarations) (ms : List ℕ) (ds : List (ℕ × Declared)) → each (metavariable_named W) ms ≡ Some ds → (k : ℕ) → k < length ms → get_or ms k 0 < length W.metavariables
all_before W [] ds h k l = absurd (omega (arith, l))
all_before W (m ∷ ms) ds h k l = go (nth W.metavariables m) refl (each (metavariable_named W) ms) refl h k l (all_before W ms)
  where
    go : (o : Option Declared) → nth W.metavariables m ≡ o → (os : Option (List (ℕ × Declared))) → each (metavariable_named W) ms ≡ os → option_and_then (λ d. option_map (λ ds. d ∷ ds) os) (option_map (λ d. (m, d)) o) ≡ Some ds
        → (k : ℕ) → k < length (m ∷ ms) → ((ds : List (ℕ × Declared)) → each (metavariable_named W) ms ≡ Some ds → (k : ℕ) → k < length ms → get_or ms k 0 < length W.metavariables) → get_or (m ∷ ms) k 0 < length W.metavariables
    go None e os f h k l ih = none_some h
    go (Some d) e None f h k l ih = none_some h
    go (Some d) e (Some more) f h zero l ih = nth_within W.metavariables m d e
    go (Some d) e (Some more) f h (suc k) l ih = ih more f k (omega (arith, l))

-- Numbers in order.
pub order_start : InOrder []
order_start i j l h = absurd (omega (arith, h))

get_first : (ns : List ℕ) (n k : ℕ) → k < length ns → get_or (ns ++ n ∷ []) k 0 ≡ get_or ns k 0
get_first [] n k l = absurd (omega (arith, l))
get_first (m ∷ ns) n zero l = refl
get_first (m ∷ ns) n (suc k) l = get_first ns n k (omega (arith, l))

get_last : (ns : List ℕ) (n : ℕ) → get_or (ns ++ n ∷ []) (length ns) 0 ≡ n
get_last [] n = refl
get_last (m ∷ ns) n = get_last ns n

length_push : (ns : List ℕ) (n : ℕ) → length (ns ++ n ∷ []) ≡ suc (length ns)
length_push [] n = refl
length_push (m ∷ ns) n = ap suc (length_push ns n)

pub order_more : (ns : List ℕ) (n : ℕ) → InOrder ns → ((k : ℕ) → k < length ns → get_or ns k 0 ≤ n) → InOrder (ns ++ n ∷ [])
order_more ns n o below i j l h = go (cases_lt j (length ns)) (cases_lt i (length ns))
  where
    long : length (ns ++ n ∷ []) ≡ suc (length ns)
    long = length_push ns n

    go : (j < length ns) ⊎ (length ns ≤ j) → (i < length ns) ⊎ (length ns ≤ i) → get_or (ns ++ n ∷ []) i 0 ≤ get_or (ns ++ n ∷ []) j 0
    go (inl a) b = let m : i < length ns = omega (arith, l, a) in omega (arith, get_first ns n i m, get_first ns n j a, o i j l a)
    go (inr a) (inl b) =
        let e : j ≡ length ns = omega (arith, a, h, long) in
        omega (arith, get_first ns n i b, below i b, ap (λ k. get_or (ns ++ n ∷ []) k 0) e, get_last ns n)
    go (inr a) (inr b) =
        let e : i ≡ j = omega (arith, a, b, h, l, long) in
        omega (arith, ap (λ k. get_or (ns ++ n ∷ []) k 0) e)

-- the next number is behind all of them
pub mets_many : (items : List Item) → Good items → length (declared_by items).metavariables ≡ length (metavariables_in items)
mets_many items g = ap length (store_is items g).metavariables ∙ length-map (metavariables_in items) _

pub order_next : (items : List Item) (d : Drafted) (m : ℕ) → Good items → IsDraftOver items d → InOrder d.premises → m ≡ length (metavariables_in items) → InOrder (d.premises ++ m ∷ [])
order_next items d m g i o k =
    order_more d.premises m o (λ j l. omega (arith, all_before (declared_by items) d.premises (mets_of items d.premises) (named items d i) j l, mets_many items g, k))

-- A draft stays as the list goes on.

pub draft_later : (items more : List Item) (d : Drafted) → IsDraftOver items d → mets_of (items ++ more) d.premises ≡ mets_of items d.premises
draft_later items more d i =
    mets_found (items ++ more) d.premises (mets_of items d.premises)
    (ap (each (metavariable_named (declared_by (items ++ more)))) (sym (numbers_are items d.premises)) ∙ (laws.drafts_stay items more (draft_in items d) i).named)

pub same_later : (items more : List Item) (d : Drafted) → IsDraftOver items d → draft_in (items ++ more) d ≡ draft_in items d
same_later items more d i = ap (λ ds. record { name = d.name; premises = ds }) (draft_later items more d i)

pub drafts_stay : (items more : List Item) (d : Drafted) → IsDraftOver items d → IsDraftOver (items ++ more) d
drafts_stay items more d i = subst (IsDraft (declared_by (items ++ more))) (sym (same_later items more d i)) (laws.drafts_stay items more (draft_in items d) i)
