-- The first item that passes a test, as a list grows.
use Rattle.std.proofs.Common.{◌≡◌, ℕ, suc, ◌+◌, Bool, true, false, cond, Option, Some, None, List, [], ◌∷◌, ◌++◌, refl, sym, ap, ◌∙◌, length}
use Rattle.std.specs.Prelude.{option_map, is_some}
use Rattle.std.specs.Str.{bytes_eq}
use Rattle.std.specs.Map.{lookup}
use Rattle.std.proofs.lemmas.Slice.Eq.{bytes_eq-Decides}
use Rattle.ft_items.specs.Item.{Name, Item}
use Rattle.ft_items.specs.Good.{equal_names}
use Rattle.ft_items.proofs.Names.{bytes_eq-names}
use Rattle.ft_items.proofs.SetLemmas.{wrong}
use Rattle.ft_stated.specs.First.{first_place, or_place}

-- the first place in a list with one more
pub first_more : (p : Item → Bool) (items : List Item) (i : Item) → first_place p (items ++ i ∷ []) ≡ or_place (first_place p items) (p i) (length items)
first_more p [] i = go (p i)
  where
    go : (b : Bool) → cond b (Some 0) None ≡ or_place None b 0
    go true = refl
    go false = refl
first_more p (j ∷ items) i = ap (λ o. cond (p j) (Some 0) (option_map suc o)) (first_more p items i) ∙ go (p j)
  where
    later : (o : Option ℕ) → option_map suc (or_place o (p i) (length items)) ≡ or_place (option_map suc o) (p i) (length (j ∷ items))
    later (Some k) = refl
    later None = none (p i)
      where
        none : (b : Bool) → option_map suc (or_place None b (length items)) ≡ or_place None b (length (j ∷ items))
        none true = refl
        none false = refl

    go : (b : Bool) → cond b (Some 0) (option_map suc (or_place (first_place p items) (p i) (length items))) ≡ or_place (cond b (Some 0) (option_map suc (first_place p items))) (p i) (length (j ∷ items))
    go true = refl
    go false = later (first_place p items)

-- a map of names with one more, where the name is new
pub name_new : (m : Name) (old new : List (Name × ℕ)) (k : ℕ) → is_some (lookup (bytes_eq m) old) ≡ false
    → ((q : Name) → lookup (bytes_eq q) new ≡ cond (bytes_eq m q) (Some k) (lookup (bytes_eq q) old))
    → (n : Name) → lookup (bytes_eq n) new ≡ or_place (lookup (bytes_eq n) old) (equal_names m n) k
name_new m old new k none h n = h n ∙ go (bytes_eq m n) refl
  where
    kept : (o : Option ℕ) → o ≡ or_place o false k
    kept None = refl
    kept (Some j) = refl

    placed : (o : Option ℕ) → is_some o ≡ false → Some k ≡ or_place o true k
    placed None e = refl
    placed (Some j) e = wrong (sym e)

    go : (b : Bool) → bytes_eq m n ≡ b → cond b (Some k) (lookup (bytes_eq n) old) ≡ or_place (lookup (bytes_eq n) old) (equal_names m n) k
    go true t = placed (lookup (bytes_eq n) old) (ap (λ q. is_some (lookup (bytes_eq q) old)) (sym ((bytes_eq-Decides m n).0 t)) ∙ none) ∙ ap (λ b. or_place (lookup (bytes_eq n) old) b k) (sym t ∙ bytes_eq-names m n)
    go false f = kept (lookup (bytes_eq n) old) ∙ ap (λ b. or_place (lookup (bytes_eq n) old) b k) (sym f ∙ bytes_eq-names m n)

-- where the name is there nothing changes
pub name_there : (m : Name) (old : List (Name × ℕ)) (k : ℕ) → is_some (lookup (bytes_eq m) old) ≡ true
    → (n : Name) → lookup (bytes_eq n) old ≡ or_place (lookup (bytes_eq n) old) (equal_names m n) k
name_there m old k some n = go (bytes_eq m n) refl
  where
    kept : (o : Option ℕ) → o ≡ or_place o false k
    kept None = refl
    kept (Some j) = refl

    stays : (o : Option ℕ) → is_some o ≡ true → o ≡ or_place o true k
    stays None e = wrong e
    stays (Some j) e = refl

    go : (b : Bool) → bytes_eq m n ≡ b → lookup (bytes_eq n) old ≡ or_place (lookup (bytes_eq n) old) (equal_names m n) k
    go true t = stays (lookup (bytes_eq n) old) (ap (λ q. is_some (lookup (bytes_eq q) old)) (sym ((bytes_eq-Decides m n).0 t)) ∙ some) ∙ ap (λ b. or_place (lookup (bytes_eq n) old) b k) (sym t ∙ bytes_eq-names m n)
    go false f = kept (lookup (bytes_eq n) old) ∙ ap (λ b. or_place (lookup (bytes_eq n) old) b k) (sym f ∙ bytes_eq-names m n)
