-- The first place of a name.
use Rattle.std.proofs.Common.{◌≡◌, ℕ, suc, Bool, true, false, cond, Option, Some, None, List, [], ◌∷◌, ◌++◌, refl, sym, ap, ◌∙◌, length, ◌&&◌}
use Rattle.std.specs.Prelude.{option_map, is_none, not}
use Rattle.ft_items.specs.Item.{Name}
use Rattle.ft_items.specs.Good.{equal_names, is_new}
use Rattle.ft_items.proofs.Names.{same_name}
use Rattle.ft_items.proofs.SetLemmas.{both, not_true}
use Rattle.ft_kernel.specs.State.{place_of_name}

-- a new name has the place after the names before it
pub place_last : (ns : List Name) (m n : Name) → is_new ns m ≡ true → place_of_name (ns ++ m ∷ []) n ≡ cond (equal_names m n) (Some (length ns)) (place_of_name ns n)
place_last [] m n h = refl
place_last (k ∷ ns) m n h =
    let parts : (not (equal_names k m) ≡ true) × (is_new ns m ≡ true) = both (not (equal_names k m)) (is_new ns m) h in
    ap (λ o. cond (equal_names k n) (Some 0) (option_map suc o)) (place_last ns m n parts.1) ∙ go (equal_names m n) refl (not_true (equal_names k m) parts.0)
  where
    go : (b : Bool) → equal_names m n ≡ b → equal_names k m ≡ false
        → cond (equal_names k n) (Some 0) (option_map suc (cond b (Some (length ns)) (place_of_name ns n))) ≡ cond b (Some (suc (length ns))) (cond (equal_names k n) (Some 0) (option_map suc (place_of_name ns n)))
    go true t f = ap (λ b. cond b (Some 0) (Some (suc (length ns)))) (ap (equal_names k) (sym (same_name m n t)) ∙ f)
    go false t f = refl

-- no place is found exactly where the name is new
pub fresh_name : (ns : List Name) (n : Name) → is_none (place_of_name ns n) ≡ is_new ns n
fresh_name [] n = refl
fresh_name (m ∷ ns) n = go (equal_names m n) ∙ ap (λ b. not (equal_names m n) && b) (fresh_name ns n)
  where
    none : (o : Option ℕ) → is_none (option_map suc o) ≡ is_none o
    none None = refl
    none (Some j) = refl

    go : (b : Bool) → is_none (cond b (Some 0) (option_map suc (place_of_name ns n))) ≡ (not b && is_none (place_of_name ns n))
    go true = refl
    go false = none (place_of_name ns n)
