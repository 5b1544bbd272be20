-- What a list tells as it goes on, and the steps of its items.
use Rattle.std.proofs.Common.{◌≡◌, ◌∙◌, sym, ap, refl, List, [], ◌∷◌, ◌++◌, map, append_assoc, append-nil, ℕ}
use Rattle.ft_items.specs.Item.{Name, Entry, Item, metavariable, entry}
use Rattle.ft_items.specs.Store.{Store, add, add_all, empty_store, store_of}
use Rattle.ft_applications_meaning.specs.Histories.{told_by, told_from, told}
use Rattle.ft_run.specs.Steps.{IsOfApplications, AllOfApplications}

told_append : (W : Store) (xs ys : List Item) → told_from W (xs ++ ys) ≡ told_from W xs ++ told_from (add_all W xs) ys
told_append W [] ys = refl
told_append W (x ∷ xs) ys = ap (λ ts. told_by W x ++ ts) (told_append (add W x) xs ys) ∙ sym (append_assoc (told_by W x) (told_from (add W x) xs) (told_from (add_all (add W x) xs) ys))

-- one more item
pub told_last : (items : List Item) (i : Item) → told (items ++ i ∷ []) ≡ told items ++ told_by (store_of items) i
told_last items i = told_append empty_store items (i ∷ []) ∙ ap (λ ts. told items ++ ts) (append-nil (told_by (store_of items) i))

entries_tell : (W : Store) (es : List Entry) → told_from W (map entry es) ≡ []
entries_tell W [] = refl
entries_tell W (e ∷ es) = entries_tell (add W (entry e)) es

-- entries tell nothing
pub told_entries : (items : List Item) (es : List Entry) → told (items ++ map entry es) ≡ told items
told_entries items es = told_append empty_store items (map entry es) ∙ ap (λ ts. told items ++ ts) (entries_tell (store_of items) es) ∙ append-nil (told items)

-- a metavariable tells nothing
pub told_metavariable : (items : List Item) (n : Name) (b : ℕ) → told (items ++ metavariable n b ∷ []) ≡ told items
told_metavariable items n b = told_last items (metavariable n b) ∙ append-nil (told items)

-- one more item of this language
pub steps_last : (items : List Item) (i : Item) → AllOfApplications items → IsOfApplications i → AllOfApplications (items ++ i ∷ [])
steps_last [] i h k = (k, tt)
steps_last (x ∷ items) i h k = (h.0, steps_last items i h.1 k)
