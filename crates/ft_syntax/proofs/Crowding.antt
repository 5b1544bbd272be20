-- What is found in the map of rows without a mark, where a row is added.
use Rattle.std.proofs.Common.{◌≡◌, ◌≢◌, ℕ, Bool, true, false, cond, Option, Some, None, List, [], ◌∷◌, refl, sym, ap, ◌∙◌, subst}
use Rattle.std.specs.Global.{Vec}
use Rattle.std.specs.declared.cmp.Ordering.{Ordering}
use Rattle.std.specs.declared.cmp.Ordering.TheVariants.{Less, Equal, Greater}
use Rattle.std.specs.Map.{lookup}
use Rattle.std.specs.Ordering.{is_eq, nat_cmp, match_ordering}
use Rattle.std.specs.BTreeMap.{insert_entry}
use Rattle.std.specs.Cmp.Lexicographic.{slice_cmp}
use Rattle.std.proofs.lemmas.Map.Text.{is_eq-slice_cmp}
use Rattle.std.proofs.lemmas.Slice.Eq.{bytes_eq-Decides}
use Rattle.ft_syntax.specs.Chains.{KeepsOthers}
use Rattle.ft_syntax.specs.declared.crowded.Crowded.{Crowded}

abbrev Entries : Type 0
Entries = List (Vec ℕ × ℕ)

abbrev is_key : List ℕ → Vec ℕ → Bool
is_key ks k = is_eq (slice_cmp nat_cmp ks k.items)

abbrev by_words : Vec ℕ → Vec ℕ → Ordering
by_words k j = slice_cmp nat_cmp k.items j.items

same_words : (ks js : List ℕ) → is_eq (slice_cmp nat_cmp ks js) ≡ true → ks ≡ js
same_words ks js h = (bytes_eq-Decides ks js).0 (sym (is_eq-slice_cmp ks js) ∙ h)

-- a key that is not the one that is put has what it had
entries_others : (es : Entries) (k : Vec ℕ) (v : ℕ) (ks : List ℕ) → ks ≢ k.items → lookup (is_key ks) (insert_entry by_words es k v) ≡ lookup (is_key ks) es
entries_others [] k v ks n = other (is_key ks k) refl
  where
    other : (b : Bool) → b ≡ is_key ks k → cond b (Some v) None ≡ None
    other true h = absurd (n (same_words ks k.items (sym h)))
    other false h = refl
entries_others (e ∷ es) k v ks n = go (entries_others es k v ks n) (by_words k e.0) refl
  where
    skip : (b : Bool) (r : Option ℕ) → b ≡ is_key ks k → cond b (Some v) r ≡ r
    skip true r h = absurd (n (same_words ks k.items (sym h)))
    skip false r h = refl

    missed : (b : Bool) → b ≡ is_key ks e.0 → by_words k e.0 ≡ Equal → b ≡ false
    missed true h g = absurd (n (same_words ks e.0.items (sym h) ∙ sym (same_words k.items e.0.items (ap is_eq g))))
    missed false h g = refl

    at : (r : Ordering) → List (Vec ℕ × ℕ)
    at r = match_ordering r ((k, v) ∷ e ∷ es) ((e.0, v) ∷ es) (e ∷ insert_entry by_words es k v)

    go : lookup (is_key ks) (insert_entry by_words es k v) ≡ lookup (is_key ks) es → (r : Ordering) → r ≡ by_words k e.0 → lookup (is_key ks) (at r) ≡ lookup (is_key ks) (e ∷ es)
    go m Less h = skip (is_key ks k) (lookup (is_key ks) (e ∷ es)) refl
    go m Equal h =
        let f : is_key ks e.0 ≡ false = missed (is_key ks e.0) refl (sym h) in
        ap (λ b. cond b (Some v) (lookup (is_key ks) es)) f ∙ sym (ap (λ b. cond b (Some e.1) (lookup (is_key ks) es)) f)
    go m Greater h = ap (λ r. cond (is_key ks e.0) (Some e.1) r) m

place_others : (es now : Entries) (k : Vec ℕ) (v : ℕ) (ks : List ℕ) → now ≡ insert_entry by_words es k v → ks ≢ k.items → lookup (is_key ks) now ≡ lookup (is_key ks) es
place_others es now k v ks h n = ap (lookup (is_key ks)) h ∙ entries_others es k v ks n

pub put_keeps : (c d : Crowded) (k : Vec ℕ) (v : ℕ) → d.places.entries ≡ insert_entry by_words c.places.entries k v → KeepsOthers c d k.items
put_keeps c d k v h = record { same = λ ks n. place_others c.places.entries d.places.entries k v ks h n }

pub unput_keeps : (c d : Crowded) (k : Vec ℕ) → d.places.entries ≡ c.places.entries → KeepsOthers c d k.items
unput_keeps c d k h = record { same = λ ks n. ap (lookup (is_key ks)) h }

pub keeps_same : (c : Crowded) (ks : List ℕ) → KeepsOthers c c ks
keeps_same c ks = record { same = λ js n. refl }

pub keeps_as : (c d : Crowded) (js ks : List ℕ) → KeepsOthers c d js → js ≡ ks → KeepsOthers c d ks
keeps_as c d js ks k h = subst (KeepsOthers c d) h k
