-- Names that were seen.
use Rattle.std.proofs.Common.{◌≡◌, ◌∙◌, ◌++◌, sym, ap, refl, true, false, ◌||◌, ◌<◌, ◌+◌, ℕ, suc, add-one, get_or, drop, drop-cons, length, List, [], ◌∷◌, Bool}
use Rattle.std.specs.List.{list_any}
use Rattle.std.specs.Prelude.{reverse}
use Rattle.std.specs.Str.{bytes_eq}
use Rattle.std.proofs.lemmas.List.{reverse-append}
use Rattle.ft_items.specs.Item.{Name}
use Rattle.ft_items.specs.Good.{equal_names}
use Rattle.ft_items.proofs.Names.{bytes_eq-names}
use Rattle.ft_meaning.specs.Names.{is_among}
use Rattle.ft_types.specs.Checking.{last_first}

pub last_seen : (ns : List Name) (n : Name) → last_first (ns ++ n ∷ []) ≡ n ∷ last_first ns
last_seen ns n = reverse-append ns (n ∷ [])

any_last : (f : Name → Bool) (ns : List Name) (n : Name) → list_any f (ns ++ n ∷ []) ≡ (f n || list_any f ns)
any_last f [] n = refl
any_last f (m ∷ ns) n = ap (λ b. f m || b) (any_last f ns n) ∙ swap (f m) (f n) (list_any f ns)
  where
    swap : (a b c : Bool) → (a || (b || c)) ≡ (b || (a || c))
    swap true true c = refl
    swap true false c = refl
    swap false true c = refl
    swap false false c = refl

any_reverse : (f : Name → Bool) (ns : List Name) → list_any f (reverse ns) ≡ list_any f ns
any_reverse f [] = refl
any_reverse f (n ∷ ns) = ap (list_any f) (reverse-append (n ∷ []) ns) ∙ any_last f (reverse ns) n ∙ ap (λ b. f n || b) (any_reverse f ns)

pub seen_or_not : (ns : List Name) (n : Name) → is_among (last_first ns) n ≡ is_among ns n
seen_or_not ns n = any_reverse (equal_names n) ns

among_at : (ns : List Name) (i : ℕ) (m n : Name) → m ≡ get_or ns i m → i < length ns → is_among (drop i ns) n ≡ (equal_names n m || is_among (drop (i + 1) ns) n)
among_at ns i m n is l =
    ap (λ x. is_among x n) (drop-cons ns i m l) ∙ ap (λ x. equal_names n x || is_among (drop (suc i) ns) n) (sym is)
    ∙ ap (λ k. equal_names n m || is_among (drop k ns) n) (sym (add-one i))

pub found_at : (ns : List Name) (i : ℕ) (m n : Name) → m ≡ get_or ns i m → i < length ns → bytes_eq n m ≡ true → true ≡ is_among (drop i ns) n
found_at ns i m n is l e = sym (among_at ns i m n is l ∙ ap (λ b. b || is_among (drop (i + 1) ns) n) (sym (bytes_eq-names n m) ∙ e))

pub other_at : (ns : List Name) (i : ℕ) (m n : Name) → m ≡ get_or ns i m → i < length ns → bytes_eq n m ≡ false → is_among (drop (i + 1) ns) n ≡ is_among (drop i ns) n
other_at ns i m n is l e = sym (among_at ns i m n is l ∙ ap (λ b. b || is_among (drop (i + 1) ns) n) (sym (bytes_eq-names n m) ∙ e))
