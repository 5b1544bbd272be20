-- Rows and their values.
use Rattle.std.proofs.Common.{◌≡◌, ◌≤◌, ◌<◌, ◌+◌, ◌∙◌, ◌++◌, sym, ap, ap₂, refl, subst, zero, suc, ℕ, List, [], ◌∷◌, length, Some, inl, inr, arith, ◌⊎◌}
use Rattle.std.specs.Prelude.{slice_index_or, slice_get}
use Rattle.std.proofs.lemmas.Option.{slice_get-get_or}
use Rattle.std.proofs.lemmas.List.{length-append}
use Rattle.std.proofs.Math.ListN.{get_or-append}
use Rattle.std.proofs.Math.Seq.{get_or-append_seam}
use Rattle.ft_values.specs.Kept.{Kept, unit, pair, cons, some}
use Rattle.ft_values.specs.declared.values.Value.{Value}
use Rattle.ft_values.specs.declared.values.Value.TheVariants as value
use Rattle.ft_values.specs.declared.values.Row.{Row}
use Rattle.ft_values.specs.declared.values.Row.TheVariants as row
use Rattle.ft_values.specs.Rows.{kept_in, Below, kept_at, kept_after, kept_of, FitsBelow, AllFit, rank}

-- ---- known values over tables that go on

pub below_more : (m n : ℕ) (v : Value) → m ≤ n → Below m v → Below n v
below_more m n value.Unit l h = tt
below_more m n (value.Truth b) l h = tt
below_more m n value.Nil l h = tt
below_more m n value.NoneValue l h = tt
below_more m n (value.At k) l h = omega arith

pub below_less : (m n : ℕ) (v : Value) → Below m v → m < n → Below n v
below_less m n v h l = below_more m n v (omega arith) h

-- a value that names one of the first rows has no higher rank
rank_most : (n : ℕ) (v : Value) → Below n v → rank v ≤ n
rank_most n value.Unit h = omega arith
rank_most n (value.Truth b) h = omega arith
rank_most n value.Nil h = omega arith
rank_most n value.NoneValue h = omega arith
rank_most n (value.At k) h = omega arith

pub rank_less : (n : ℕ) (v : Value) → Below n v → rank v < suc n
rank_less n v h = let l : rank v ≤ n = rank_most n v h in omega arith

pub kept_same : (ks ls : List Kept) (v : Value) → ((n : ℕ) → n < length ks → slice_index_or ls n unit ≡ slice_index_or ks n unit)
    → Below (length ks) v → kept_in ls v ≡ kept_in ks v
kept_same ks ls value.Unit keep h = refl
kept_same ks ls (value.Truth b) keep h = refl
kept_same ks ls value.Nil keep h = refl
kept_same ks ls value.NoneValue keep h = refl
kept_same ks ls (value.At k) keep h = keep k h

same_parts : (ks ls : List Kept) (r : Row) → FitsBelow (length ks) r
    → ((n : ℕ) → n < length ks → slice_index_or ls n unit ≡ slice_index_or ks n unit) → kept_at ls r ≡ kept_at ks r
same_parts ks ls (row.Judgement j) fits keep = refl
same_parts ks ls (row.Boundary b) fits keep = refl
same_parts ks ls (row.Pair a b) fits keep = ap₂ pair (kept_same ks ls a keep fits.0) (kept_same ks ls b keep fits.1)
same_parts ks ls (row.Cons a b) fits keep = ap₂ cons (kept_same ks ls a keep fits.0) (kept_same ks ls b keep fits.1)
same_parts ks ls (row.SomeValue a) fits keep = ap some (kept_same ks ls a keep fits)

-- ---- rows in turn

-- one more row
pub kept_more : (ks : List Kept) (rs : List Row) (r : Row) → kept_after ks (rs ++ r ∷ []) ≡ kept_after ks rs ++ kept_at (kept_after ks rs) r ∷ []
kept_more ks [] r = refl
kept_more ks (x ∷ rs) r = kept_more (ks ++ kept_at ks x ∷ []) rs r

kept_length : (ks : List Kept) (rs : List Row) → length (kept_after ks rs) ≡ length ks + length rs
kept_length ks [] = omega arith
kept_length ks (x ∷ rs) = omega (arith, kept_length (ks ++ kept_at ks x ∷ []) rs, length-append ks (kept_at ks x ∷ []))

-- the values so far stay
kept_keep : (ks : List Kept) (rs : List Row) (n : ℕ) → n < length ks → slice_index_or (kept_after ks rs) n unit ≡ slice_index_or ks n unit
kept_keep ks [] n h = refl
kept_keep ks (x ∷ rs) n h =
    kept_keep (ks ++ kept_at ks x ∷ []) rs n (omega (arith, length-append ks (kept_at ks x ∷ [])))
    ∙ get_or-append ks (kept_at ks x ∷ []) unit n h

row_value : (ks : List Kept) (rs : List Row) (k : ℕ) (r : Row) → slice_get rs k ≡ Some r → FitsBelow (length ks + k) r
    → slice_index_or (kept_after ks rs) (length ks + k) unit ≡ kept_at (kept_after ks rs) r
row_value ks [] k r h fits = cc
row_value ks (x ∷ rs) zero r h fits =
    let t = kept_at ks x in
    let ls = ks ++ t ∷ [] in
    let same : Some x ≡ Some r = h in
    let here : x ≡ r = cc in
    let len : length ls ≡ length ks + 1 = length-append ks (t ∷ []) in
    let place : length ks + 0 ≡ length ks = omega arith in
    ap (λ n. slice_index_or (kept_after ls rs) n unit) place
    ∙ kept_keep ls rs (length ks) (omega arith)
    ∙ get_or-append_seam ks t [] unit
    ∙ sym (same_parts ks (kept_after ls rs) x (subst (λ r. FitsBelow (length ks) r) (sym here) (subst (λ n. FitsBelow n r) place fits))
    (λ n lt. kept_keep ls rs n (omega arith) ∙ get_or-append ks (t ∷ []) unit n lt))
    ∙ ap (kept_at (kept_after ls rs)) here
row_value ks (x ∷ rs) (suc k) r h fits =
    let ls = ks ++ kept_at ks x ∷ [] in
    let len : length ls ≡ length ks + 1 = length-append ks (kept_at ks x ∷ []) in
    let place : length ls + k ≡ length ks + suc k = omega arith in
    subst (λ n. slice_index_or (kept_after ls rs) n unit ≡ kept_at (kept_after ls rs) r) place
    (row_value ls rs k r h (subst (λ n. FitsBelow n r) (sym place) fits))

-- ---- one more row fits

get_either : {X : Type 0} (xs : List X) (x y : X) (k : ℕ) → slice_get (xs ++ x ∷ []) k ≡ Some y → ((k < length xs) × (slice_get xs k ≡ Some y)) ⊎ ((k ≡ length xs) × (x ≡ y))
get_either [] x y zero h = let same : Some x ≡ Some y = h in inr (refl, cc)
get_either [] x y (suc k) h = cc
get_either (z ∷ xs) x y zero h = inl (omega arith, h)
get_either (z ∷ xs) x y (suc k) h = elim (get_either xs x y k h) [ inl g ↦ inl (omega (arith, g.0), g.1) | inr g ↦ inr (omega (arith, g.0), g.1) ]

pub fit_push : (rows : List Row) (r : Row) → AllFit rows → FitsBelow (length rows) r → AllFit (rows ++ r ∷ [])
fit_push rows r fit fits k s h = elim (get_either rows r s k h) [
  | inl g ↦ fit k s g.1
  | inr g ↦ subst (λ n. FitsBelow n s) (sym g.0) (subst (FitsBelow (length rows)) g.1 fits)
]

fits_more : (m n : ℕ) (r : Row) → m ≤ n → FitsBelow m r → FitsBelow n r
fits_more m n (row.Judgement j) l h = tt
fits_more m n (row.Boundary b) l h = tt
fits_more m n (row.Pair a b) l h = (below_more m n a l h.0, below_more m n b l h.1)
fits_more m n (row.Cons a b) l h = (below_more m n a l h.0, below_more m n b l h.1)
fits_more m n (row.SomeValue a) l h = below_more m n a l h

pub fits_less : (m n : ℕ) (r : Row) → FitsBelow m r → m < n → FitsBelow n r
fits_less m n r h l = fits_more m n r (omega arith) h

-- ---- places and values

pub kept_len : (rows : List Row) → length (kept_of rows) ≡ length rows
kept_len rows = omega (arith, kept_length [] rows)

-- the value that a row has
value_of_row : (rows : List Row) (k : ℕ) (r : Row) → AllFit rows → slice_get rows k ≡ Some r
    → kept_in (kept_of rows) (value.At k) ≡ kept_at (kept_of rows) r
value_of_row rows k r fit h =
    let zero-plus : 0 + k ≡ k = omega arith in
    subst (λ n. slice_index_or (kept_of rows) n unit ≡ kept_at (kept_of rows) r) zero-plus
    (row_value [] rows k r h (subst (λ n. FitsBelow n r) (sym zero-plus) (fit k r h)))

pub row_made : (rows : List Row) (r : Row)
    → (length rows < length (kept_of (rows ++ r ∷ []))) × (kept_in (kept_of (rows ++ r ∷ [])) (value.At (length rows)) ≡ kept_at (kept_of rows) r)
row_made rows r =
    let more = kept_more [] rows r in
    let last = get_or-append_seam (kept_of rows) (kept_at (kept_of rows) r) [] unit in (
      omega (arith, kept_len (rows ++ r ∷ []), length-append rows (r ∷ [])),
      ap (λ ks. slice_index_or ks (length rows) unit) more ∙ ap (λ n. slice_index_or (kept_of rows ++ kept_at (kept_of rows) r ∷ []) n unit) (sym (kept_len rows)) ∙ last,
    )

-- what the rows have at a place
pub row_at : (rows : List Row) (k : ℕ) (d : Row) → AllFit rows → k < length rows
    → (FitsBelow k (slice_index_or rows k d))
    × (kept_at (kept_of rows) (slice_index_or rows k d) ≡ kept_in (kept_of rows) (value.At k))
row_at rows k d fit lt =
    let r = slice_index_or rows k d in
    let here = slice_get-get_or rows k d lt in
    (fit k r here, sym (value_of_row rows k r fit here))
