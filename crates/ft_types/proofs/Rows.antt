-- Rows and their types.
use Rattle.std.proofs.Common.{◌≡◌, ◌≤◌, ◌<◌, ◌+◌, ◌∙◌, ◌++◌, sym, ap, ap₂, refl, subst, zero, suc, ℕ, List, [], ◌∷◌, length, Some, None, inl, inr, arith, ◌⊎◌}
use Rattle.std.specs.Prelude.{slice_index_or, slice_get, Bool, true, false, cond}
use Rattle.std.specs.Map.{lookup}
use Rattle.std.proofs.lemmas.Option.{slice_get_within, slice_get-get_or}
use Rattle.std.proofs.lemmas.List.{length-append}
use Rattle.std.proofs.Math.ListN.{get_or-append}
use Rattle.std.proofs.Math.Seq.{get_or-append_seam}
use Rattle.ft_meaning.specs.Trees.{ValueType, judgement, boundary, unit, bool, pair, list, option}
use Rattle.ft_types.specs.declared.types.KnownType.{KnownType}
use Rattle.ft_types.specs.declared.types.KnownType.TheVariants as known
use Rattle.ft_types.specs.declared.types.Row.{Row}
use Rattle.ft_types.specs.declared.types.Row.TheVariants as row
use Rattle.ft_types.specs.Types.{type_in, Below, type_at, types_after, types_of, FitsBelow, AllFit, same_row, IsTable}

-- ---- known types over tables that go on

pub below_more : (m n : ℕ) (t : KnownType) → m ≤ n → Below m t → Below n t
below_more m n known.Judgement l h = tt
below_more m n known.Boundary l h = tt
below_more m n known.Unit l h = tt
below_more m n known.Bool l h = tt
below_more m n (known.Compound k) l h = omega arith

pub type_kept : (ts us : List ValueType) (t : KnownType) → ((n : ℕ) → n < length ts → slice_index_or us n judgement ≡ slice_index_or ts n judgement)
    → Below (length ts) t → type_in us t ≡ type_in ts t
type_kept ts us known.Judgement keep h = refl
type_kept ts us known.Boundary keep h = refl
type_kept ts us known.Unit keep h = refl
type_kept ts us known.Bool keep h = refl
type_kept ts us (known.Compound k) keep h = keep k h

pub same_parts : (ts us : List ValueType) (r : Row) → FitsBelow (length ts) r
    → ((n : ℕ) → n < length ts → slice_index_or us n judgement ≡ slice_index_or ts n judgement) → type_at us r ≡ type_at ts r
same_parts ts us (row.Pair a b) fits keep = ap₂ pair (type_kept ts us a keep fits.0) (type_kept ts us b keep fits.1)
same_parts ts us (row.List a) fits keep = ap list (type_kept ts us a keep fits)
same_parts ts us (row.Opt a) fits keep = ap option (type_kept ts us a keep fits)

-- ---- rows in turn

-- one more row
pub types_more : (ts : List ValueType) (rs : List Row) (r : Row) → types_after ts (rs ++ r ∷ []) ≡ types_after ts rs ++ type_at (types_after ts rs) r ∷ []
types_more ts [] r = refl
types_more ts (x ∷ rs) r = types_more (ts ++ type_at ts x ∷ []) rs r

pub types_length : (ts : List ValueType) (rs : List Row) → length (types_after ts rs) ≡ length ts + length rs
types_length ts [] = omega arith
types_length ts (x ∷ rs) = omega (arith, types_length (ts ++ type_at ts x ∷ []) rs, length-append ts (type_at ts x ∷ []))

-- the types so far stay
pub types_keep : (ts : List ValueType) (rs : List Row) (n : ℕ) → n < length ts → slice_index_or (types_after ts rs) n judgement ≡ slice_index_or ts n judgement
types_keep ts [] n h = refl
types_keep ts (x ∷ rs) n h =
    types_keep (ts ++ type_at ts x ∷ []) rs n (omega (arith, length-append ts (type_at ts x ∷ [])))
    ∙ get_or-append ts (type_at ts x ∷ []) judgement n h

pub row_type : (ts : List ValueType) (rs : List Row) (k : ℕ) (r : Row) → slice_get rs k ≡ Some r → FitsBelow (length ts + k) r
    → slice_index_or (types_after ts rs) (length ts + k) judgement ≡ type_at (types_after ts rs) r
row_type ts [] k r h fits = cc
row_type ts (x ∷ rs) zero r h fits =
    let t = type_at ts x in
    let us = ts ++ t ∷ [] in
    let same : Some x ≡ Some r = h in
    let here : x ≡ r = cc in
    let len : length us ≡ length ts + 1 = length-append ts (t ∷ []) in
    let place : length ts + 0 ≡ length ts = omega arith in
    ap (λ n. slice_index_or (types_after us rs) n judgement) place
    ∙ types_keep us rs (length ts) (omega arith)
    ∙ get_or-append_seam ts t [] judgement
    ∙ sym (same_parts ts (types_after us rs) x (subst (λ r. FitsBelow (length ts) r) (sym here) (subst (λ n. FitsBelow n r) place fits))
    (λ n lt. types_keep us rs n (omega arith) ∙ get_or-append ts (t ∷ []) judgement n lt))
    ∙ ap (type_at (types_after us rs)) here
row_type ts (x ∷ rs) (suc k) r h fits =
    let us = ts ++ type_at ts x ∷ [] in
    let len : length us ≡ length ts + 1 = length-append ts (type_at ts x ∷ []) in
    let place : length us + k ≡ length ts + suc k = omega arith in
    subst (λ n. slice_index_or (types_after us rs) n judgement ≡ type_at (types_after us rs) r) place
    (row_type us rs k r h (subst (λ n. FitsBelow n r) (sym place) fits))

-- ---- rows that are the same

pub exact_row : (r s : Row) → same_row r s ≡ true → r ≡ s
exact_row (row.Pair a b) (row.Pair c d) h = let e : (a ≡ c) × (b ≡ d) = grind arith in ap₂ (λ a b. row.Pair a b) e.0 e.1
exact_row (row.Pair a b) (row.List c) h = cc
exact_row (row.Pair a b) (row.Opt c) h = cc
exact_row (row.List a) (row.Pair c d) h = cc
exact_row (row.List a) (row.List c) h = let e : a ≡ c = grind arith in ap (λ a. row.List a) e
exact_row (row.List a) (row.Opt c) h = cc
exact_row (row.Opt a) (row.Pair c d) h = cc
exact_row (row.Opt a) (row.List c) h = cc
exact_row (row.Opt a) (row.Opt c) h = let e : a ≡ c = grind arith in ap (λ a. row.Opt a) e

pub self_row : (r : Row) → same_row r r ≡ true
self_row (row.Pair a b) = grind arith
self_row (row.List a) = grind arith
self_row (row.Opt a) = grind arith

-- ---- one more element

pub get_before : {X : Type 0} (xs : List X) (x : X) (k : ℕ) → k < length xs → slice_get (xs ++ x ∷ []) k ≡ slice_get xs k
get_before [] x k h = absurd (omega arith)
get_before (y ∷ xs) x zero h = refl
get_before (y ∷ xs) x (suc k) h = get_before xs x k (omega arith)

pub get_last : {X : Type 0} (xs : List X) (x : X) → slice_get (xs ++ x ∷ []) (length xs) ≡ Some x
get_last [] x = refl
get_last (y ∷ xs) x = get_last xs x

pub get_either : {X : Type 0} (xs : List X) (x y : X) (k : ℕ) → slice_get (xs ++ x ∷ []) k ≡ Some y → ((k < length xs) × (slice_get xs k ≡ Some y)) ⊎ ((k ≡ length xs) × (x ≡ y))
get_either [] x y zero h = let same : Some x ≡ Some y = h in inr (refl, cc)
get_either [] x y (suc k) h = cc
get_either (z ∷ xs) x y zero h = inl (omega arith, h)
get_either (z ∷ xs) x y (suc k) h = elim (get_either xs x y k h) [ inl g ↦ inl (omega (arith, g.0), g.1) | inr g ↦ inr (omega (arith, g.0), g.1) ]

-- ---- the table with one more row

pub fits_more : (m n : ℕ) (r : Row) → m ≤ n → FitsBelow m r → FitsBelow n r
fits_more m n (row.Pair a b) l h = (below_more m n a l h.0, below_more m n b l h.1)
fits_more m n (row.List a) l h = below_more m n a l h
fits_more m n (row.Opt a) l h = below_more m n a l h

pub table_push : (rows : List Row) (places places2 : List (Row × ℕ)) (r : Row) → IsTable rows places → FitsBelow (length rows) r
    → lookup (same_row r) places ≡ None → ((q : Row) → lookup (same_row q) places2 ≡ cond (same_row r q) (Some (length rows)) (lookup (same_row q) places))
    → IsTable (rows ++ r ∷ []) places2
table_push rows places places2 r table fits none updates = record {
  fits = λ k s h. elim (get_either rows r s k h) [
    | inl g ↦ table.fits k s g.1
    | inr g ↦ subst (λ n. FitsBelow n s) (sym g.0) (subst (FitsBelow (length rows)) g.1 fits)
  ];
  here = λ k s h. elim (get_either rows r s k h) [
    | inl g ↦ updates s ∙ old s k (same_row r s) refl g.1
    | inr g ↦ updates s ∙ rw (← g.1, self_row r, g.0) refl
  ];
  there = λ k s h. new s k (same_row r s) refl (sym (updates s) ∙ h);
}
  where
    old : (s : Row) (k : ℕ) (b : Bool) → same_row r s ≡ b → slice_get rows k ≡ Some s → cond b (Some (length rows)) (lookup (same_row s) places) ≡ Some k
    old s k false e g = table.here k s g
    old s k true e g =
        let is : r ≡ s = exact_row r s e in
        let bad : None ≡ Some k = sym none ∙ table.here k r (subst (λ s. slice_get rows k ≡ Some s) (sym is) g) in
        cc

    new : (s : Row) (k : ℕ) (b : Bool) → same_row r s ≡ b → cond (same_row r s) (Some (length rows)) (lookup (same_row s) places) ≡ Some k → slice_get (rows ++ r ∷ []) k ≡ Some s
    new s k false e g =
        let was : slice_get rows k ≡ Some s = table.there k s (rw e at g) in
        get_before rows r k (slice_get_within rows k s was) ∙ was
    new s k true e g =
        let at : Some (length rows) ≡ Some k = rw e at g in
        let n : length rows ≡ k = cc in
        subst (λ n. slice_get (rows ++ r ∷ []) n ≡ Some s) n (get_last rows r ∙ ap (λ s. Some s) (exact_row r s e))

-- ---- places and types

pub types_len : (rows : List Row) → length (types_of rows) ≡ length rows
types_len rows = omega (arith, types_length [] rows)

-- the type that a row has
pub type_of_row : (rows : List Row) (k : ℕ) (r : Row) → AllFit rows → slice_get rows k ≡ Some r
    → type_in (types_of rows) (known.Compound k) ≡ type_at (types_of rows) r
type_of_row rows k r fit h =
    let zero-plus : 0 + k ≡ k = omega arith in
    subst (λ n. slice_index_or (types_of rows) n judgement ≡ type_at (types_of rows) r) zero-plus
    (row_type [] rows k r h (subst (λ n. FitsBelow n r) (sym zero-plus) (fit k r h)))

pub row_found : (rows : List Row) (places : List (Row × ℕ)) (r : Row) (n : ℕ) → IsTable rows places → lookup (same_row r) places ≡ Some n
    → (n < length (types_of rows)) × (type_in (types_of rows) (known.Compound n) ≡ type_at (types_of rows) r)
row_found rows places r n table h =
    let here = table.there n r h in
    (omega (arith, types_len rows, slice_get_within rows n r here), type_of_row rows n r table.fits here)

pub row_made : (rows : List Row) (r : Row)
    → (length rows < length (types_of (rows ++ r ∷ []))) × (type_in (types_of (rows ++ r ∷ [])) (known.Compound (length rows)) ≡ type_at (types_of rows) r)
row_made rows r =
    let more = types_more [] rows r in
    let last = get_or-append_seam (types_of rows) (type_at (types_of rows) r) [] judgement in (
      omega (arith, types_len (rows ++ r ∷ []), length-append rows (r ∷ [])),
      ap (λ ts. slice_index_or ts (length rows) judgement) more ∙ ap (λ n. slice_index_or (types_of rows ++ type_at (types_of rows) r ∷ []) n judgement) (sym (types_len rows)) ∙ last,
    )

-- what the rows have at a place
pub row_at : (rows : List Row) (k : ℕ) (d : Row) → AllFit rows → k < length rows
    → (FitsBelow k (slice_index_or rows k d))
    × (type_at (types_of rows) (slice_index_or rows k d) ≡ type_in (types_of rows) (known.Compound k))
row_at rows k d fit lt =
    let r = slice_index_or rows k d in
    let here = slice_get-get_or rows k d lt in
    (fit k r here, sym (type_of_row rows k r fit here))

-- what a table has at a place
pub table_row_at : (rows : List Row) (places : List (Row × ℕ)) (k : ℕ) (d : Row) → IsTable rows places → k < length rows
    → (FitsBelow k (slice_index_or rows k d))
    × (type_at (types_of rows) (slice_index_or rows k d) ≡ type_in (types_of rows) (known.Compound k))
table_row_at rows places k d table lt = row_at rows k d table.fits lt

-- ---- equal types stand at one place

abbrev is_compound : ValueType → Bool
is_compound judgement = false
is_compound boundary = false
is_compound unit = false
is_compound bool = false
is_compound (pair A B) = true
is_compound (list A) = true
is_compound (option A) = true

compound_row : (ts : List ValueType) (r : Row) → is_compound (type_at ts r) ≡ true
compound_row ts (row.Pair a b) = refl
compound_row ts (row.List a) = refl
compound_row ts (row.Opt a) = refl

-- each row has a type with parts
AreCompound : List ValueType → ℕ → Type 0
AreCompound ts n = (k : ℕ) → k < n → is_compound (slice_index_or ts k judgement) ≡ true

-- places before the first i are told apart from all by their types
AreApart : List ValueType → ℕ → ℕ → Type 0
AreApart ts i n = (a b : ℕ) → a < i → b < n → slice_index_or ts a judgement ≡ slice_index_or ts b judgement → a ≡ b

known_by_type : (ts : List ValueType) (i n : ℕ) (s t : KnownType) → i ≤ n → Below i s → Below n t → AreCompound ts n → AreApart ts i n → type_in ts s ≡ type_in ts t → s ≡ t
unfolding AreCompound AreApart
known_by_type ts i n known.Judgement known.Judgement l bs bt has small h = refl
known_by_type ts i n known.Judgement known.Boundary l bs bt has small h = cc
known_by_type ts i n known.Judgement known.Unit l bs bt has small h = cc
known_by_type ts i n known.Judgement known.Bool l bs bt has small h = cc
known_by_type ts i n known.Judgement (known.Compound k) l bs bt has small h = let c : is_compound (slice_index_or ts k judgement) ≡ true = has k bt in let f : false ≡ is_compound (slice_index_or ts k judgement) = ap is_compound h in cc
known_by_type ts i n known.Boundary known.Judgement l bs bt has small h = cc
known_by_type ts i n known.Boundary known.Boundary l bs bt has small h = refl
known_by_type ts i n known.Boundary known.Unit l bs bt has small h = cc
known_by_type ts i n known.Boundary known.Bool l bs bt has small h = cc
known_by_type ts i n known.Boundary (known.Compound k) l bs bt has small h = let c : is_compound (slice_index_or ts k judgement) ≡ true = has k bt in let f : false ≡ is_compound (slice_index_or ts k judgement) = ap is_compound h in cc
known_by_type ts i n known.Unit known.Judgement l bs bt has small h = cc
known_by_type ts i n known.Unit known.Boundary l bs bt has small h = cc
known_by_type ts i n known.Unit known.Unit l bs bt has small h = refl
known_by_type ts i n known.Unit known.Bool l bs bt has small h = cc
known_by_type ts i n known.Unit (known.Compound k) l bs bt has small h = let c : is_compound (slice_index_or ts k judgement) ≡ true = has k bt in let f : false ≡ is_compound (slice_index_or ts k judgement) = ap is_compound h in cc
known_by_type ts i n known.Bool known.Judgement l bs bt has small h = cc
known_by_type ts i n known.Bool known.Boundary l bs bt has small h = cc
known_by_type ts i n known.Bool known.Unit l bs bt has small h = cc
known_by_type ts i n known.Bool known.Bool l bs bt has small h = refl
known_by_type ts i n known.Bool (known.Compound k) l bs bt has small h = let c : is_compound (slice_index_or ts k judgement) ≡ true = has k bt in let f : false ≡ is_compound (slice_index_or ts k judgement) = ap is_compound h in cc
known_by_type ts i n (known.Compound k) known.Judgement l bs bt has small h = let c : is_compound (slice_index_or ts k judgement) ≡ true = has k (omega arith) in let f : is_compound (slice_index_or ts k judgement) ≡ false = ap is_compound h in cc
known_by_type ts i n (known.Compound k) known.Boundary l bs bt has small h = let c : is_compound (slice_index_or ts k judgement) ≡ true = has k (omega arith) in let f : is_compound (slice_index_or ts k judgement) ≡ false = ap is_compound h in cc
known_by_type ts i n (known.Compound k) known.Unit l bs bt has small h = let c : is_compound (slice_index_or ts k judgement) ≡ true = has k (omega arith) in let f : is_compound (slice_index_or ts k judgement) ≡ false = ap is_compound h in cc
known_by_type ts i n (known.Compound k) known.Bool l bs bt has small h = let c : is_compound (slice_index_or ts k judgement) ≡ true = has k (omega arith) in let f : is_compound (slice_index_or ts k judgement) ≡ false = ap is_compound h in cc
known_by_type ts i n (known.Compound k) (known.Compound m) l bs bt has small h = ap known.Compound (small k m bs bt h)

row_by_type : (ts : List ValueType) (i n : ℕ) (r s : Row) → i ≤ n → FitsBelow i r → FitsBelow n s → AreCompound ts n → AreApart ts i n → type_at ts r ≡ type_at ts s → r ≡ s
row_by_type ts i n (row.Pair a b) (row.Pair c d) l fr fs has small h =
    let e : (type_in ts a ≡ type_in ts c) × (type_in ts b ≡ type_in ts d) = (cc, cc) in
    ap₂ (λ x y. row.Pair x y) (known_by_type ts i n a c l fr.0 fs.0 has small e.0) (known_by_type ts i n b d l fr.1 fs.1 has small e.1)
row_by_type ts i n (row.Pair a b) (row.List c) l fr fs has small h = cc
row_by_type ts i n (row.Pair a b) (row.Opt c) l fr fs has small h = cc
row_by_type ts i n (row.List a) (row.Pair c d) l fr fs has small h = cc
row_by_type ts i n (row.List a) (row.List c) l fr fs has small h =
    let e : type_in ts a ≡ type_in ts c = cc in ap (λ x. row.List x) (known_by_type ts i n a c l fr fs has small e)
row_by_type ts i n (row.List a) (row.Opt c) l fr fs has small h = cc
row_by_type ts i n (row.Opt a) (row.Pair c d) l fr fs has small h = cc
row_by_type ts i n (row.Opt a) (row.List c) l fr fs has small h = cc
row_by_type ts i n (row.Opt a) (row.Opt c) l fr fs has small h =
    let e : type_in ts a ≡ type_in ts c = cc in ap (λ x. row.Opt x) (known_by_type ts i n a c l fr fs has small e)

compound_rows : (rows : List Row) (places : List (Row × ℕ)) → IsTable rows places → AreCompound (types_of rows) (length rows)
unfolding AreCompound
compound_rows rows places table k lt =
    let r = slice_index_or rows k (row.List known.Judgement) in
    ap is_compound (type_of_row rows k r table.fits (slice_get-get_or rows k (row.List known.Judgement) lt)) ∙ compound_row (types_of rows) r

same_place : (fuel : ℕ) (rows : List Row) (places : List (Row × ℕ)) → IsTable rows places → (i j : ℕ) → i < fuel → i < length rows → j < length rows
    → slice_index_or (types_of rows) i judgement ≡ slice_index_or (types_of rows) j judgement → i ≡ j
unfolding AreApart
same_place zero rows places table i j lt li lj h = absurd (omega arith)
same_place (suc fuel) rows places table i j lt li lj h =
    let r = slice_index_or rows i (row.List known.Judgement) in
    let s = slice_index_or rows j (row.List known.Judgement) in
    let ri = slice_get-get_or rows i (row.List known.Judgement) li in
    let sj = slice_get-get_or rows j (row.List known.Judgement) lj in
    let types = sym (type_of_row rows i r table.fits ri) ∙ h ∙ type_of_row rows j s table.fits sj in
    let low : i ≤ length rows = omega arith in
    let high : j ≤ length rows = omega arith in
    let rows-are : r ≡ s = row_by_type (types_of rows) i (length rows) r s low (table.fits i r ri) (fits_more j (length rows) s high (table.fits j s sj)) (compound_rows rows places table)
    (λ a b la lb e. same_place fuel rows places table a b (omega arith) (omega arith) lb e) types in
    let found : Some i ≡ Some j = sym (table.here i r ri) ∙ ap (λ q. lookup (same_row q) places) rows-are ∙ table.here j s sj in
    cc

-- known types are the same where the types are
pub same_known : (rows : List Row) (places : List (Row × ℕ)) → IsTable rows places → (s t : KnownType) → Below (length (types_of rows)) s → Below (length (types_of rows)) t
    → type_in (types_of rows) s ≡ type_in (types_of rows) t → s ≡ t
unfolding AreApart
same_known rows places table s t bs bt h =
    let n : length (types_of rows) ≤ length rows = omega (arith, types_len rows) in
    let all : length rows ≤ length rows = omega arith in
    known_by_type (types_of rows) (length rows) (length rows) s t all (below_more _ _ s n bs) (below_more _ _ t n bt) (compound_rows rows places table)
    (λ a b la lb e. same_place (length rows) rows places table a b la la lb e) h

pub below_less : (m n : ℕ) (t : KnownType) → Below m t → m < n → Below n t
below_less m n t h l = below_more m n t (omega arith) h

pub fits_less : (m n : ℕ) (r : Row) → FitsBelow m r → m < n → FitsBelow n r
fits_less m n r h l = fits_more m n r (omega arith) h
