-- Rows of scopes and their names.
use Rattle.std.proofs.Common.{◌≡◌, ◌≤◌, ◌<◌, ◌+◌, ◌∙◌, ◌++◌, sym, ap, refl, subst, zero, suc, ℕ, List, [], ◌∷◌, length, Some, Bool, true, false, inl, inr, arith, ◌⊎◌}
use Rattle.std.specs.Prelude.{slice_index_or, slice_get, cond}
use Rattle.std.specs.Str.{bytes_eq}
use Rattle.std.proofs.lemmas.Option.{slice_get-get_or}
use Rattle.std.proofs.lemmas.List.{length-append}
use Rattle.std.proofs.Math.ListN.{get_or-append}
use Rattle.std.proofs.Math.Seq.{get_or-append_seam}
use Rattle.ft_items.specs.Item.{Name}
use Rattle.ft_items.proofs.Names.{bytes_eq-names}
use Rattle.ft_meaning.specs.Names.{named}
use Rattle.ft_values.specs.declared.scopes.Binding.{Binding}
use Rattle.ft_values.specs.declared.scopes.Scope.{Scope}
use Rattle.ft_values.specs.declared.scopes.Scope.TheVariants as scope
use Rattle.ft_values.specs.declared.values.Value.{Value}
use Rattle.ft_values.specs.Scopes.{names_in, IsScopeOf, names_at, names_after, names_of, AllWithin, depth}

-- ---- scopes over rows that go on

pub scope_more : (m n : ℕ) (s : Scope) → m ≤ n → IsScopeOf m s → IsScopeOf n s
scope_more m n scope.Top l h = tt
scope_more m n (scope.Within k) l h = omega arith

pub scope_stays : (es more : List (List (Name × Value))) (s : Scope) → IsScopeOf (length es) s → IsScopeOf (length (es ++ more)) s
scope_stays es more s h = scope_more (length es) (length (es ++ more)) s (omega (arith, length-append es more)) h

names_same : (es fs : List (List (Name × Value))) (s : Scope) → ((n : ℕ) → n < length es → slice_index_or fs n [] ≡ slice_index_or es n [])
    → IsScopeOf (length es) s → names_in fs s ≡ names_in es s
names_same es fs scope.Top keep h = refl
names_same es fs (scope.Within k) keep h = keep k h

pub names_stay : (es more : List (List (Name × Value))) (s : Scope) → IsScopeOf (length es) s → names_in (es ++ more) s ≡ names_in es s
names_stay es more s h = names_same es (es ++ more) s (λ n lt. get_or-append es more [] n lt) h

-- ---- rows in turn

pub names_more : (es : List (List (Name × Value))) (bs : List Binding) (b : Binding) → names_after es (bs ++ b ∷ []) ≡ names_after es bs ++ names_at (names_after es bs) b ∷ []
names_more es [] b = refl
names_more es (x ∷ bs) b = names_more (es ++ names_at es x ∷ []) bs b

names_length : (es : List (List (Name × Value))) (bs : List Binding) → length (names_after es bs) ≡ length es + length bs
names_length es [] = omega arith
names_length es (x ∷ bs) = omega (arith, names_length (es ++ names_at es x ∷ []) bs, length-append es (names_at es x ∷ []))

pub names_count : (bs : List Binding) → length (names_of bs) ≡ length bs
names_count bs = omega (arith, names_length [] bs)

-- the names so far stay
names_keep : (es : List (List (Name × Value))) (bs : List Binding) (n : ℕ) → n < length es → slice_index_or (names_after es bs) n [] ≡ slice_index_or es n []
names_keep es [] n h = refl
names_keep es (x ∷ bs) n h =
    names_keep (es ++ names_at es x ∷ []) bs n (omega (arith, length-append es (names_at es x ∷ [])))
    ∙ get_or-append es (names_at es x ∷ []) [] n h

row_names : (es : List (List (Name × Value))) (bs : List Binding) (k : ℕ) (b : Binding) → slice_get bs k ≡ Some b → IsScopeOf (length es + k) b.outer
    → slice_index_or (names_after es bs) (length es + k) [] ≡ names_at (names_after es bs) b
row_names es [] k b h within = cc
row_names es (x ∷ bs) zero b h within =
    let t = names_at es x in
    let fs = es ++ t ∷ [] in
    let same : Some x ≡ Some b = h in
    let here : x ≡ b = cc in
    let len : length fs ≡ length es + 1 = length-append es (t ∷ []) in
    let place : length es + 0 ≡ length es = omega arith in
    ap (λ n. slice_index_or (names_after fs bs) n []) place
    ∙ names_keep fs bs (length es) (omega arith)
    ∙ get_or-append_seam es t [] []
    ∙ sym (ap (λ ns. (x.name, x.value) ∷ ns) (names_same es (names_after fs bs) x.outer
    (λ n lt. names_keep fs bs n (omega arith) ∙ get_or-append es (t ∷ []) [] n lt)
    (subst (λ b. IsScopeOf (length es) b.outer) (sym here) (subst (λ n. IsScopeOf n b.outer) place within))))
    ∙ ap (names_at (names_after fs bs)) here
row_names es (x ∷ bs) (suc k) b h within =
    let fs = es ++ names_at es x ∷ [] in
    let len : length fs ≡ length es + 1 = length-append es (names_at es x ∷ []) in
    let place : length fs + k ≡ length es + suc k = omega arith in
    subst (λ n. slice_index_or (names_after fs bs) n [] ≡ names_at (names_after fs bs) b) place
    (row_names fs bs k b h (subst (λ n. IsScopeOf n b.outer) (sym place) within))

-- ---- one more row

get_either : {X : Type 0} (xs : List X) (x y : X) (k : ℕ) → slice_get (xs ++ x ∷ []) k ≡ Some y → ((k < length xs) × (slice_get xs k ≡ Some y)) ⊎ ((k ≡ length xs) × (x ≡ y))
get_either [] x y zero h = let same : Some x ≡ Some y = h in inr (refl, cc)
get_either [] x y (suc k) h = cc
get_either (z ∷ xs) x y zero h = inl (omega arith, h)
get_either (z ∷ xs) x y (suc k) h = elim (get_either xs x y k h) [ inl g ↦ inl (omega (arith, g.0), g.1) | inr g ↦ inr (omega (arith, g.0), g.1) ]

pub within_push : (bs : List Binding) (b : Binding) → AllWithin bs → IsScopeOf (length bs) b.outer → AllWithin (bs ++ b ∷ [])
within_push bs b within outer k c h = elim (get_either bs b c k h) [
  | inl g ↦ within k c g.1
  | inr g ↦ subst (λ n. IsScopeOf n c.outer) (sym g.0) (subst (λ b. IsScopeOf (length bs) b.outer) g.1 outer)
]

pub scope_made : (bs : List Binding) (b : Binding)
    → (length bs < length (names_of (bs ++ b ∷ []))) × (names_in (names_of (bs ++ b ∷ [])) (scope.Within (length bs)) ≡ names_at (names_of bs) b)
scope_made bs b =
    let last = get_or-append_seam (names_of bs) (names_at (names_of bs) b) [] [] in (
      omega (arith, names_count (bs ++ b ∷ []), length-append bs (b ∷ [])),
      ap (λ es. slice_index_or es (length bs) []) (names_more [] bs b)
          ∙ ap (λ n. slice_index_or (names_of bs ++ names_at (names_of bs) b ∷ []) n []) (sym (names_count bs)) ∙ last,
    )

-- ---- the names of a row

-- the scope around a row, and its names
row_is : (bs : List Binding) (k : ℕ) (d : Binding) → AllWithin bs → k < length bs
    → (IsScopeOf k (slice_index_or bs k d).outer) × (names_in (names_of bs) (scope.Within k) ≡ names_at (names_of bs) (slice_index_or bs k d))
row_is bs k d within lt =
    let b = slice_index_or bs k d in
    let here = slice_get-get_or bs k d lt in
    let zero-plus : 0 + k ≡ k = omega arith in (
      within k b here,
      subst (λ n. slice_index_or (names_of bs) n [] ≡ names_at (names_of bs) b) zero-plus
          (row_names [] bs k b here (subst (λ n. IsScopeOf n b.outer) (sym zero-plus) (within k b here))),
    )

pub outer_within : (bs : List Binding) (k : ℕ) (d : Binding) → AllWithin bs → k < length bs → IsScopeOf (length bs) (slice_index_or bs k d).outer
outer_within bs k d within lt = scope_more k (length bs) (slice_index_or bs k d).outer (omega arith) (row_is bs k d within lt).0

depth_most : (n : ℕ) (s : Scope) → IsScopeOf n s → depth s ≤ n
depth_most n scope.Top h = omega arith
depth_most n (scope.Within k) h = omega arith

pub outer_lower : (bs : List Binding) (k : ℕ) (d : Binding) → AllWithin bs → k < length bs → depth (slice_index_or bs k d).outer < suc k
outer_lower bs k d within lt = let l : depth (slice_index_or bs k d).outer ≤ k = depth_most k (slice_index_or bs k d).outer (row_is bs k d within lt).0 in omega arith

-- what stands under a name in a row
row_named : (bs : List Binding) (k : ℕ) (d : Binding) (n : Name) → AllWithin bs → k < length bs
    → named (names_in (names_of bs) (scope.Within k)) n
    ≡ cond (bytes_eq (slice_index_or bs k d).name n) (Some (slice_index_or bs k d).value) (named (names_in (names_of bs) (slice_index_or bs k d).outer) n)
row_named bs k d n within lt =
    let b = slice_index_or bs k d in
    ap (λ ns. named ns n) (row_is bs k d within lt).1
    ∙ ap (λ t. cond t (Some b.value) (named (names_in (names_of bs) b.outer) n)) (sym (bytes_eq-names b.name n))

-- so where the row is known
named_so : (bs : List Binding) (k : ℕ) (b : Binding) (n : Name) (t : Bool) → AllWithin bs → k < length bs → b ≡ slice_index_or bs k b → bytes_eq b.name n ≡ t
    → named (names_in (names_of bs) (scope.Within k)) n ≡ cond t (Some b.value) (named (names_in (names_of bs) b.outer) n)
named_so bs k b n t within lt is e =
    row_named bs k b n within lt
    ∙ sym (ap (λ (x : Binding). cond (bytes_eq x.name n) (Some x.value) (named (names_in (names_of bs) x.outer) n)) is)
    ∙ ap (λ t. cond t (Some b.value) (named (names_in (names_of bs) b.outer) n)) e

pub name_found : (bs : List Binding) (k : ℕ) (b : Binding) (n : Name) → AllWithin bs → k < length bs → b ≡ slice_index_or bs k b → bytes_eq b.name n ≡ true
    → Some b.value ≡ named (names_in (names_of bs) (scope.Within k)) n
name_found bs k b n within lt is e = sym (named_so bs k b n true within lt is e)

pub name_further : (bs : List Binding) (k : ℕ) (b : Binding) (n : Name) → AllWithin bs → k < length bs → b ≡ slice_index_or bs k b → bytes_eq b.name n ≡ false
    → named (names_in (names_of bs) (scope.Within k)) n ≡ named (names_in (names_of bs) b.outer) n
name_further bs k b n within lt is e = named_so bs k b n false within lt is e
