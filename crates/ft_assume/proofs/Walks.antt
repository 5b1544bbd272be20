-- Walks along ascending lists of atoms.
use Rattle.std.proofs.Common.{◌≡◌, ◌≢◌, ℕ, take, nat_eq, append_assoc, zero, suc, ◌+◌, ◌-◌, ◌<◌, ◌≤◌, arith, ◌||◌, Bool, true, false, cond, not, List, [], ◌∷◌, ◌++◌, ◌⊎◌, inl, inr, refl, sym, ap, ◌∙◌, subst, length, drop, get_or}
use Rattle.std.proofs.Math.Seq.{drop-cons, take-length}
use Rattle.std.proofs.lemmas.List.{map-append, drop_all, append-nil, length-drop}
use Rattle.std.proofs.lemmas.Bool.{eq-eqb, ne_eqb}
use Rattle.std.proofs.lemmas.Bool.Decides.{eqb_tells}
use Rattle.std.specs.List.{filter, list_any}
use Rattle.ft_items.specs.Sets.{Atom, precedes, same_atom, union, without, has, is_within, Has, Within, PrecedesAll, Ascending}
use Rattle.ft_items.proofs.SetLemmas.{wrong, both_true, by_bool, by_atom, has_union, union_left, union_right, has_false, within_true, precedes_trans, precedes_total, all_after, after_all, ascending_union, irreflexive, ascending_equal}
use Rattle.ft_assume.specs.declared.atom.Atom.{Atom as AtomValue}
use Rattle.ft_assume.specs.Atoms.{atom_of, atoms_of}
use Rattle.ft_assume.specs.Merge.{next_of}

-- the definitions as a filter and as a test of each atom
pub without_is_filter : (a : Atom) (S : List AtomValue) → atoms_of (filter (λ b. not (same_atom a (atom_of b))) S) ≡ without a (atoms_of S)
without_is_filter a [] = refl
without_is_filter a (b ∷ S) = go (same_atom a (atom_of b)) (without_is_filter a S)
  where
    go : (t : Bool) → atoms_of (filter (λ b. not (same_atom a (atom_of b))) S) ≡ without a (atoms_of S)
        → atoms_of (cond (not t) (b ∷ filter (λ b. not (same_atom a (atom_of b))) S) (filter (λ b. not (same_atom a (atom_of b))) S)) ≡ cond t (without a (atoms_of S)) (atom_of b ∷ without a (atoms_of S))
    go true ih = ih
    go false ih = ap (λ X. atom_of b ∷ X) ih

pub has_is_any : (a : Atom) (S : List AtomValue) → list_any (λ b. same_atom a (atom_of b)) S ≡ has a (atoms_of S)
has_is_any a [] = refl
has_is_any a (b ∷ S) = go (same_atom a (atom_of b)) (has_is_any a S)
  where
    go : (t : Bool) → list_any (λ b. same_atom a (atom_of b)) S ≡ has a (atoms_of S) → (t || list_any (λ b. same_atom a (atom_of b)) S) ≡ cond t true (has a (atoms_of S))
    go true ih = refl
    go false ih = ih

-- tests by facts
has_from : (a : Atom) (S : List Atom) → Has a S → has a S ≡ true
has_from a S h = by_bool (has a S ≡ true) (has a S) (λ t. t) (λ f. absurd (has_false a S f h))

within_from : (S R : List Atom) → Within S R → is_within S R ≡ true
within_from [] R w = refl
within_from (a ∷ S) R w = both_true (has a R) (is_within S R) (has_from a R (w a (inl refl))) (within_from S R (λ c h. w c (inr h)))

same_test : (S R X Y : List Atom) → (Within S R → Within X Y) → (Within X Y → Within S R) → is_within S R ≡ is_within X Y
same_test S R X Y f g = by_bool (is_within S R ≡ is_within X Y) (is_within S R)
    (λ t. t ∙ sym (within_from X Y (f (within_true S R t))))
    (λ n. by_bool (is_within S R ≡ is_within X Y) (is_within X Y)
    (λ t. within_from S R (g (within_true X Y t)) ∙ sym t)
    (λ m. n ∙ sym m))

-- the order
same_from : (a b : Atom) → precedes a b ≡ false → precedes b a ≡ false → a ≡ b
same_from a b h k = by_atom (a ≡ b) a b (λ t e. e) (λ f n. wrong (sym k ∙ precedes_total a b f h))

not_later : (a b : Atom) (R : List Atom) → Ascending (b ∷ R) → precedes a b ≡ true → Has a (b ∷ R) → ⊥
not_later a b R r p (inl e) = irreflexive a (subst (λ z. precedes a z ≡ true) (sym e) p)
not_later a b R r p (inr h) = irreflexive a (precedes_trans a b a p (all_after b a R r.0 h))

before_all : (a b : Atom) (R : List Atom) → Ascending (b ∷ R) → precedes a b ≡ true → PrecedesAll a (b ∷ R)
before_all a b R r p = (p, after_all a R (λ c k. precedes_trans a b c p (all_after b c R r.0 k)))

-- one turn of a merge
union_before : (a b : Atom) (S R : List Atom) → Ascending (a ∷ S) → Ascending (b ∷ R) → precedes a b ≡ true
    → union (a ∷ S) (b ∷ R) ≡ a ∷ union S (b ∷ R)
union_before a b S R s r p = ascending_equal (union (a ∷ S) (b ∷ R)) (a ∷ union S (b ∷ R))
    (ascending_union (a ∷ S) (b ∷ R) r) (after_all a (union S (b ∷ R)) (λ c k. later c (has_union c S (b ∷ R) k)), ascending_union S (b ∷ R) r)
    (λ c k. there c (has_union c (a ∷ S) (b ∷ R) k)) (λ c k. back c k)
  where
    later : (c : Atom) → Has c S ⊎ Has c (b ∷ R) → precedes a c ≡ true
    later c (inl k) = all_after a c S s.0 k
    later c (inr k) = all_after a c (b ∷ R) (before_all a b R r p) k

    there : (c : Atom) → Has c (a ∷ S) ⊎ Has c (b ∷ R) → Has c (a ∷ union S (b ∷ R))
    there c (inl (inl e)) = inl e
    there c (inl (inr k)) = inr (union_left c S (b ∷ R) k)
    there c (inr k) = inr (union_right c S (b ∷ R) k)

    back : (c : Atom) → Has c (a ∷ union S (b ∷ R)) → Has c (union (a ∷ S) (b ∷ R))
    back c (inl e) = union_left c (a ∷ S) (b ∷ R) (inl e)
    back c (inr k) = elim (has_union c S (b ∷ R) k) [ inl h ↦ union_left c (a ∷ S) (b ∷ R) (inr h) | inr h ↦ union_right c (a ∷ S) (b ∷ R) h ]

union_after : (a b : Atom) (S R : List Atom) → Ascending (a ∷ S) → Ascending (b ∷ R) → precedes b a ≡ true
    → union (a ∷ S) (b ∷ R) ≡ b ∷ union (a ∷ S) R
union_after a b S R s r p = ascending_equal (union (a ∷ S) (b ∷ R)) (b ∷ union (a ∷ S) R)
    (ascending_union (a ∷ S) (b ∷ R) r) (after_all b (union (a ∷ S) R) (λ c k. later c (has_union c (a ∷ S) R k)), ascending_union (a ∷ S) R r.1)
    (λ c k. there c (has_union c (a ∷ S) (b ∷ R) k)) (λ c k. back c k)
  where
    later : (c : Atom) → Has c (a ∷ S) ⊎ Has c R → precedes b c ≡ true
    later c (inl k) = all_after b c (a ∷ S) (before_all b a S s p) k
    later c (inr k) = all_after b c R r.0 k

    there : (c : Atom) → Has c (a ∷ S) ⊎ Has c (b ∷ R) → Has c (b ∷ union (a ∷ S) R)
    there c (inl k) = inr (union_left c (a ∷ S) R k)
    there c (inr (inl e)) = inl e
    there c (inr (inr k)) = inr (union_right c (a ∷ S) R k)

    back : (c : Atom) → Has c (b ∷ union (a ∷ S) R) → Has c (union (a ∷ S) (b ∷ R))
    back c (inl e) = union_right c (a ∷ S) (b ∷ R) (inl e)
    back c (inr k) = elim (has_union c (a ∷ S) R k) [ inl h ↦ union_left c (a ∷ S) (b ∷ R) h | inr h ↦ union_right c (a ∷ S) (b ∷ R) (inr h) ]

union_same : (a b : Atom) (S R : List Atom) → Ascending (a ∷ S) → Ascending (b ∷ R) → a ≡ b
    → union (a ∷ S) (b ∷ R) ≡ a ∷ union S R
union_same a b S R s r e = ascending_equal (union (a ∷ S) (b ∷ R)) (a ∷ union S R)
    (ascending_union (a ∷ S) (b ∷ R) r) (after_all a (union S R) (λ c k. later c (has_union c S R k)), ascending_union S R r.1)
    (λ c k. there c (has_union c (a ∷ S) (b ∷ R) k)) (λ c k. back c k)
  where
    later : (c : Atom) → Has c S ⊎ Has c R → precedes a c ≡ true
    later c (inl k) = all_after a c S s.0 k
    later c (inr k) = subst (λ z. precedes z c ≡ true) (sym e) (all_after b c R r.0 k)

    there : (c : Atom) → Has c (a ∷ S) ⊎ Has c (b ∷ R) → Has c (a ∷ union S R)
    there c (inl (inl d)) = inl d
    there c (inl (inr k)) = inr (union_left c S R k)
    there c (inr (inl d)) = inl (d ∙ sym e)
    there c (inr (inr k)) = inr (union_right c S R k)

    back : (c : Atom) → Has c (a ∷ union S R) → Has c (union (a ∷ S) (b ∷ R))
    back c (inl d) = union_left c (a ∷ S) (b ∷ R) (inl d)
    back c (inr k) = elim (has_union c S R k) [ inl h ↦ union_left c (a ∷ S) (b ∷ R) (inr h) | inr h ↦ union_right c (a ∷ S) (b ∷ R) (inr h) ]

pub union_nothing : (S : List Atom) → Ascending S → union S [] ≡ S
union_nothing S s = ascending_equal (union S []) S (ascending_union S [] tt) s (λ c k. there c (has_union c S [] k)) (λ c k. union_left c S [] k)
  where
    there : (c : Atom) → Has c S ⊎ Has c [] → Has c S
    there c (inl k) = k
    there c (inr k) = absurd k

-- one turn of a test
within_before : (a b : Atom) (S R : List Atom) → Ascending (b ∷ R) → precedes a b ≡ true → is_within (a ∷ S) (b ∷ R) ≡ false
within_before a b S R r p = by_bool (is_within (a ∷ S) (b ∷ R) ≡ false) (is_within (a ∷ S) (b ∷ R))
    (λ t. absurd (not_later a b R r p (within_true (a ∷ S) (b ∷ R) t a (inl refl)))) (λ f. f)

within_after : (a b : Atom) (S R : List Atom) → Ascending (a ∷ S) → precedes b a ≡ true → is_within (a ∷ S) (b ∷ R) ≡ is_within (a ∷ S) R
within_after a b S R s p = same_test (a ∷ S) (b ∷ R) (a ∷ S) R (λ w c k. rest c k (w c k)) (λ w c k. inr (w c k))
  where
    rest : (c : Atom) → Has c (a ∷ S) → Has c (b ∷ R) → Has c R
    rest c k (inl e) = absurd (not_later b a S s p (subst (λ z. Has z (a ∷ S)) e k))
    rest c k (inr h) = h

within_same : (a b : Atom) (S R : List Atom) → Ascending (a ∷ S) → a ≡ b → is_within (a ∷ S) (b ∷ R) ≡ is_within S R
within_same a b S R s e = same_test (a ∷ S) (b ∷ R) S R (λ w c k. rest c k (w c (inr k))) (λ w c k. more w c k)
  where
    rest : (c : Atom) → Has c S → Has c (b ∷ R) → Has c R
    rest c k (inl d) = absurd (irreflexive a (subst (λ z. precedes a z ≡ true) (d ∙ sym e) (all_after a c S s.0 k)))
    rest c k (inr h) = h

    more : Within S R → (c : Atom) → Has c (a ∷ S) → Has c (b ∷ R)
    more w c (inl d) = inl (d ∙ e)
    more w c (inr k) = inr (w c k)

-- what is left of a list is ascending
pub ascending_drop : (S : List AtomValue) (i : ℕ) → Ascending (atoms_of S) → Ascending (atoms_of (drop i S))
ascending_drop [] zero s = tt
ascending_drop [] (suc i) s = tt
ascending_drop (a ∷ S) zero s = s
ascending_drop (a ∷ S) (suc i) s = ascending_drop S i s.1

-- the atom at a place, and those after it
next_at : (S : List AtomValue) (i : ℕ) (d : AtomValue) → i < length S → drop i S ≡ get_or S i d ∷ drop (i + 1) S
next_at S i d lt =
    let turn : suc i ≡ i + 1 = omega arith in
    drop-cons S i d lt ∙ ap (λ k. get_or S i d ∷ drop k S) turn

stay : (S : List AtomValue) (i : ℕ) → drop i S ≡ drop (i + 0) S
stay S i = let e : i ≡ i + 0 = omega arith in ap (λ k. drop k S) e

-- what a turn takes, by the two tests
abbrev turn_of : Bool → Bool → AtomValue → AtomValue → AtomValue × ℕ × ℕ
turn_of t u a b = cond t (a, 1, 0) (cond u (b, 0, 1) (a, 1, 1))

-- the union of what is left, by one turn
pub union_turn : (S R : List AtomValue) (i j : ℕ) (a b : AtomValue) → Ascending (atoms_of S) → Ascending (atoms_of R)
    → drop i S ≡ a ∷ drop (i + 1) S → drop j R ≡ b ∷ drop (j + 1) R
    → union (atoms_of (drop i S)) (atoms_of (drop j R))
    ≡ atom_of (next_of a b).0 ∷ union (atoms_of (drop (i + (next_of a b).1) S)) (atoms_of (drop (j + (next_of a b).2) R))
unfolding next_of
union_turn S R i j a b s r e f = go (precedes (atom_of a) (atom_of b)) (precedes (atom_of b) (atom_of a)) refl refl
  where
    left : List Atom
    left = atoms_of (drop (i + 1) S)

    right : List Atom
    right = atoms_of (drop (j + 1) R)

    s' : Ascending (atom_of a ∷ atoms_of (drop (i + 1) S))
    s' = subst (λ X. Ascending (atoms_of X)) e (ascending_drop S i s)

    r' : Ascending (atom_of b ∷ atoms_of (drop (j + 1) R))
    r' = subst (λ X. Ascending (atoms_of X)) f (ascending_drop R j r)

    whole : union (atoms_of (drop i S)) (atoms_of (drop j R)) ≡ union (atom_of a ∷ atoms_of (drop (i + 1) S)) (atom_of b ∷ atoms_of (drop (j + 1) R))
    whole = ap (λ X. union (atoms_of X) (atoms_of (drop j R))) e ∙ ap (λ X. union (atom_of a ∷ atoms_of (drop (i + 1) S)) (atoms_of X)) f

    go : (t u : Bool) → precedes (atom_of a) (atom_of b) ≡ t → precedes (atom_of b) (atom_of a) ≡ u
        → union (atoms_of (drop i S)) (atoms_of (drop j R))
        ≡ atom_of (turn_of t u a b).0 ∷ union (atoms_of (drop (i + (turn_of t u a b).1) S)) (atoms_of (drop (j + (turn_of t u a b).2) R))
    go true u p q = whole ∙ union_before (atom_of a) (atom_of b) (atoms_of (drop (i + 1) S)) (atoms_of (drop (j + 1) R)) s' r' p
        ∙ ap (λ X. atom_of a ∷ union (atoms_of (drop (i + 1) S)) (atoms_of X)) (sym f ∙ stay R j)
    go false true p q = whole ∙ union_after (atom_of a) (atom_of b) (atoms_of (drop (i + 1) S)) (atoms_of (drop (j + 1) R)) s' r' q
        ∙ ap (λ X. atom_of b ∷ union (atoms_of X) (atoms_of (drop (j + 1) R))) (sym e ∙ stay S i)
    go false false p q = whole ∙ union_same (atom_of a) (atom_of b) (atoms_of (drop (i + 1) S)) (atoms_of (drop (j + 1) R)) s' r' (same_from (atom_of a) (atom_of b) p q)

-- the merge after one turn
pub merged_turn : (S R out out' : List AtomValue) (i j : ℕ) (d e : AtomValue) (t : AtomValue × ℕ × ℕ) (U : List Atom)
    → Ascending (atoms_of S) → Ascending (atoms_of R) → i < length S → j < length R
    → t ≡ next_of (get_or S i d) (get_or R j e) → out' ≡ out ++ t.0 ∷ []
    → atoms_of out ++ union (atoms_of (drop i S)) (atoms_of (drop j R)) ≡ U
    → atoms_of out' ++ union (atoms_of (drop (i + t.1) S)) (atoms_of (drop (j + t.2) R)) ≡ U
merged_turn S R out out' i j d e t U s r below within is pushed h =
    let rest = union (atoms_of (drop (i + t.1) S)) (atoms_of (drop (j + t.2) R)) in
    ap (λ o. atoms_of o ++ rest) pushed
    ∙ ap (λ o. o ++ rest) (map-append atom_of out (t.0 ∷ []))
    ∙ append_assoc (atoms_of out) (atom_of t.0 ∷ []) rest
    ∙ ap (λ (u : AtomValue × ℕ × ℕ). atoms_of out ++ (atom_of u.0 ∷ union (atoms_of (drop (i + u.1) S)) (atoms_of (drop (j + u.2) R)))) is
    ∙ ap (λ x. atoms_of out ++ x) (sym (union_turn S R i j (get_or S i d) (get_or R j e) s r (next_at S i d below) (next_at R j e within)))
    ∙ h

-- the merge at the end of one of the lists
pub merged_end : (S R out out' : List AtomValue) (i j : ℕ) (U : List Atom) → Ascending (atoms_of S)
    → (length S ≤ i) ⊎ (length R ≤ j) → out' ≡ (out ++ drop i S) ++ drop j R
    → atoms_of out ++ union (atoms_of (drop i S)) (atoms_of (drop j R)) ≡ U
    → atoms_of out' ≡ U
merged_end S R out out' i j U s over is h =
    ap atoms_of is ∙ map-append atom_of (out ++ drop i S) (drop j R) ∙ ap (λ o. o ++ atoms_of (drop j R)) (map-append atom_of out (drop i S))
    ∙ append_assoc (atoms_of out) (atoms_of (drop i S)) (atoms_of (drop j R))
    ∙ ap (λ x. atoms_of out ++ x) (joined over) ∙ h
  where
    joined : (length S ≤ i) ⊎ (length R ≤ j) → atoms_of (drop i S) ++ atoms_of (drop j R) ≡ union (atoms_of (drop i S)) (atoms_of (drop j R))
    joined (inl n) =
        let e : drop i S ≡ [] = drop_all i S n in
        ap (λ X. atoms_of X ++ atoms_of (drop j R)) e ∙ ap (λ X. union (atoms_of X) (atoms_of (drop j R))) (sym e)
    joined (inr n) =
        let e : drop j R ≡ [] = drop_all j R n in
        ap (λ X. atoms_of (drop i S) ++ atoms_of X) e ∙ append-nil (atoms_of (drop i S))
        ∙ sym (union_nothing (atoms_of (drop i S)) (ascending_drop S i s)) ∙ ap (λ X. union (atoms_of (drop i S)) (atoms_of X)) (sym e)

-- the test on what is left, by one turn: it fails where the turn takes nothing of the second list
pub within_turn : (S R : List AtomValue) (i j : ℕ) (d e : AtomValue) (t : AtomValue × ℕ × ℕ) → Ascending (atoms_of S) → Ascending (atoms_of R)
    → i < length S → j < length R → t ≡ next_of (get_or S i d) (get_or R j e)
    → is_within (atoms_of (drop i S)) (atoms_of (drop j R))
    ≡ cond (nat_eq t.2 0) false (is_within (atoms_of (drop (i + t.1) S)) (atoms_of (drop (j + t.2) R)))
unfolding next_of
within_turn S R i j d d' t s r below within is =
    go (precedes (atom_of a) (atom_of b)) (precedes (atom_of b) (atom_of a)) refl refl
    ∙ ap (λ (u : AtomValue × ℕ × ℕ). cond (nat_eq u.2 0) false (is_within (atoms_of (drop (i + u.1) S)) (atoms_of (drop (j + u.2) R)))) (sym is)
  where
    a : AtomValue
    a = get_or S i d

    b : AtomValue
    b = get_or R j d'

    e : drop i S ≡ a ∷ drop (i + 1) S
    e = next_at S i d below

    f : drop j R ≡ b ∷ drop (j + 1) R
    f = next_at R j d' within

    s' : Ascending (atom_of a ∷ atoms_of (drop (i + 1) S))
    s' = subst (λ X. Ascending (atoms_of X)) e (ascending_drop S i s)

    r' : Ascending (atom_of b ∷ atoms_of (drop (j + 1) R))
    r' = subst (λ X. Ascending (atoms_of X)) f (ascending_drop R j r)

    whole : is_within (atoms_of (drop i S)) (atoms_of (drop j R)) ≡ is_within (atom_of a ∷ atoms_of (drop (i + 1) S)) (atom_of b ∷ atoms_of (drop (j + 1) R))
    whole = ap (λ X. is_within (atoms_of X) (atoms_of (drop j R))) e ∙ ap (λ X. is_within (atom_of a ∷ atoms_of (drop (i + 1) S)) (atoms_of X)) f

    go : (t u : Bool) → precedes (atom_of a) (atom_of b) ≡ t → precedes (atom_of b) (atom_of a) ≡ u
        → is_within (atoms_of (drop i S)) (atoms_of (drop j R))
        ≡ cond (nat_eq (turn_of t u a b).2 0) false
        (is_within (atoms_of (drop (i + (turn_of t u a b).1) S)) (atoms_of (drop (j + (turn_of t u a b).2) R)))
    go true u p q = whole ∙ within_before (atom_of a) (atom_of b) (atoms_of (drop (i + 1) S)) (atoms_of (drop (j + 1) R)) r' p
    go false true p q = whole ∙ within_after (atom_of a) (atom_of b) (atoms_of (drop (i + 1) S)) (atoms_of (drop (j + 1) R)) s' q
        ∙ ap (λ X. is_within (atoms_of X) (atoms_of (drop (j + 1) R))) (sym e ∙ stay S i)
    go false false p q = whole ∙ within_same (atom_of a) (atom_of b) (atoms_of (drop (i + 1) S)) (atoms_of (drop (j + 1) R)) s' (same_from (atom_of a) (atom_of b) p q)

-- the test after a turn that takes of the second list, and after one that doesn't
pub within_goes : (S R : List AtomValue) (i j : ℕ) (d e : AtomValue) (t : AtomValue × ℕ × ℕ) (b : Bool) → Ascending (atoms_of S) → Ascending (atoms_of R)
    → i < length S → j < length R → t ≡ next_of (get_or S i d) (get_or R j e) → t.2 ≢ 0
    → is_within (atoms_of (drop i S)) (atoms_of (drop j R)) ≡ b
    → is_within (atoms_of (drop (i + t.1) S)) (atoms_of (drop (j + t.2) R)) ≡ b
within_goes S R i j d e t b s r below within is some h =
    let rest = is_within (atoms_of (drop (i + t.1) S)) (atoms_of (drop (j + t.2) R)) in
    sym (ap (λ z. cond z false rest) (ne_eqb t.2 0 some)) ∙ sym (within_turn S R i j d e t s r below within is) ∙ h

pub within_stops : (S R : List AtomValue) (i j : ℕ) (d e : AtomValue) (t : AtomValue × ℕ × ℕ) (b : Bool) → Ascending (atoms_of S) → Ascending (atoms_of R)
    → i < length S → j < length R → t ≡ next_of (get_or S i d) (get_or R j e) → t.2 ≡ 0
    → is_within (atoms_of (drop i S)) (atoms_of (drop j R)) ≡ b
    → false ≡ b
within_stops S R i j d e t b s r below within is none h =
    let rest = is_within (atoms_of (drop (i + t.1) S)) (atoms_of (drop (j + t.2) R)) in
    sym (ap (λ z. cond z false rest) (eq-eqb t.2 0 none)) ∙ sym (within_turn S R i j d e t s r below within is) ∙ h

-- something is no part of nothing
not_within : (S : List AtomValue) (i : ℕ) → i < length S → is_within (atoms_of (drop i S)) [] ≡ false
not_within [] zero lt = absurd (omega (arith, lt))
not_within [] (suc i) lt = absurd (omega (arith, lt))
not_within (a ∷ S) zero lt = refl
not_within (a ∷ S) (suc i) lt = let less : i < length S = omega (arith, lt) in not_within S i less

-- the test at the end of one of the lists
pub within_end : (S R : List AtomValue) (i j : ℕ) → i ≤ length S → (length S ≤ i) ⊎ (length R ≤ j)
    → is_within (atoms_of (drop i S)) (atoms_of (drop j R)) ≡ nat_eq i (length S)
within_end S R i j bound over = go (eqb_tells i (length S)) over
  where
    go : ((nat_eq i (length S) ≡ true) × (i ≡ length S)) ⊎ ((nat_eq i (length S) ≡ false) × (i ≢ length S)) → (length S ≤ i) ⊎ (length R ≤ j)
        → is_within (atoms_of (drop i S)) (atoms_of (drop j R)) ≡ nat_eq i (length S)
    go (inl h) over =
        let n : length S ≤ i = omega (arith, h.1) in
        ap (λ X. is_within (atoms_of X) (atoms_of (drop j R))) (drop_all i S n) ∙ sym h.0
    go (inr h) (inl n) = absurd (h.1 (omega (arith, bound, n)))
    go (inr h) (inr n) =
        let below : i < length S = grind (arith, h.1, bound) in
        ap (λ X. is_within (atoms_of (drop i S)) (atoms_of X)) (drop_all j R n) ∙ not_within S i below ∙ sym h.0

-- a slice from a place to the end
pub range_from : (S : List AtomValue) (i : ℕ) → take (length S - i) (drop i S) ≡ drop i S
range_from S i = ap (λ n. take n (drop i S)) (sym (length-drop i S)) ∙ take-length (drop i S)
