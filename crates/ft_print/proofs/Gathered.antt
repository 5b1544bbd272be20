-- The variables that expressions mention, sorted and each once, are those of their set.
use Rattle.std.proofs.Common.{◌≡◌, ◌∙◌, sym, ap, refl, subst, ℕ, zero, suc, ◌<◌, ◌≤◌, nat_lt, List, [], ◌∷◌, ◌++◌, inl, inr, length, map, take, slice_get, slice_index_or, nat_cmp, Some, None, append_assoc, append-nil, arith}
use Rattle.std.specs.Prelude.{Contains, AllPairs, IsPermutation, IsSorted, nat_eq}
use Rattle.std.specs.List.{dedup}
use Rattle.std.proofs.lemmas.List.Sorted.{Contains-permutation, IsPermutation-sym}
use Rattle.std.proofs.lemmas.List.Kept.{Contains-from_dedup, Contains-dedup_nat}
use Rattle.std.proofs.lemmas.Map.Keys.{IsStrictlyIncreasing-dedup}
use Rattle.std.specs.List.Sorted.{IsStrictlyIncreasing, IsNonDecreasing}
use Rattle.std.proofs.lemmas.List.{take_all}
use Rattle.std.proofs.lemmas.Bool.{lt-ltb, ltb-true, ltb-false}
use Rattle.ft_common.proofs.Choices.{by_test}
use Rattle.std.proofs.lemmas.List.Elements.{Contains-append_left, Contains-append_right, Contains-append_cases}
use Rattle.std.proofs.lemmas.List.Kept.{AllPairs-from_increasing}
use Rattle.ft_common.proofs.Options.{none_some}
use Rattle.ft_theory.specs.Expressions.{Expression, bound, free, symbol, meta, Arguments, no_arguments, with_body, dummy, Terms, no_terms, also}
use Rattle.ft_items.specs.Sets.{Atom, met, var, union, Has, Within, PrecedesAll, Ascending}
use Rattle.ft_items.proofs.SetLemmas.{has_union, union_left, union_right, ascending_union, ascending_equal}
use Rattle.ft_syntax.specs.Arguments.{Argument, node_of, arguments_of, list_of_arguments, list_of_terms}
use Rattle.ft_syntax.specs.declared.syntax.Node.TheVariants.{Free}
use Rattle.ft_meaning.specs.Texts.{variables}
use Rattle.ft_meaning.specs.Faults.{variables_of, variables_of_arguments, variables_of_terms}
use Rattle.ft_print.specs.Mentions.{mentioned, mentioned_by_arguments, mentioned_by_terms}

-- numbers as variables
abbrev as_variables : List ℕ → List Atom
as_variables xs = map var xs

contains_has : (xs : List ℕ) (v : ℕ) → Contains xs v → Has (var v) (as_variables xs)
contains_has xs v h = go xs h.0 h.1 h.2
  where
    go : (xs : List ℕ) (k : ℕ) → k < length xs → slice_index_or xs k v ≡ v → Has (var v) (as_variables xs)
    go [] k l e = absurd (omega arith)
    go (x ∷ xs) zero l e = inl (ap var (sym e))
    go (x ∷ xs) (suc k) l e = inr (go xs k (omega arith) e)

has_contains : (xs : List ℕ) (v : ℕ) → Has (var v) (as_variables xs) → Contains xs v
has_contains [] v h = absurd h
has_contains (x ∷ xs) v (inl e) = let same : x ≡ v = cc in (zero, omega arith, same)
has_contains (x ∷ xs) v (inr h) = let k : Contains xs v = has_contains xs v h in let l : k.0 < length xs = k.1 in (suc k.0, omega (arith, l), k.2)

no_met : (xs : List ℕ) (m : ℕ) → Has (met m) (as_variables xs) → ⊥
no_met [] m h = absurd h
no_met (x ∷ xs) m (inl e) = cc
no_met (x ∷ xs) m (inr h) = no_met xs m h

variables_back : (xs : List ℕ) → variables (as_variables xs) ≡ xs
variables_back [] = refl
variables_back (x ∷ xs) = ap (λ z. x ∷ z) (variables_back xs)

mutual
  mentioned_has : (e : Expression) (v : ℕ) → Contains (mentioned e) v → Has (var v) (variables_of e)
  mentioned_has (bound i) v h = contains_has [] v h
  mentioned_has (free w) v h = contains_has (w ∷ []) v h
  mentioned_has (symbol s a) v h = arguments_has a v h
  mentioned_has (meta m ts) v h = terms_has ts v h

  arguments_has : (a : Arguments) (v : ℕ) → Contains (mentioned_by_arguments a) v → Has (var v) (variables_of_arguments a)
  arguments_has no_arguments v h = contains_has [] v h
  arguments_has (with_body n e a) v h =
      elim (Contains-append_cases (mentioned e) (mentioned_by_arguments a) v h) [
        | inl k ↦ union_left (var v) (variables_of e) (variables_of_arguments a) (mentioned_has e v k)
        | inr k ↦ union_right (var v) (variables_of e) (variables_of_arguments a) (arguments_has a v k)
      ]
  arguments_has (dummy n a) v h = arguments_has a v h

  terms_has : (ts : Terms) (v : ℕ) → Contains (mentioned_by_terms ts) v → Has (var v) (variables_of_terms ts)
  terms_has no_terms v h = contains_has [] v h
  terms_has (also t ts) v h =
      elim (Contains-append_cases (mentioned t) (mentioned_by_terms ts) v h) [
        | inl k ↦ union_left (var v) (variables_of t) (variables_of_terms ts) (mentioned_has t v k)
        | inr k ↦ union_right (var v) (variables_of t) (variables_of_terms ts) (terms_has ts v k)
      ]

mutual
  has_mentioned : (e : Expression) (v : ℕ) → Has (var v) (variables_of e) → Contains (mentioned e) v
  has_mentioned (bound i) v h = absurd h
  has_mentioned (free w) v h = has_contains (w ∷ []) v h
  has_mentioned (symbol s a) v h = has_in_arguments a v h
  has_mentioned (meta m ts) v h = has_in_terms ts v h

  has_in_arguments : (a : Arguments) (v : ℕ) → Has (var v) (variables_of_arguments a) → Contains (mentioned_by_arguments a) v
  has_in_arguments no_arguments v h = absurd h
  has_in_arguments (with_body n e a) v h =
      elim (has_union (var v) (variables_of e) (variables_of_arguments a) h) [
        | inl k ↦ Contains-append_left (mentioned e) (mentioned_by_arguments a) v (has_mentioned e v k)
        | inr k ↦ Contains-append_right (mentioned e) (mentioned_by_arguments a) v (has_in_arguments a v k)
      ]
  has_in_arguments (dummy n a) v h = has_in_arguments a v h

  has_in_terms : (ts : Terms) (v : ℕ) → Has (var v) (variables_of_terms ts) → Contains (mentioned_by_terms ts) v
  has_in_terms no_terms v h = absurd h
  has_in_terms (also t ts) v h =
      elim (has_union (var v) (variables_of t) (variables_of_terms ts) h) [
        | inl k ↦ Contains-append_left (mentioned t) (mentioned_by_terms ts) v (has_mentioned t v k)
        | inr k ↦ Contains-append_right (mentioned t) (mentioned_by_terms ts) v (has_in_terms ts v k)
      ]

mutual
  only_variables : (e : Expression) (m : ℕ) → Has (met m) (variables_of e) → ⊥
  only_variables (bound i) m h = absurd h
  only_variables (free w) m h = no_met (w ∷ []) m h
  only_variables (symbol s a) m h = only_in_arguments a m h
  only_variables (meta n ts) m h = only_in_terms ts m h

  only_in_arguments : (a : Arguments) (m : ℕ) → Has (met m) (variables_of_arguments a) → ⊥
  only_in_arguments no_arguments m h = absurd h
  only_in_arguments (with_body n e a) m h = elim (has_union (met m) (variables_of e) (variables_of_arguments a) h) [ inl k ↦ only_variables e m k | inr k ↦ only_in_arguments a m k ]
  only_in_arguments (dummy n a) m h = only_in_arguments a m h

  only_in_terms : (ts : Terms) (m : ℕ) → Has (met m) (variables_of_terms ts) → ⊥
  only_in_terms no_terms m h = absurd h
  only_in_terms (also t ts) m h = elim (has_union (met m) (variables_of t) (variables_of_terms ts) h) [ inl k ↦ only_variables t m k | inr k ↦ only_in_terms ts m k ]

mutual
  ascending_of : (e : Expression) → Ascending (variables_of e)
  ascending_of (bound i) = tt
  ascending_of (free w) = (tt, tt)
  ascending_of (symbol s a) = ascending_arguments a
  ascending_of (meta m ts) = ascending_terms ts

  ascending_arguments : (a : Arguments) → Ascending (variables_of_arguments a)
  ascending_arguments no_arguments = tt
  ascending_arguments (with_body n e a) = ascending_union (variables_of e) (variables_of_arguments a) (ascending_arguments a)
  ascending_arguments (dummy n a) = ascending_arguments a

  ascending_terms : (ts : Terms) → Ascending (variables_of_terms ts)
  ascending_terms no_terms = tt
  ascending_terms (also t ts) = ascending_union (variables_of t) (variables_of_terms ts) (ascending_terms ts)

precedes_each : (x : ℕ) (xs : List ℕ) → ((k d : ℕ) → k < length xs → x < slice_index_or xs k d) → PrecedesAll (var x) (as_variables xs)
precedes_each x [] h = tt
precedes_each x (y ∷ ys) h = (lt-ltb x y (h zero 0 (omega arith)), precedes_each x ys (λ k d l. h (suc k) d (omega arith)))

pairs_ascend : (xs : List ℕ) → AllPairs (λ x y. x < y) xs → Ascending (as_variables xs)
pairs_ascend [] h = tt
pairs_ascend (x ∷ xs) h = (precedes_each x xs (λ k d l. h zero (suc k) d (omega arith) (omega arith)), pairs_ascend xs (λ i j d l k. h (suc i) (suc j) d (omega arith) (omega arith)))

-- strictly increasing numbers that are those mentioned
pub gathered : (xs : List ℕ) (A B : Expression) → IsStrictlyIncreasing xs → ((v : ℕ) → Contains xs v → Contains (mentioned A ++ mentioned B) v) → ((v : ℕ) → Contains (mentioned A ++ mentioned B) v → Contains xs v)
    → xs ≡ variables (union (variables_of A) (variables_of B))
gathered xs A B up there back =
    sym (variables_back xs)
    ∙ ap variables (ascending_equal (as_variables xs) U (pairs_ascend xs (AllPairs-from_increasing xs up)) (ascending_union (variables_of A) (variables_of B) (ascending_of B)) within_set within_list)
  where
    U : List Atom
    U = union (variables_of A) (variables_of B)

    within_set : Within (as_variables xs) (union (variables_of A) (variables_of B))
    within_set (met m) h = absurd (no_met xs m h)
    within_set (var v) h =
        elim (Contains-append_cases (mentioned A) (mentioned B) v (there v (has_contains xs v h))) [
          | inl k ↦ union_left (var v) (variables_of A) (variables_of B) (mentioned_has A v k)
          | inr k ↦ union_right (var v) (variables_of A) (variables_of B) (mentioned_has B v k)
        ]

    within_list : Within (union (variables_of A) (variables_of B)) (as_variables xs)
    within_list (met m) h = elim (has_union (met m) (variables_of A) (variables_of B) h) [ inl k ↦ absurd (only_variables A m k) | inr k ↦ absurd (only_variables B m k) ]
    within_list (var v) h =
        contains_has xs v (back v (elim (has_union (var v) (variables_of A) (variables_of B) h) [
          | inl k ↦ Contains-append_left (mentioned A) (mentioned B) v (has_mentioned A v k)
          | inr k ↦ Contains-append_right (mentioned A) (mentioned B) v (has_mentioned B v k)
        ]))

pub not_decreasing : (xs : List ℕ) → IsStrictlyIncreasing xs → IsNonDecreasing xs
not_decreasing xs up i j d l k =
    by_test (nat_lt i j)
    (λ e. let less : slice_index_or xs i d < slice_index_or xs j d = AllPairs-from_increasing xs up i j d (ltb-true i j e) k in omega (arith, less))
    (λ e. let past : j ≤ i = ltb-false i j e in let same : i ≡ j = omega (arith, past, l) in subst (λ m. slice_index_or xs i d ≤ slice_index_or xs m d) same (omega arith))

sorted_increase : (ss ds : List ℕ) → IsSorted nat_cmp ss → ds ≡ dedup nat_eq ss → IsStrictlyIncreasing ds
sorted_increase ss ds o e = subst IsStrictlyIncreasing (sym e) (IsStrictlyIncreasing-dedup ss o)

-- what is mentioned, sorted, and each once
pub sorted_gathered : (ms ss ds : List ℕ) (A B : Expression) → ms ≡ mentioned A ++ mentioned B → IsPermutation ms ss → IsSorted nat_cmp ss → ds ≡ dedup nat_eq ss → ds ≡ variables (union (variables_of A) (variables_of B))
sorted_gathered ms ss ds A B m p o e =
    gathered ds A B (sorted_increase ss ds o e)
    (λ v h. subst (λ xs. Contains xs v) m (Contains-permutation ss ms v (IsPermutation-sym ms ss p) (Contains-from_dedup nat_eq ss v (subst (λ xs. Contains xs v) e h))))
    (λ v h. subst (λ xs. Contains xs v) (sym e) (Contains-dedup_nat ss v (Contains-permutation ms ss v p (subst (λ xs. Contains xs v) (sym m) h))))

pub sorted_ascends : (ss ds : List ℕ) → IsSorted nat_cmp ss → ds ≡ dedup nat_eq ss → IsNonDecreasing ds
sorted_ascends ss ds o e = not_decreasing ds (sorted_increase ss ds o e)

-- The variables mentioned, argument by argument.

abbrev pub mentioned_in : List Argument → List ℕ
mentioned_in [] = []
mentioned_in ((n, Some e) ∷ ps) = mentioned e ++ mentioned_in ps
mentioned_in ((n, None) ∷ ps) = mentioned_in ps

in_arguments : (a : Arguments) → mentioned_in (list_of_arguments a) ≡ mentioned_by_arguments a
in_arguments no_arguments = refl
in_arguments (with_body n e a) = ap (λ z. mentioned e ++ z) (in_arguments a)
in_arguments (dummy n a) = in_arguments a

in_terms : (ts : Terms) → mentioned_in (list_of_terms ts) ≡ mentioned_by_terms ts
in_terms no_terms = refl
in_terms (also t ts) = ap (λ z. mentioned t ++ z) (in_terms ts)

-- a variable mentions itself
pub variable_mentions : (t : Expression) (v : ℕ) → Free v ≡ node_of t → mentioned t ≡ v ∷ []
variable_mentions (bound i) v e = cc
variable_mentions (free w) v e = let same : w ≡ v = cc in ap (λ w. w ∷ []) same
variable_mentions (symbol s a) v e = cc
variable_mentions (meta m ts) v e = cc

-- others mention what their arguments mention
pub others_mention : (t : Expression) → ((v : ℕ) → node_of t ≡ Free v → ⊥) → mentioned_in (arguments_of t) ≡ mentioned t
others_mention (bound i) h = refl
others_mention (free w) h = absurd (h w refl)
others_mention (symbol s a) h = in_arguments a
others_mention (meta m ts) h = in_terms ts

pub mentioned_next : (ps : List Argument) (i n : ℕ) (e : Expression) → slice_get ps i ≡ Some (n, Some e) → mentioned_in (take (suc i) ps) ≡ mentioned_in (take i ps) ++ mentioned e
mentioned_next [] i n e g = none_some g
mentioned_next (p ∷ ps) zero n e g = let same : p ≡ (n, Some e) = cc in ap (λ p. mentioned_in (p ∷ [])) same ∙ append-nil (mentioned e)
mentioned_next ((m, Some f) ∷ ps) (suc i) n e g = ap (λ z. mentioned f ++ z) (mentioned_next ps i n e g) ∙ sym (append_assoc (mentioned f) (mentioned_in (take i ps)) (mentioned e))
mentioned_next ((m, None) ∷ ps) (suc i) n e g = mentioned_next ps i n e g

pub dummy_next : (ps : List Argument) (i n : ℕ) → slice_get ps i ≡ Some (n, None) → mentioned_in (take (suc i) ps) ≡ mentioned_in (take i ps)
dummy_next [] i n g = none_some g
dummy_next (p ∷ ps) zero n g = let same : p ≡ (n, None) = cc in ap (λ p. mentioned_in (p ∷ [])) same
dummy_next ((m, Some f) ∷ ps) (suc i) n g = ap (λ z. mentioned f ++ z) (dummy_next ps i n g)
dummy_next ((m, None) ∷ ps) (suc i) n g = dummy_next ps i n g

pub all_mentioned : (t : Expression) (i : ℕ) (old out : List ℕ) → ((v : ℕ) → node_of t ≡ Free v → ⊥) → length (arguments_of t) ≤ i → out ≡ old ++ mentioned_in (take i (arguments_of t)) → out ≡ old ++ mentioned t
all_mentioned t i old out h l o = o ∙ ap (λ ps. old ++ mentioned_in ps) (take_all i (arguments_of t) l) ∙ ap (λ z. old ++ z) (others_mention t h)
