-- What a change does to a variable and to an application, and that a depth past all numbers makes no difference.
use Rattle.std.proofs.Common.{◌≡◌, ◌≢◌, ℕ, zero, suc, ◌+◌, ◌-◌, ◌^◌, ◌<◌, ◌≤◌, min, List, [], ◌∷◌, map, true, false, nat_eq, nat_le, ◌⊎◌, inl, inr, Option, Some, None, option_map, refl, sym, ap, ap₂, ◌∙◌, subst, arith}
use Rattle.std.proofs.lemmas.Bool.Decides.{eqb_tells, leb_tells}
use Rattle.ft_common.proofs.Choices.{if_same, if_other}
use Rattle.ft_theory.specs.Expressions.{Expression, bound, free, symbol, meta, Arguments, no_arguments, with_body, dummy, Terms, no_terms, also, under_binder, under_binders, rename, rename_arguments, rename_terms, act, act_arguments, act_terms, body_or, in_place_of, open_at, open_arguments, open_terms, close_at, close_arguments, close_terms}
use Rattle.ft_theory.specs.Small.{IsSmall, NumbersFit, NumbersFitInArguments, NumbersFitInTerms}
use Rattle.ft_syntax.specs.Arguments.{Argument, node_of, as_arguments, as_terms, applied, AreTerms, FitsNode, IsApplication}
use Rattle.ft_syntax.specs.Table.{tree}
use Rattle.ft_syntax.specs.Measures.{IsSmallBody}
use Rattle.ft_syntax.specs.Changes.{changed, changed_argument}
use Rattle.ft_syntax.specs.declared.syntax.Node.{Node}
use Rattle.ft_syntax.specs.declared.syntax.Node.TheVariants.{Bound, Free, Sym, Meta}
use Rattle.ft_syntax.specs.declared.change.Change.{Change}
use Rattle.ft_syntax.specs.declared.change.Change.TheVariants.{Open, Close, Replace, Raise}

-- the nodes of an expression
pub node_bound : (e : Expression) (i : ℕ) → node_of e ≡ Bound i → e ≡ bound i
node_bound (bound j) i h = cc
node_bound (free v) i h = cc
node_bound (symbol s a) i h = cc
node_bound (meta m a) i h = cc

pub node_free : (e : Expression) (v : ℕ) → node_of e ≡ Free v → e ≡ free v
node_free (bound j) i h = cc
node_free (free v) i h = cc
node_free (symbol s a) i h = cc
node_free (meta m a) i h = cc

pub node_symbol : (e : Expression) (s : ℕ) → node_of e ≡ Sym s → IsApplication (node_of e)
node_symbol e s h = subst IsApplication (sym h) tt

pub node_meta : (e : Expression) (m : ℕ) → node_of e ≡ Meta m → IsApplication (node_of e)
node_meta e m h = subst IsApplication (sym h) tt

-- variables
pub open_there : (ts : List Expression) (t k i : ℕ) → i ≡ k → changed ts (Open t) k (bound i) ≡ tree ts t
unfolding open_at
open_there ts t k i e = if_same i k (tree ts t) (bound i) e

pub open_other : (ts : List Expression) (t k i : ℕ) → i ≢ k → changed ts (Open t) k (bound i) ≡ bound i
unfolding open_at
open_other ts t k i n = if_other i k (tree ts t) (bound i) n

pub open_free : (ts : List Expression) (t k u : ℕ) → changed ts (Open t) k (free u) ≡ free u
unfolding open_at
open_free ts t k u = refl

pub close_bound : (ts : List Expression) (v k i : ℕ) → changed ts (Close v) k (bound i) ≡ bound i
unfolding close_at
close_bound ts v k i = refl

pub close_there : (ts : List Expression) (v k u : ℕ) → u ≡ v → changed ts (Close v) k (free u) ≡ bound k
unfolding close_at
close_there ts v k u e = if_same u v (bound k) (free u) e

pub close_other : (ts : List Expression) (v k u : ℕ) → u ≢ v → changed ts (Close v) k (free u) ≡ free u
unfolding close_at
close_other ts v k u n = if_other u v (bound k) (free u) n

pub replace_bound : (ts : List Expression) (v t k i : ℕ) → changed ts (Replace v t) k (bound i) ≡ bound i
unfolding act
replace_bound ts v t k i = refl

pub replace_there : (ts : List Expression) (v t k u : ℕ) → u ≡ v → changed ts (Replace v t) k (free u) ≡ tree ts t
unfolding act
replace_there ts v t k u e = if_same u v (tree ts t) (free u) e

pub replace_other : (ts : List Expression) (v t k u : ℕ) → u ≢ v → changed ts (Replace v t) k (free u) ≡ free u
unfolding act
replace_other ts v t k u n = if_other u v (tree ts t) (free u) n

pub raise_free : (ts : List Expression) (n k u : ℕ) → changed ts (Raise n) k (free u) ≡ free u
unfolding rename
raise_free ts n k u = refl

pub under_below : (k i n : ℕ) → i < k → under_binders k (λ j. j + n) i ≡ i
unfolding under_binders under_binder
under_below zero i n l = absurd (omega arith)
under_below (suc k) zero n l = refl
under_below (suc k) (suc i) n l = ap suc (under_below k i n (omega arith))

pub under_past : (k i n : ℕ) → k ≤ i → under_binders k (λ j. j + n) i ≡ i + n
unfolding under_binders under_binder
under_past zero i n l = refl
under_past (suc k) zero n l = absurd (omega arith)
under_past (suc k) (suc i) n l = ap suc (under_past k i n (omega arith)) ∙ omega arith

pub raise_within : (ts : List Expression) (n k i : ℕ) → i < k → changed ts (Raise n) k (bound i) ≡ bound i
unfolding rename
raise_within ts n k i l = ap bound (under_below k i n l)

pub raise_past : (ts : List Expression) (n k i : ℕ) → k ≤ i → changed ts (Raise n) k (bound i) ≡ bound (i + n)
unfolding rename
raise_past ts n k i l = ap bound (under_past k i n l)

-- applications
under_binders_add : (n k : ℕ) (r : ℕ → ℕ) → under_binders n (under_binders k r) ≡ under_binders (n + k) r
unfolding under_binders
under_binders_add zero k r = ap (λ l. under_binders l r) (omega arith)
under_binders_add (suc n) k r =
    let e : suc n + k ≡ suc (n + k) = omega arith in
    ap under_binder (under_binders_add n k r) ∙ ap (λ l. under_binders l r) (sym e)

changed_arguments : List Expression → Change → ℕ → Arguments → Arguments
changed_arguments ts (Open t) k a = open_arguments k (tree ts t) a
changed_arguments ts (Close v) k a = close_arguments k v a
changed_arguments ts (Replace v t) k a = act_arguments (in_place_of v (tree ts t)) (λ m k. None) a
changed_arguments ts (Raise n) k a = rename_arguments (under_binders k (λ i. i + n)) a

changed_terms : List Expression → Change → ℕ → Terms → Terms
changed_terms ts (Open t) k a = open_terms k (tree ts t) a
changed_terms ts (Close v) k a = close_terms k v a
changed_terms ts (Replace v t) k a = act_terms (in_place_of v (tree ts t)) (λ m k. None) a
changed_terms ts (Raise n) k a = rename_terms (under_binders k (λ i. i + n)) a

changed_symbol : (ts : List Expression) (c : Change) (k s : ℕ) (a : Arguments) → changed ts c k (symbol s a) ≡ symbol s (changed_arguments ts c k a)
unfolding changed_arguments open_at close_at act rename
changed_symbol ts (Open t) k s a = refl
changed_symbol ts (Close v) k s a = refl
changed_symbol ts (Replace v t) k s a = refl
changed_symbol ts (Raise n) k s a = refl

changed_meta : (ts : List Expression) (c : Change) (k m : ℕ) (a : Terms) → changed ts c k (meta m a) ≡ meta m (changed_terms ts c k a)
unfolding changed_terms open_at close_at act rename body_or
changed_meta ts (Open t) k m a = refl
changed_meta ts (Close v) k m a = refl
changed_meta ts (Replace v t) k m a = refl
changed_meta ts (Raise n) k m a = refl

changed_none : (ts : List Expression) (c : Change) (k : ℕ) → changed_arguments ts c k no_arguments ≡ no_arguments
unfolding changed_arguments open_arguments close_arguments act_arguments rename_arguments
changed_none ts (Open t) k = refl
changed_none ts (Close v) k = refl
changed_none ts (Replace v t) k = refl
changed_none ts (Raise n) k = refl

changed_body : (ts : List Expression) (c : Change) (k n : ℕ) (e : Expression) (a : Arguments) → changed_arguments ts c k (with_body n e a) ≡ with_body n (changed ts c (n + k) e) (changed_arguments ts c k a)
unfolding changed_arguments open_arguments close_arguments act_arguments rename_arguments
changed_body ts (Open t) k n e a = refl
changed_body ts (Close v) k n e a = refl
changed_body ts (Replace v t) k n e a = refl
changed_body ts (Raise m) k n e a = ap (λ r. with_body n (rename r e) (rename_arguments (under_binders k (λ i. i + m)) a)) (under_binders_add n k (λ i. i + m))

changed_dummy : (ts : List Expression) (c : Change) (k n : ℕ) (a : Arguments) → changed_arguments ts c k (dummy n a) ≡ dummy n (changed_arguments ts c k a)
unfolding changed_arguments open_arguments close_arguments act_arguments rename_arguments
changed_dummy ts (Open t) k n a = refl
changed_dummy ts (Close v) k n a = refl
changed_dummy ts (Replace v t) k n a = refl
changed_dummy ts (Raise m) k n a = refl

changed_no_terms : (ts : List Expression) (c : Change) (k : ℕ) → changed_terms ts c k no_terms ≡ no_terms
unfolding changed_terms open_terms close_terms act_terms rename_terms
changed_no_terms ts (Open t) k = refl
changed_no_terms ts (Close v) k = refl
changed_no_terms ts (Replace v t) k = refl
changed_no_terms ts (Raise n) k = refl

changed_also : (ts : List Expression) (c : Change) (k : ℕ) (t : Expression) (a : Terms) → changed_terms ts c k (also t a) ≡ also (changed ts c k t) (changed_terms ts c k a)
unfolding changed_terms open_terms close_terms act_terms rename_terms
changed_also ts (Open t) k u a = refl
changed_also ts (Close v) k u a = refl
changed_also ts (Replace v t) k u a = refl
changed_also ts (Raise m) k u a = refl

changed_list : (ts : List Expression) (c : Change) (k : ℕ) (ps : List Argument) → changed_arguments ts c k (as_arguments ps) ≡ as_arguments (map (changed_argument ts c k) ps)
changed_list ts c k [] = changed_none ts c k
changed_list ts c k ((n, Some e) ∷ ps) = changed_body ts c k n e (as_arguments ps) ∙ ap (with_body n (changed ts c (n + k) e)) (changed_list ts c k ps)
changed_list ts c k ((n, None) ∷ ps) = changed_dummy ts c k n (as_arguments ps) ∙ ap (dummy n) (changed_list ts c k ps)

changed_term_list : (ts : List Expression) (c : Change) (k : ℕ) (ps : List Argument) → AreTerms ps → changed_terms ts c k (as_terms ps) ≡ as_terms (map (changed_argument ts c k) ps)
changed_term_list ts c k [] h = changed_no_terms ts c k
changed_term_list ts c k ((n, Some e) ∷ ps) h =
    let d : k ≡ n + k = omega (arith, h.0) in
    changed_also ts c k e (as_terms ps) ∙ ap₂ (λ l a. also (changed ts c l e) a) d (changed_term_list ts c k ps h.1)
changed_term_list ts c k ((n, None) ∷ ps) h = absurd h.0

pub changed_applied : (ts : List Expression) (c : Change) (k : ℕ) (h : Node) (ps : List Argument) → IsApplication h → FitsNode h ps → changed ts c k (applied h ps) ≡ applied h (map (changed_argument ts c k) ps)
changed_applied ts c k (Bound i) ps a f = absurd a
changed_applied ts c k (Free v) ps a f = absurd a
changed_applied ts c k (Sym s) ps a f = changed_symbol ts c k s (as_arguments ps) ∙ ap (symbol s) (changed_list ts c k ps)
changed_applied ts c k (Meta m) ps a f = changed_meta ts c k m (as_terms ps) ∙ ap (meta m) (changed_term_list ts c k ps f)

-- Depths past all numbers are alike, where the outcome's numbers fit.
abbrev pub IsFar : ℕ → Type 0
IsFar k = 2 ^ 64 ≤ suc k

abbrev FarSame : List Expression → Change → ℕ → ℕ → Expression → Type 0
FarSame ts c k l e = NumbersFit e → NumbersFit (changed ts c k e) → changed ts c k e ≡ changed ts c l e

far_bound : (ts : List Expression) (c : Change) (k l i : ℕ) → IsFar k → IsFar l → FarSame ts c k l (bound i)
far_bound ts (Open t) k l i f g h n = open_other ts t k i (λ e. absurd (omega arith)) ∙ sym (open_other ts t l i (λ e. absurd (omega arith)))
far_bound ts (Close v) k l i f g h n = close_bound ts v k i ∙ sym (close_bound ts v l i)
far_bound ts (Replace v t) k l i f g h n = refl
far_bound ts (Raise m) k l i f g h n = raise_within ts m k i (omega arith) ∙ sym (raise_within ts m l i (omega arith))

far_free : (ts : List Expression) (c : Change) (k l u : ℕ) → IsFar k → IsFar l → FarSame ts c k l (free u)
far_free ts (Open t) k l u f g h n = open_free ts t k u ∙ sym (open_free ts t l u)
far_free ts (Close v) k l u f g h n = go (eqb_tells u v)
  where
    go : ((nat_eq u v ≡ true) × (u ≡ v)) ⊎ ((nat_eq u v ≡ false) × (u ≢ v)) → changed ts (Close v) k (free u) ≡ changed ts (Close v) l (free u)
    go (inl t) = let b : suc k < 2 ^ 64 = subst NumbersFit (close_there ts v k u t.1) n in absurd (omega arith)
    go (inr t) = close_other ts v k u t.1 ∙ sym (close_other ts v l u t.1)
far_free ts (Replace v t) k l u f g h n = refl
far_free ts (Raise m) k l u f g h n = raise_free ts m k u ∙ sym (raise_free ts m l u)

mutual
  pub far : (e : Expression) (ts : List Expression) (c : Change) (k l : ℕ) → IsFar k → IsFar l → FarSame ts c k l e
  far (bound i) ts c k l f g h n = far_bound ts c k l i f g h n
  far (free v) ts c k l f g h n = far_free ts c k l v f g h n
  far (symbol s a) ts c k l f g h n =
      changed_symbol ts c k s a ∙ ap (symbol s) (far_arguments a ts c k l f g h (subst NumbersFit (changed_symbol ts c k s a) n)) ∙ sym (changed_symbol ts c l s a)
  far (meta m a) ts c k l f g h n =
      changed_meta ts c k m a ∙ ap (meta m) (far_terms a ts c k l f g h (subst NumbersFit (changed_meta ts c k m a) n)) ∙ sym (changed_meta ts c l m a)

  far_arguments : (a : Arguments) (ts : List Expression) (c : Change) (k l : ℕ) → IsFar k → IsFar l → NumbersFitInArguments a → NumbersFitInArguments (changed_arguments ts c k a) → changed_arguments ts c k a ≡ changed_arguments ts c l a
  far_arguments no_arguments ts c k l f g h n = changed_none ts c k ∙ sym (changed_none ts c l)
  far_arguments (with_body m e a) ts c k l f g h n =
      let q = subst NumbersFitInArguments (changed_body ts c k m e a) n in
      changed_body ts c k m e a ∙ ap₂ (with_body m) (far e ts c (m + k) (m + l) (omega arith) (omega arith) h.1 q.1) (far_arguments a ts c k l f g h.2 q.2) ∙ sym (changed_body ts c l m e a)
  far_arguments (dummy m a) ts c k l f g h n =
      let q = subst NumbersFitInArguments (changed_dummy ts c k m a) n in
      changed_dummy ts c k m a ∙ ap (dummy m) (far_arguments a ts c k l f g h.1 q.1) ∙ sym (changed_dummy ts c l m a)

  far_terms : (a : Terms) (ts : List Expression) (c : Change) (k l : ℕ) → IsFar k → IsFar l → NumbersFitInTerms a → NumbersFitInTerms (changed_terms ts c k a) → changed_terms ts c k a ≡ changed_terms ts c l a
  far_terms no_terms ts c k l f g h n = changed_no_terms ts c k ∙ sym (changed_no_terms ts c l)
  far_terms (also t a) ts c k l f g h n =
      let q = subst NumbersFitInTerms (changed_also ts c k t a) n in
      changed_also ts c k t a ∙ ap₂ also (far t ts c k l f g h.0 q.0) (far_terms a ts c k l f g h.1 q.1) ∙ sym (changed_also ts c l t a)

-- the depth below more binders, cut at the end of its type
cut_same : (ts : List Expression) (c : Change) (k : ℕ) (e : Expression) → NumbersFit e → NumbersFit (changed ts c (min k (2 ^ 64 - 1)) e) ⊎ NumbersFit (changed ts c k e) → changed ts c (min k (2 ^ 64 - 1)) e ≡ changed ts c k e
cut_same ts c k e f n = go (leb_tells k (2 ^ 64 - 1)) n
  where
    go : ((nat_le k (2 ^ 64 - 1) ≡ true) × (k ≤ 2 ^ 64 - 1)) ⊎ ((nat_le k (2 ^ 64 - 1) ≡ false) × (2 ^ 64 - 1 < k)) → NumbersFit (changed ts c (min k (2 ^ 64 - 1)) e) ⊎ NumbersFit (changed ts c k e) → changed ts c (min k (2 ^ 64 - 1)) e ≡ changed ts c k e
    go (inl q) n = ap (λ m. changed ts c m e) (omega (arith, q.1))
    go (inr q) (inl n) = far e ts c (min k (2 ^ 64 - 1)) k (omega (arith, q.1)) (omega (arith, q.1)) f n
    go (inr q) (inr n) = sym (far e ts c k (min k (2 ^ 64 - 1)) (omega (arith, q.1)) (omega (arith, q.1)) f n)

pub cut_tree : (ts : List Expression) (c : Change) (k l : ℕ) (e r : Expression) → l ≡ min k (2 ^ 64 - 1) → IsSmall e → r ≡ changed ts c l e → IsSmall r → r ≡ changed ts c k e
cut_tree ts c k l e r h s q t =
    let q' : r ≡ changed ts c (min k (2 ^ 64 - 1)) e = q ∙ ap (λ m. changed ts c m e) h in
    q' ∙ cut_same ts c k e s.kept.2 (inl (subst NumbersFit q' t.kept.2))

pub cut_refused : (ts : List Expression) (c : Change) (k l : ℕ) (e : Expression) → l ≡ min k (2 ^ 64 - 1) → IsSmall e → (IsSmall (changed ts c l e) → ⊥) → IsSmall (changed ts c k e) → ⊥
cut_refused ts c k l e h s n t = n (subst IsSmall (sym (ap (λ m. changed ts c m e) h ∙ cut_same ts c k e s.kept.2 (inr t.kept.2))) t)

-- the same, of a change that is known by an equation
pub opened_there : (ts : List Expression) (c : Change) (t k i : ℕ) → c ≡ Open t → i ≡ k → changed ts c k (bound i) ≡ tree ts t
opened_there ts c t k i h e = ap (λ d. changed ts d k (bound i)) h ∙ open_there ts t k i e

pub opened_other : (ts : List Expression) (c : Change) (t k i : ℕ) → c ≡ Open t → i ≢ k → changed ts c k (bound i) ≡ bound i
opened_other ts c t k i h n = ap (λ d. changed ts d k (bound i)) h ∙ open_other ts t k i n

pub opened_free : (ts : List Expression) (c : Change) (t k u : ℕ) → c ≡ Open t → changed ts c k (free u) ≡ free u
opened_free ts c t k u h = ap (λ d. changed ts d k (free u)) h ∙ open_free ts t k u

pub closed_bound : (ts : List Expression) (c : Change) (v k i : ℕ) → c ≡ Close v → changed ts c k (bound i) ≡ bound i
closed_bound ts c v k i h = ap (λ d. changed ts d k (bound i)) h ∙ close_bound ts v k i

pub closed_there : (ts : List Expression) (c : Change) (v k u : ℕ) → c ≡ Close v → u ≡ v → changed ts c k (free u) ≡ bound k
closed_there ts c v k u h e = ap (λ d. changed ts d k (free u)) h ∙ close_there ts v k u e

pub closed_other : (ts : List Expression) (c : Change) (v k u : ℕ) → c ≡ Close v → u ≢ v → changed ts c k (free u) ≡ free u
closed_other ts c v k u h n = ap (λ d. changed ts d k (free u)) h ∙ close_other ts v k u n

pub replaced_bound : (ts : List Expression) (c : Change) (v t k i : ℕ) → c ≡ Replace v t → changed ts c k (bound i) ≡ bound i
replaced_bound ts c v t k i h = ap (λ d. changed ts d k (bound i)) h ∙ replace_bound ts v t k i

pub replaced_there : (ts : List Expression) (c : Change) (v t k u : ℕ) → c ≡ Replace v t → u ≡ v → changed ts c k (free u) ≡ tree ts t
replaced_there ts c v t k u h e = ap (λ d. changed ts d k (free u)) h ∙ replace_there ts v t k u e

pub replaced_other : (ts : List Expression) (c : Change) (v t k u : ℕ) → c ≡ Replace v t → u ≢ v → changed ts c k (free u) ≡ free u
replaced_other ts c v t k u h n = ap (λ d. changed ts d k (free u)) h ∙ replace_other ts v t k u n

pub raised_free : (ts : List Expression) (c : Change) (n k u : ℕ) → c ≡ Raise n → changed ts c k (free u) ≡ free u
raised_free ts c n k u h = ap (λ d. changed ts d k (free u)) h ∙ raise_free ts n k u

pub raised_within : (ts : List Expression) (c : Change) (n k i : ℕ) → c ≡ Raise n → i < k → changed ts c k (bound i) ≡ bound i
raised_within ts c n k i h l = ap (λ d. changed ts d k (bound i)) h ∙ raise_within ts n k i l

pub raised_past : (ts : List Expression) (c : Change) (n k i : ℕ) → c ≡ Raise n → k ≤ i → changed ts c k (bound i) ≡ bound (i + n)
raised_past ts c n k i h l = ap (λ d. changed ts d k (bound i)) h ∙ raise_past ts n k i l

pub small_bound : (e : Expression) (i : ℕ) → e ≡ bound i → 2 ^ 64 ≤ i → IsSmall e → ⊥
small_bound e i h l s = let n : suc i < 2 ^ 64 = subst NumbersFit h s.kept.2 in omega arith

-- the body of an argument
pub cut_body : (ts us : List Expression) (c : Change) (k l e r : ℕ) (b : Option ℕ) → b ≡ Some e → l ≡ min k (2 ^ 64 - 1) → IsSmall (tree ts e) → tree us r ≡ changed ts c l (tree ts e) → IsSmall (tree us r) →
    Some (tree us r) ≡ option_map (changed ts c k) (option_map (tree ts) b)
cut_body ts us c k l e r b h q s t u = ap Some (cut_tree ts c k l (tree ts e) (tree us r) q s t u) ∙ ap (λ d. option_map (changed ts c k) (option_map (tree ts) d)) (sym h)

pub cut_body_refused : (ts : List Expression) (c : Change) (k l e : ℕ) (b : Option ℕ) → b ≡ Some e → l ≡ min k (2 ^ 64 - 1) → IsSmall (tree ts e) → (IsSmall (changed ts c l (tree ts e)) → ⊥) →
    IsSmallBody (option_map (changed ts c k) (option_map (tree ts) b)) → ⊥
cut_body_refused ts c k l e b h q s n t = cut_refused ts c k l (tree ts e) q s n (subst (λ d. IsSmallBody (option_map (changed ts c k) (option_map (tree ts) d))) h t)
