-- Terms put for the variables of a body, below binders.
use Rattle.std.proofs.Common.{◌≡◌, ℕ, zero, suc, ◌+◌, ◌-◌, ◌^◌, ◌<◌, ◌≤◌, min, max, List, [], ◌∷◌, length, get_or, map, Option, Some, None, nat_le, true, false, ◌⊎◌, inl, inr, refl, sym, ap, ap₂, ◌∙◌, subst, arith}
use Rattle.std.proofs.lemmas.Bool.Decides.{leb_tells}
use Rattle.ft_theory.specs.Expressions.{Expression, bound, free, symbol, meta, Arguments, no_arguments, with_body, dummy, Terms, no_terms, also, count, under_binder, under_binders, rename, rename_arguments, rename_terms, lift, lifts, put, put_arguments, put_terms, push, pushes}
use Rattle.ft_theory.specs.Small.{depth, depth_of_arguments, depth_of_terms, size, size_of_arguments, size_of_terms, IsSmall, NumbersFit, NumbersFitInArguments, NumbersFitInTerms}
use Rattle.ft_syntax.specs.Arguments.{Argument, as_arguments, as_terms, applied, AreTerms, FitsNode, IsApplication}
use Rattle.ft_syntax.specs.Table.{tree, BodyBelow}
use Rattle.ft_syntax.specs.Changes.{changed}
use Rattle.ft_syntax.specs.Instances.{planted, planted_argument, IsTermOf, AreTermsOf, BodiesBelow}
use Rattle.ft_syntax.specs.declared.syntax.Node.{Node}
use Rattle.ft_syntax.specs.declared.syntax.Node.TheVariants.{Bound, Free, Sym, Meta}
use Rattle.ft_syntax.specs.declared.change.Change.TheVariants.{Raise}
use Rattle.ft_syntax.proofs.Changes.{IsFar}

-- renamings
under_same : (n : ℕ) (r : ℕ → ℕ) → ((i : ℕ) → r i ≡ i) → (i : ℕ) → under_binders n r i ≡ i
unfolding under_binders under_binder
under_same zero r h i = h i
under_same (suc n) r h zero = refl
under_same (suc n) r h (suc i) = ap suc (under_same n r h i)

under_both : (n : ℕ) (r s q : ℕ → ℕ) → ((i : ℕ) → r (s i) ≡ q i) → (i : ℕ) → under_binders n r (under_binders n s i) ≡ under_binders n q i
unfolding under_binders under_binder
under_both zero r s q h i = h i
under_both (suc n) r s q h zero = refl
under_both (suc n) r s q h (suc i) = ap suc (under_both n r s q h i)

under_rises : (n : ℕ) (r : ℕ → ℕ) → ((i : ℕ) → i ≤ r i) → (i : ℕ) → i ≤ under_binders n r i
unfolding under_binders under_binder
under_rises zero r h i = h i
under_rises (suc n) r h zero = omega arith
under_rises (suc n) r h (suc i) = omega (arith, under_rises n r h i)

mutual
  unfolding rename rename_arguments rename_terms

  rename_same : (e : Expression) (r : ℕ → ℕ) → ((i : ℕ) → r i ≡ i) → rename r e ≡ e
  rename_same (bound i) r h = ap bound (h i)
  rename_same (free v) r h = refl
  rename_same (symbol s a) r h = ap (symbol s) (rename_same_arguments a r h)
  rename_same (meta m a) r h = ap (meta m) (rename_same_terms a r h)

  rename_same_arguments : (a : Arguments) (r : ℕ → ℕ) → ((i : ℕ) → r i ≡ i) → rename_arguments r a ≡ a
  rename_same_arguments no_arguments r h = refl
  rename_same_arguments (with_body n e a) r h = ap₂ (with_body n) (rename_same e (under_binders n r) (under_same n r h)) (rename_same_arguments a r h)
  rename_same_arguments (dummy n a) r h = ap (dummy n) (rename_same_arguments a r h)

  rename_same_terms : (a : Terms) (r : ℕ → ℕ) → ((i : ℕ) → r i ≡ i) → rename_terms r a ≡ a
  rename_same_terms no_terms r h = refl
  rename_same_terms (also t a) r h = ap₂ also (rename_same t r h) (rename_same_terms a r h)

mutual
  unfolding rename rename_arguments rename_terms

  rename_both : (e : Expression) (r s q : ℕ → ℕ) → ((i : ℕ) → r (s i) ≡ q i) → rename r (rename s e) ≡ rename q e
  rename_both (bound i) r s q h = ap bound (h i)
  rename_both (free v) r s q h = refl
  rename_both (symbol f a) r s q h = ap (symbol f) (rename_both_arguments a r s q h)
  rename_both (meta m a) r s q h = ap (meta m) (rename_both_terms a r s q h)

  rename_both_arguments : (a : Arguments) (r s q : ℕ → ℕ) → ((i : ℕ) → r (s i) ≡ q i) → rename_arguments r (rename_arguments s a) ≡ rename_arguments q a
  rename_both_arguments no_arguments r s q h = refl
  rename_both_arguments (with_body n e a) r s q h = ap₂ (with_body n) (rename_both e (under_binders n r) (under_binders n s) (under_binders n q) (under_both n r s q h)) (rename_both_arguments a r s q h)
  rename_both_arguments (dummy n a) r s q h = ap (dummy n) (rename_both_arguments a r s q h)

  rename_both_terms : (a : Terms) (r s q : ℕ → ℕ) → ((i : ℕ) → r (s i) ≡ q i) → rename_terms r (rename_terms s a) ≡ rename_terms q a
  rename_both_terms no_terms r s q h = refl
  rename_both_terms (also t a) r s q h = ap₂ also (rename_both t r s q h) (rename_both_terms a r s q h)

-- a renaming keeps depth and size, and one that raises gives no smaller numbers
mutual
  unfolding rename rename_arguments rename_terms

  depth-rename : (e : Expression) (r : ℕ → ℕ) → depth (rename r e) ≡ depth e
  depth-rename (bound i) r = refl
  depth-rename (free v) r = refl
  depth-rename (symbol s a) r = ap suc (depth-rename_arguments a r)
  depth-rename (meta m a) r = ap suc (depth-rename_terms a r)

  depth-rename_arguments : (a : Arguments) (r : ℕ → ℕ) → depth_of_arguments (rename_arguments r a) ≡ depth_of_arguments a
  depth-rename_arguments no_arguments r = refl
  depth-rename_arguments (with_body n e a) r = ap₂ max (depth-rename e (under_binders n r)) (depth-rename_arguments a r)
  depth-rename_arguments (dummy n a) r = depth-rename_arguments a r

  depth-rename_terms : (a : Terms) (r : ℕ → ℕ) → depth_of_terms (rename_terms r a) ≡ depth_of_terms a
  depth-rename_terms no_terms r = refl
  depth-rename_terms (also t a) r = ap₂ max (depth-rename t r) (depth-rename_terms a r)

mutual
  unfolding rename rename_arguments rename_terms

  size-rename : (e : Expression) (r : ℕ → ℕ) → size (rename r e) ≡ size e
  size-rename (bound i) r = refl
  size-rename (free v) r = refl
  size-rename (symbol s a) r = ap suc (size-rename_arguments a r)
  size-rename (meta m a) r = ap suc (size-rename_terms a r)

  size-rename_arguments : (a : Arguments) (r : ℕ → ℕ) → size_of_arguments (rename_arguments r a) ≡ size_of_arguments a
  size-rename_arguments no_arguments r = refl
  size-rename_arguments (with_body n e a) r = ap₂ (λ j k. j + k) (size-rename e (under_binders n r)) (size-rename_arguments a r)
  size-rename_arguments (dummy n a) r = size-rename_arguments a r

  size-rename_terms : (a : Terms) (r : ℕ → ℕ) → size_of_terms (rename_terms r a) ≡ size_of_terms a
  size-rename_terms no_terms r = refl
  size-rename_terms (also t a) r = ap₂ (λ j k. j + k) (size-rename t r) (size-rename_terms a r)

mutual
  unfolding rename rename_arguments rename_terms

  numbers-rename : (e : Expression) (r : ℕ → ℕ) → ((i : ℕ) → i ≤ r i) → NumbersFit (rename r e) → NumbersFit e
  numbers-rename (bound i) r h n = omega (arith, h i)
  numbers-rename (free v) r h n = tt
  numbers-rename (symbol s a) r h n = numbers-rename_arguments a r h n
  numbers-rename (meta m a) r h n = numbers-rename_terms a r h n

  numbers-rename_arguments : (a : Arguments) (r : ℕ → ℕ) → ((i : ℕ) → i ≤ r i) → NumbersFitInArguments (rename_arguments r a) → NumbersFitInArguments a
  numbers-rename_arguments no_arguments r h n = tt
  numbers-rename_arguments (with_body m e a) r h n = (n.0, numbers-rename e (under_binders m r) (under_rises m r h) n.1, numbers-rename_arguments a r h n.2)
  numbers-rename_arguments (dummy m a) r h n = (n.0, numbers-rename_arguments a r h n.1)

  numbers-rename_terms : (a : Terms) (r : ℕ → ℕ) → ((i : ℕ) → i ≤ r i) → NumbersFitInTerms (rename_terms r a) → NumbersFitInTerms a
  numbers-rename_terms no_terms r h n = tt
  numbers-rename_terms (also t a) r h n = (numbers-rename t r h n.0, numbers-rename_terms a r h n.1)

small_raised : (e : Expression) (k : ℕ) → IsSmall (rename (λ i. i + k) e) → IsSmall e
small_raised e k s =
    record { kept = (omega (arith, s.kept.0, depth-rename e (λ i. i + k)), omega (arith, s.kept.1, size-rename e (λ i. i + k)), numbers-rename e (λ i. i + k) (λ i. omega arith) s.kept.2) }

-- a substitution below binders
lifts_within : (k : ℕ) (s : ℕ → Expression) (i : ℕ) → i < k → lifts k s i ≡ bound i
unfolding lifts lift rename
lifts_within zero s i l = absurd (omega arith)
lifts_within (suc k) s zero l = refl
lifts_within (suc k) s (suc i) l = ap (rename suc) (lifts_within k s i (omega arith))

lifts_past : (k : ℕ) (s : ℕ → Expression) (j : ℕ) → lifts k s (j + k) ≡ rename (λ i. i + k) (s j)
unfolding lifts lift
lifts_past zero s j = ap s (omega arith) ∙ sym (rename_same (s j) (λ i. i + zero) (λ i. omega arith))
lifts_past (suc k) s j =
    let e : j + suc k ≡ suc (j + k) = omega arith in
    ap (lift (lifts k s)) e ∙ ap (rename suc) (lifts_past k s j) ∙ rename_both (s j) suc (λ i. i + k) (λ i. i + suc k) (λ i. omega arith)

lifts_add : (n k : ℕ) (s : ℕ → Expression) → lifts n (lifts k s) ≡ lifts (n + k) s
unfolding lifts
lifts_add zero k s = ap (λ l. lifts l s) (omega arith)
lifts_add (suc n) k s =
    let e : suc n + k ≡ suc (n + k) = omega arith in
    ap lift (lifts_add n k s) ∙ ap (λ l. lifts l s) (sym e)

-- the term at a place from the front
term_at : Terms → ℕ → Expression
term_at no_terms p = bound zero
term_at (also t a) zero = t
term_at (also t a) (suc p) = term_at a p

pushes_past : (a : Terms) (s : ℕ → Expression) (j : ℕ) → pushes s a (j + count a) ≡ s j
unfolding pushes push count
pushes_past no_terms s j = ap s (omega arith)
pushes_past (also t a) s j = ap (pushes (push s t) a) (omega arith) ∙ pushes_past a (push s t) (suc j)

pushes_within : (a : Terms) (s : ℕ → Expression) (p j : ℕ) → p + suc j ≡ count a → pushes s a j ≡ term_at a p
unfolding pushes push count term_at
pushes_within no_terms s p j h = absurd (omega (arith, h))
pushes_within (also t a) s zero j h = ap (pushes (push s t) a) (omega (arith, h)) ∙ pushes_past a (push s t) zero
pushes_within (also t a) s (suc p) j h = pushes_within a (push s t) p j (omega (arith, h))

-- the terms of the table
pub count_terms : (ts : List Expression) (xs : List (Option ℕ)) (a : Terms) → AreTermsOf ts xs a → count a ≡ length xs
unfolding count
count_terms ts [] no_terms h = refl
count_terms ts [] (also t a) h = absurd h
count_terms ts (x ∷ xs) no_terms h = absurd h
count_terms ts (x ∷ xs) (also t a) h = ap suc (count_terms ts xs a h.1)

term_of : (ts : List Expression) (xs : List (Option ℕ)) (a : Terms) (p : ℕ) (x : Option ℕ) → AreTermsOf ts xs a → p < length xs → x ≡ get_or xs p x → IsTermOf ts x (term_at a p)
unfolding term_at
term_of ts [] a p x h l g = absurd (omega arith)
term_of ts (y ∷ xs) no_terms p x h l g = absurd h
term_of ts (y ∷ xs) (also t a) zero x h l g = subst (λ z. IsTermOf ts z t) (sym g) h.0
term_of ts (y ∷ xs) (also t a) (suc p) x h l g = term_of ts xs a p x h.1 (omega arith) g

pub bodies_at : (n p : ℕ) (xs : List (Option ℕ)) (x : Option ℕ) → BodiesBelow n xs → p < length xs → x ≡ get_or xs p x → BodyBelow n x
bodies_at n p [] x h l g = absurd (omega arith)
bodies_at n zero (y ∷ xs) x h l g = subst (BodyBelow n) (sym g) h.0
bodies_at n (suc p) (y ∷ xs) x h l g = bodies_at n p xs x h.1 (omega arith) g

pub body_some : (n j : ℕ) (x : Option ℕ) → BodyBelow n x → x ≡ Some j → j < n
body_some n j x h e = subst (BodyBelow n) e h

-- a variable of the body
pub planted_within : (a : Terms) (k i : ℕ) → i < k → planted a k (bound i) ≡ bound i
unfolding put
planted_within a k i l = lifts_within k (pushes bound a) i l

pub planted_past : (ts : List Expression) (xs : List (Option ℕ)) (a : Terms) (k i : ℕ) → AreTermsOf ts xs a → k + length xs ≤ i → planted a k (bound i) ≡ bound (i - length xs)
unfolding put rename
planted_past ts xs a k i h l =
    let n = count_terms ts xs a h in
    let j = i - (k + length xs) in
    let e : i ≡ (j + count a) + k = omega (arith, n) in
    ap (lifts k (pushes bound a)) e ∙ lifts_past k (pushes bound a) (j + count a) ∙ ap (rename (λ i. i + k)) (pushes_past a bound j) ∙ ap bound (omega (arith, n))

planted_there : (ts : List Expression) (xs : List (Option ℕ)) (a : Terms) (k i : ℕ) → AreTermsOf ts xs a → k ≤ i → i < k + length xs → planted a k (bound i) ≡ rename (λ j. j + k) (term_at a (length xs - 1 - (i - k)))
unfolding put
planted_there ts xs a k i h l m =
    let n = count_terms ts xs a h in
    let e : i ≡ (i - k) + k = omega arith in
    ap (lifts k (pushes bound a)) e ∙ lifts_past k (pushes bound a) (i - k) ∙ ap (rename (λ j. j + k)) (pushes_within a bound (length xs - 1 - (i - k)) (i - k) (omega (arith, n)))

pub raise_is : (ts : List Expression) (k : ℕ) (e : Expression) → changed ts (Raise k) zero e ≡ rename (λ j. j + k) e
unfolding under_binders
raise_is ts k e = refl

pub raise_small : (ts : List Expression) (k : ℕ) (e : Expression) → (IsSmall (changed ts (Raise k) zero e) → ⊥) → IsSmall (rename (λ j. j + k) e) → ⊥
raise_small ts k e n s = n (subst IsSmall (sym (raise_is ts k e)) s)

pub planted_some : (ts : List Expression) (xs : List (Option ℕ)) (a : Terms) (k i j : ℕ) (x : Option ℕ) → AreTermsOf ts xs a → k ≤ i → i < k + length xs → x ≡ get_or xs (length xs - 1 - (i - k)) x → x ≡ Some j →
    planted a k (bound i) ≡ rename (λ j. j + k) (tree ts j)
planted_some ts xs a k i j x h l m g e =
    let t : tree ts j ≡ term_at a (length xs - 1 - (i - k)) = subst (λ z. IsTermOf ts z (term_at a (length xs - 1 - (i - k)))) e (term_of ts xs a (length xs - 1 - (i - k)) x h (omega arith) g) in
    planted_there ts xs a k i h l m ∙ ap (rename (λ j. j + k)) (sym t)

pub planted_none : (ts : List Expression) (xs : List (Option ℕ)) (a : Terms) (k i : ℕ) (x : Option ℕ) → AreTermsOf ts xs a → k ≤ i → i < k + length xs → x ≡ get_or xs (length xs - 1 - (i - k)) x → x ≡ None →
    IsSmall (planted a k (bound i)) → ⊥
planted_none ts xs a k i x h l m g e s =
    let n : IsSmall (term_at a (length xs - 1 - (i - k))) → ⊥ = subst (λ z. IsTermOf ts z (term_at a (length xs - 1 - (i - k)))) e (term_of ts xs a (length xs - 1 - (i - k)) x h (omega arith) g) in
    n (small_raised (term_at a (length xs - 1 - (i - k))) k (subst IsSmall (planted_there ts xs a k i h l m) s))

pub planted_free : (a : Terms) (k v : ℕ) → planted a k (free v) ≡ free v
unfolding put
planted_free a k v = refl

-- applications
planted_list : (a : Terms) (k : ℕ) (ps : List Argument) → put_arguments (lifts k (pushes bound a)) (as_arguments ps) ≡ as_arguments (map (planted_argument a k) ps)
unfolding put_arguments
planted_list a k [] = refl
planted_list a k ((n, Some e) ∷ ps) = ap₂ (λ s b. with_body n (put s e) b) (lifts_add n k (pushes bound a)) (planted_list a k ps)
planted_list a k ((n, None) ∷ ps) = ap (dummy n) (planted_list a k ps)

planted_terms : (a : Terms) (k : ℕ) (ps : List Argument) → AreTerms ps → put_terms (lifts k (pushes bound a)) (as_terms ps) ≡ as_terms (map (planted_argument a k) ps)
unfolding put_terms
planted_terms a k [] h = refl
planted_terms a k ((n, Some e) ∷ ps) h =
    let d : k ≡ n + k = omega (arith, h.0) in
    ap₂ (λ l b. also (planted a l e) b) d (planted_terms a k ps h.1)
planted_terms a k ((n, None) ∷ ps) h = absurd h.0

pub planted_applied : (a : Terms) (k : ℕ) (h : Node) (ps : List Argument) → IsApplication h → FitsNode h ps → planted a k (applied h ps) ≡ applied h (map (planted_argument a k) ps)
unfolding put
planted_applied a k (Bound i) ps q f = absurd q
planted_applied a k (Free v) ps q f = absurd q
planted_applied a k (Sym s) ps q f = ap (symbol s) (planted_list a k ps)
planted_applied a k (Meta m) ps q f = ap (meta m) (planted_terms a k ps f)

-- depths past all numbers are alike
mutual
  unfolding put put_arguments put_terms

  far_planted : (e : Expression) (a : Terms) (k l : ℕ) → IsFar k → IsFar l → NumbersFit e → planted a k e ≡ planted a l e
  far_planted (bound i) a k l f g n = planted_within a k i (omega arith) ∙ sym (planted_within a l i (omega arith))
  far_planted (free v) a k l f g n = refl
  far_planted (symbol s b) a k l f g n = ap (symbol s) (far_planted_arguments b a k l f g n)
  far_planted (meta m b) a k l f g n = ap (meta m) (far_planted_terms b a k l f g n)

  far_planted_arguments : (b : Arguments) (a : Terms) (k l : ℕ) → IsFar k → IsFar l → NumbersFitInArguments b → put_arguments (lifts k (pushes bound a)) b ≡ put_arguments (lifts l (pushes bound a)) b
  far_planted_arguments no_arguments a k l f g n = refl
  far_planted_arguments (with_body m e b) a k l f g n =
      ap₂ (with_body m) (ap (λ s. put s e) (lifts_add m k (pushes bound a)) ∙ far_planted e a (m + k) (m + l) (omega arith) (omega arith) n.1 ∙ sym (ap (λ s. put s e) (lifts_add m l (pushes bound a)))) (far_planted_arguments b a k l f g n.2)
  far_planted_arguments (dummy m b) a k l f g n = ap (dummy m) (far_planted_arguments b a k l f g n.1)

  far_planted_terms : (b : Terms) (a : Terms) (k l : ℕ) → IsFar k → IsFar l → NumbersFitInTerms b → put_terms (lifts k (pushes bound a)) b ≡ put_terms (lifts l (pushes bound a)) b
  far_planted_terms no_terms a k l f g n = refl
  far_planted_terms (also t b) a k l f g n = ap₂ also (far_planted t a k l f g n.0) (far_planted_terms b a k l f g n.1)

pub cut_planted : (a : Terms) (k l : ℕ) (e : Expression) → l ≡ min k (2 ^ 64 - 1) → IsSmall e → planted a l e ≡ planted a k e
cut_planted a k l e h s = go (leb_tells k (2 ^ 64 - 1))
  where
    go : ((nat_le k (2 ^ 64 - 1) ≡ true) × (k ≤ 2 ^ 64 - 1)) ⊎ ((nat_le k (2 ^ 64 - 1) ≡ false) × (2 ^ 64 - 1 < k)) → planted a l e ≡ planted a k e
    go (inl q) = ap (λ m. planted a m e) (omega (arith, q.1, h))
    go (inr q) = far_planted e a l k (omega (arith, q.1, h)) (omega (arith, q.1)) s.kept.2
