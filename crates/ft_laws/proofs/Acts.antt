-- What is put for free variables and metavariables (`act`), after renaming, putting and acting; it depends only on what is mentioned.
use Rattle.std.proofs.Common.{◌≡◌, ℕ, zero, suc, ◌+◌, ◌<◌, Option, Some, None, refl, sym, ap, ap₂, ◌∙◌, subst, arith}
use mathlib.Core.Path.{fun_ext}
use Rattle.ft_theory.specs.Expressions.{Expression, bound, free, symbol, meta, Arguments, no_arguments, with_body, dummy, Terms, no_terms, also, count, under_binders, rename, rename_arguments, rename_terms, lift, lifts, put, put_arguments, put_terms, push, pushes, body_or, act, act_arguments, act_terms, ClosedAt, MentionsOnly, ArgumentsMentionOnly, TermsMentionOnly}
use Rattle.ft_laws.proofs.Raw.{put-put}
use Rattle.ft_laws.proofs.Closed.{rename_is_put, put_agree, put_closed, rename_closed, rename_terms_is_put}

-- counts stay
pub count-put : (a : Terms) (s : ℕ → Expression) → count (put_terms s a) ≡ count a
unfolding count put
count-put no_terms s = refl
count-put (also t a) s = ap suc (count-put a s)

pub count-act : (a : Terms) (s : ℕ → Expression) (i : ℕ → ℕ → Option Expression) → count (act_terms s i a) ≡ count a
unfolding count act
count-act no_terms s i = refl
count-act (also t a) s i = ap suc (count-act a s i)

-- pushes under a map
push-put : (u s : ℕ → Expression) (t : Expression) (j : ℕ) → put u (push s t j) ≡ push (λ l. put u (s l)) (put u t) j
unfolding push
push-put u s t zero = refl
push-put u s t (suc j) = refl

pub pushes-put : (a : Terms) (u s : ℕ → Expression) (j : ℕ) → put u (pushes s a j) ≡ pushes (λ l. put u (s l)) (put_terms u a) j
unfolding pushes put
pushes-put no_terms u s j = refl
pushes-put (also t a) u s j = pushes-put a u (push s t) j ∙ ap (λ w. pushes w (put_terms u a) j) (fun_ext (push-put u s t))

push-act : (g : ℕ → Expression) (i : ℕ → ℕ → Option Expression) (s : ℕ → Expression) (t : Expression) (j : ℕ) → act g i (push s t j) ≡ push (λ l. act g i (s l)) (act g i t) j
unfolding push
push-act g i s t zero = refl
push-act g i s t (suc j) = refl

pub pushes-act : (a : Terms) (g : ℕ → Expression) (i : ℕ → ℕ → Option Expression) (s : ℕ → Expression) (j : ℕ) → act g i (pushes s a j) ≡ pushes (λ l. act g i (s l)) (act_terms g i a) j
unfolding pushes act
pushes-act no_terms g i s j = refl
pushes-act (also t a) g i s j = pushes-act a g i (push s t) j ∙ ap (λ w. pushes w (act_terms g i a) j) (fun_ext (push-act g i s t))

-- below the number of terms what is pushed onto doesn't matter
push_below : (k : ℕ) (s u : ℕ → Expression) (t : Expression) → ((j : ℕ) → j < k → s j ≡ u j) → (j : ℕ) → j < suc k → push s t j ≡ push u t j
unfolding push
push_below k s u t h zero l = refl
push_below k s u t h (suc j) l = h j (omega arith)

pub pushes_below : (a : Terms) (k : ℕ) (s u : ℕ → Expression) → ((j : ℕ) → j < k → s j ≡ u j) → (j : ℕ) → j < count a + k → pushes s a j ≡ pushes u a j
unfolding pushes count
pushes_below no_terms k s u h j l = h j (omega arith)
pushes_below (also t a) k s u h j l = pushes_below a (suc k) (push s t) (push u t) (push_below k s u t h) j (omega arith)

pub nothing_below : (s u : ℕ → Expression) (j : ℕ) → j < zero → s j ≡ u j
nothing_below s u j l = absurd (none l)
  where
    none : j < zero → ⊥
    none l = omega arith

-- a body for so many terms
abbrev pub ClosedBody : Option Expression → ℕ → Type 0
ClosedBody None k = Unit {0}
ClosedBody (Some b) k = ClosedAt k b

pub put-body_or : (o : Option Expression) (m : ℕ) (a : Terms) (u : ℕ → Expression) → ClosedBody o (count a) → put u (body_or o m a) ≡ body_or o m (put_terms u a)
unfolding body_or put
put-body_or None m a u c = refl
put-body_or (Some b) m a u c =
    put-put b u (pushes bound a)
    ∙ put_agree b (count a) (λ j. put u (pushes bound a j)) (pushes bound (put_terms u a)) c
    (λ j l. pushes-put a u bound j ∙ pushes_below (put_terms u a) zero (λ l. put u (bound l)) bound (nothing_below (λ l. put u (bound l)) bound) j (omega (arith, count-put a u)))

-- what acts is closed
pub record IsClosedMap (s : ℕ → Expression) (i : ℕ → ℕ → Option Expression) : Type 0 where
  pub frees : (v : ℕ) → ClosedAt zero (s v)
  pub bodies : (m k : ℕ) → ClosedBody (i m k) k

-- act after rename and put
lifts-act : (n : ℕ) (g : ℕ → Expression) (i : ℕ → ℕ → Option Expression) (s : ℕ → Expression) → ((e : Expression) → act g i (rename suc e) ≡ rename suc (act g i e)) → (j : ℕ) → act g i (lifts n s j) ≡ lifts n (λ l. act g i (s l)) j
unfolding lifts lift act
lifts-act zero g i s h j = refl
lifts-act (suc n) g i s h zero = refl
lifts-act (suc n) g i s h (suc j) = h (lifts n s j) ∙ ap (rename suc) (lifts-act n g i s h j)

mutual
  unfolding act rename

  pub act-rename : (e : Expression) (g : ℕ → Expression) (i : ℕ → ℕ → Option Expression) (r : ℕ → ℕ) → IsClosedMap g i → act g i (rename r e) ≡ rename r (act g i e)
  act-rename (bound j) g i r c = refl
  act-rename (free v) g i r c = sym (rename_closed (g v) r (c.frees v))
  act-rename (symbol f a) g i r c = ap (symbol f) (act-rename-arguments a g i r c)
  act-rename (meta m a) g i r c =
      ap₂ (λ k b. body_or (i m k) m b) (ap count (rename_terms_is_put a r) ∙ count-put a (λ j. bound (r j))) (act-rename-terms a g i r c ∙ rename_terms_is_put (act_terms g i a) r)
      ∙ sym (rename_is_put (body_or (i m (count a)) m (act_terms g i a)) r ∙ put-body_or (i m (count a)) m (act_terms g i a) (λ j. bound (r j)) (subst (ClosedBody (i m (count a))) (sym (count-act a g i)) (c.bodies m (count a))))

  act-rename-arguments : (a : Arguments) (g : ℕ → Expression) (i : ℕ → ℕ → Option Expression) (r : ℕ → ℕ) → IsClosedMap g i → act_arguments g i (rename_arguments r a) ≡ rename_arguments r (act_arguments g i a)
  act-rename-arguments no_arguments g i r c = refl
  act-rename-arguments (with_body n e a) g i r c = ap₂ (with_body n) (act-rename e g i (under_binders n r) c) (act-rename-arguments a g i r c)
  act-rename-arguments (dummy n a) g i r c = ap (dummy n) (act-rename-arguments a g i r c)

  act-rename-terms : (a : Terms) (g : ℕ → Expression) (i : ℕ → ℕ → Option Expression) (r : ℕ → ℕ) → IsClosedMap g i → act_terms g i (rename_terms r a) ≡ rename_terms r (act_terms g i a)
  act-rename-terms no_terms g i r c = refl
  act-rename-terms (also e a) g i r c = ap₂ also (act-rename e g i r c) (act-rename-terms a g i r c)

mutual
  unfolding act put

  pub act-put : (e : Expression) (g : ℕ → Expression) (i : ℕ → ℕ → Option Expression) (s : ℕ → Expression) → IsClosedMap g i → act g i (put s e) ≡ put (λ j. act g i (s j)) (act g i e)
  act-put (bound j) g i s c = refl
  act-put (free v) g i s c = sym (put_closed (g v) (λ j. act g i (s j)) (c.frees v))
  act-put (symbol f a) g i s c = ap (symbol f) (act-put-arguments a g i s c)
  act-put (meta m a) g i s c =
      ap₂ (λ k b. body_or (i m k) m b) (count-put a s) (act-put-terms a g i s c)
      ∙ sym (put-body_or (i m (count a)) m (act_terms g i a) (λ j. act g i (s j)) (subst (ClosedBody (i m (count a))) (sym (count-act a g i)) (c.bodies m (count a))))

  act-put-arguments : (a : Arguments) (g : ℕ → Expression) (i : ℕ → ℕ → Option Expression) (s : ℕ → Expression) → IsClosedMap g i → act_arguments g i (put_arguments s a) ≡ put_arguments (λ j. act g i (s j)) (act_arguments g i a)
  act-put-arguments no_arguments g i s c = refl
  act-put-arguments (with_body n e a) g i s c = ap₂ (with_body n) (act-put e g i (lifts n s) c ∙ ap (λ u. put u (act g i e)) (fun_ext (lifts-act n g i s (λ e. act-rename e g i suc c)))) (act-put-arguments a g i s c)
  act-put-arguments (dummy n a) g i s c = ap (dummy n) (act-put-arguments a g i s c)

  act-put-terms : (a : Terms) (g : ℕ → Expression) (i : ℕ → ℕ → Option Expression) (s : ℕ → Expression) → IsClosedMap g i → act_terms g i (put_terms s a) ≡ put_terms (λ j. act g i (s j)) (act_terms g i a)
  act-put-terms no_terms g i s c = refl
  act-put-terms (also e a) g i s c = ap₂ also (act-put e g i s c) (act-put-terms a g i s c)

-- act after act
abbrev pub after_at : (ℕ → Expression) → (ℕ → ℕ → Option Expression) → Option Expression → ℕ → ℕ → Option Expression
after_at g i None m k = i m k
after_at g i (Some b) m k = Some (act g i b)

abbrev pub after : (ℕ → Expression) → (ℕ → ℕ → Option Expression) → (ℕ → ℕ → Option Expression) → ℕ → ℕ → Option Expression
after g i j m k = after_at g i (j m k) m k

act-body_or : (o : Option Expression) (m k : ℕ) (a : Terms) (g : ℕ → Expression) (i : ℕ → ℕ → Option Expression) → IsClosedMap g i → count a ≡ k → act g i (body_or o m a) ≡ body_or (after_at g i o m k) m (act_terms g i a)
unfolding body_or act
act-body_or None m k a g i c e = ap (λ l. body_or (i m l) m (act_terms g i a)) e
act-body_or (Some b) m k a g i c e = act-put b g i (pushes bound a) c ∙ ap (λ s. put s (act g i b)) (fun_ext (pushes-act a g i bound))

mutual
  unfolding act

  pub act-act : (e : Expression) (g h : ℕ → Expression) (i j : ℕ → ℕ → Option Expression) → IsClosedMap g i → act g i (act h j e) ≡ act (λ v. act g i (h v)) (after g i j) e
  act-act (bound k) g h i j c = refl
  act-act (free v) g h i j c = refl
  act-act (symbol f a) g h i j c = ap (symbol f) (act-act-arguments a g h i j c)
  act-act (meta m a) g h i j c = act-body_or (j m (count a)) m (count a) (act_terms h j a) g i c (count-act a h j) ∙ ap (body_or (after g i j m (count a)) m) (act-act-terms a g h i j c)

  act-act-arguments : (a : Arguments) (g h : ℕ → Expression) (i j : ℕ → ℕ → Option Expression) → IsClosedMap g i → act_arguments g i (act_arguments h j a) ≡ act_arguments (λ v. act g i (h v)) (after g i j) a
  act-act-arguments no_arguments g h i j c = refl
  act-act-arguments (with_body n e a) g h i j c = ap₂ (with_body n) (act-act e g h i j c) (act-act-arguments a g h i j c)
  act-act-arguments (dummy n a) g h i j c = ap (dummy n) (act-act-arguments a g h i j c)

  act-act-terms : (a : Terms) (g h : ℕ → Expression) (i j : ℕ → ℕ → Option Expression) → IsClosedMap g i → act_terms g i (act_terms h j a) ≡ act_terms (λ v. act g i (h v)) (after g i j) a
  act-act-terms no_terms g h i j c = refl
  act-act-terms (also e a) g h i j c = ap₂ also (act-act e g h i j c) (act-act-terms a g h i j c)

-- maps that agree on what an expression mentions
mutual
  unfolding act

  pub act_agree : (e : Expression) (g h : ℕ → Expression) (i j : ℕ → ℕ → Option Expression) → MentionsOnly (λ v. g v ≡ h v) (λ m k. i m k ≡ j m k) e → act g i e ≡ act h j e
  act_agree (bound k) g h i j u = refl
  act_agree (free v) g h i j u = u
  act_agree (symbol f a) g h i j u = ap (symbol f) (act_agree-arguments a g h i j u)
  act_agree (meta m a) g h i j u = ap₂ (λ o b. body_or o m b) u.0 (act_agree-terms a g h i j u.1)

  act_agree-arguments : (a : Arguments) (g h : ℕ → Expression) (i j : ℕ → ℕ → Option Expression) → ArgumentsMentionOnly (λ v. g v ≡ h v) (λ m k. i m k ≡ j m k) a → act_arguments g i a ≡ act_arguments h j a
  act_agree-arguments no_arguments g h i j u = refl
  act_agree-arguments (with_body n e a) g h i j u = ap₂ (with_body n) (act_agree e g h i j u.0) (act_agree-arguments a g h i j u.1)
  act_agree-arguments (dummy n a) g h i j u = ap (dummy n) (act_agree-arguments a g h i j u)

  act_agree-terms : (a : Terms) (g h : ℕ → Expression) (i j : ℕ → ℕ → Option Expression) → TermsMentionOnly (λ v. g v ≡ h v) (λ m k. i m k ≡ j m k) a → act_terms g i a ≡ act_terms h j a
  act_agree-terms no_terms g h i j u = refl
  act_agree-terms (also e a) g h i j u = ap₂ also (act_agree e g h i j u.0) (act_agree-terms a g h i j u.1)

-- what puts nothing
abbrev pub no_bodies : ℕ → ℕ → Option Expression
no_bodies m k = None

mutual
  unfolding act body_or

  pub act_nothing : (e : Expression) → act free no_bodies e ≡ e
  act_nothing (bound k) = refl
  act_nothing (free v) = refl
  act_nothing (symbol f a) = ap (symbol f) (act_nothing-arguments a)
  act_nothing (meta m a) = ap (meta m) (act_nothing-terms a)

  act_nothing-arguments : (a : Arguments) → act_arguments free no_bodies a ≡ a
  act_nothing-arguments no_arguments = refl
  act_nothing-arguments (with_body n e a) = ap₂ (with_body n) (act_nothing e) (act_nothing-arguments a)
  act_nothing-arguments (dummy n a) = ap (dummy n) (act_nothing-arguments a)

  act_nothing-terms : (a : Terms) → act_terms free no_bodies a ≡ a
  act_nothing-terms no_terms = refl
  act_nothing-terms (also e a) = ap₂ also (act_nothing e) (act_nothing-terms a)

-- what is mentioned, by a weaker condition
mutual
  pub MentionsOnly_mono : (e : Expression) (f f' : ℕ → Type 0) (d d' : ℕ → ℕ → Type 0) → ((v : ℕ) → f v → f' v) → ((m k : ℕ) → d m k → d' m k) → MentionsOnly f d e → MentionsOnly f' d' e
  MentionsOnly_mono (bound k) f f' d d' p q u = tt
  MentionsOnly_mono (free v) f f' d d' p q u = p v u
  MentionsOnly_mono (symbol s a) f f' d d' p q u = Uses_mono-arguments a f f' d d' p q u
  MentionsOnly_mono (meta m a) f f' d d' p q u = (q m (count a) u.0, Uses_mono-terms a f f' d d' p q u.1)

  Uses_mono-arguments : (a : Arguments) (f f' : ℕ → Type 0) (d d' : ℕ → ℕ → Type 0) → ((v : ℕ) → f v → f' v) → ((m k : ℕ) → d m k → d' m k) → ArgumentsMentionOnly f d a → ArgumentsMentionOnly f' d' a
  Uses_mono-arguments no_arguments f f' d d' p q u = tt
  Uses_mono-arguments (with_body n e a) f f' d d' p q u = (MentionsOnly_mono e f f' d d' p q u.0, Uses_mono-arguments a f f' d d' p q u.1)
  Uses_mono-arguments (dummy n a) f f' d d' p q u = Uses_mono-arguments a f f' d d' p q u

  Uses_mono-terms : (a : Terms) (f f' : ℕ → Type 0) (d d' : ℕ → ℕ → Type 0) → ((v : ℕ) → f v → f' v) → ((m k : ℕ) → d m k → d' m k) → TermsMentionOnly f d a → TermsMentionOnly f' d' a
  Uses_mono-terms no_terms f f' d d' p q u = tt
  Uses_mono-terms (also e a) f f' d d' p q u = (MentionsOnly_mono e f f' d d' p q u.0, Uses_mono-terms a f f' d d' p q u.1)
