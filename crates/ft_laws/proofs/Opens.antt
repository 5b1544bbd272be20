-- Opening and closing: opening is a putting, acting commutes with it, and each undoes the other.
use Rattle.std.proofs.Common.{◌≡◌, ◌≢◌, ℕ, zero, suc, ◌+◌, ◌<◌, Option, true, false, cond, nat_eq, ◌⊎◌, inl, inr, refl, sym, ap, ap₂, ◌∙◌, subst, arith}
use Rattle.std.proofs.lemmas.Bool.Decides.{eqb_tells}
use mathlib.Core.Path.{fun_ext}
use Rattle.ft_common.proofs.Choices.{if_same, if_other}
use Rattle.ft_theory.specs.Expressions.{Expression, bound, free, symbol, meta, Arguments, no_arguments, with_body, dummy, Terms, no_terms, also, count, rename, lift, lifts, put, put_arguments, put_terms, act, ClosedAt, ClosedArguments, ClosedTerms, MentionsOnly, ArgumentsMentionOnly, TermsMentionOnly, Without, open_at, open_arguments, open_terms, close_at, close_arguments, close_terms}
use Rattle.ft_laws.proofs.Closed.{rename_closed}
use Rattle.ft_laws.proofs.Acts.{IsClosedMap, act-put}

-- a test of numbers, by cases
pub by_test : (P : Type 0) (i j : ℕ) → (i ≡ j → P) → (i ≢ j → P) → P
by_test P i j h h' = by_decision (eqb_tells i j)
  where
    by_decision : ((nat_eq i j ≡ true) × (i ≡ j)) ⊎ ((nat_eq i j ≡ false) × (i ≢ j)) → P
    by_decision (inl d) = h d.1
    by_decision (inr d) = h' d.1

-- opening is a put
abbrev pub single : ℕ → Expression → ℕ → Expression
single k t i = cond (nat_eq i k) t (bound i)

lift-single : (k : ℕ) (t : Expression) → ClosedAt zero t → (i : ℕ) → lift (single k t) i ≡ single (suc k) t i
unfolding lift rename
lift-single k t c zero = sym (if_other zero (suc k) t (bound zero) (λ e. grind (arith, e)))
lift-single k t c (suc i) = by_test (rename suc (single k t i) ≡ single (suc k) t (suc i)) i k
    (λ e. ap (rename suc) (if_same i k t (bound i) e) ∙ rename_closed t suc c ∙ sym (if_same (suc i) (suc k) t (bound (suc i)) (ap suc e)))
    (λ n. ap (rename suc) (if_other i k t (bound i) n) ∙ sym (if_other (suc i) (suc k) t (bound (suc i)) (λ e. n (omega (arith, e)))))

lifts-single : (n k : ℕ) (t : Expression) → ClosedAt zero t → (i : ℕ) → lifts n (single k t) i ≡ single (n + k) t i
unfolding lifts
lifts-single zero k t c i = ap (λ l. single l t i) (omega arith)
lifts-single (suc n) k t c i = ap (λ s. lift s i) (fun_ext (lifts-single n k t c)) ∙ lift-single (n + k) t c i ∙ ap (λ l. single l t i) (omega arith)

mutual
  unfolding put open_at

  pub open_is_put : (e : Expression) (k : ℕ) (t : Expression) → ClosedAt zero t → open_at k t e ≡ put (single k t) e
  open_is_put (bound i) k t c = refl
  open_is_put (free v) k t c = refl
  open_is_put (symbol f a) k t c = ap (symbol f) (open_put-arguments a k t c)
  open_is_put (meta m a) k t c = ap (meta m) (open_put-terms a k t c)

  open_put-arguments : (a : Arguments) (k : ℕ) (t : Expression) → ClosedAt zero t → open_arguments k t a ≡ put_arguments (single k t) a
  open_put-arguments no_arguments k t c = refl
  open_put-arguments (with_body n e a) k t c = ap₂ (with_body n) (open_is_put e (n + k) t c ∙ ap (λ s. put s e) (sym (fun_ext (lifts-single n k t c)))) (open_put-arguments a k t c)
  open_put-arguments (dummy n a) k t c = ap (dummy n) (open_put-arguments a k t c)

  open_put-terms : (a : Terms) (k : ℕ) (t : Expression) → ClosedAt zero t → open_terms k t a ≡ put_terms (single k t) a
  open_put-terms no_terms k t c = refl
  open_put-terms (also e a) k t c = ap₂ also (open_is_put e k t c) (open_put-terms a k t c)

-- what acts, under an opening
act-single : (g : ℕ → Expression) (i : ℕ → ℕ → Option Expression) (k : ℕ) (t : Expression) (j : ℕ) → act g i (single k t j) ≡ single k (act g i t) j
unfolding act
act-single g i k t j = by_test (act g i (single k t j) ≡ single k (act g i t) j) j k
    (λ e. ap (act g i) (if_same j k t (bound j) e) ∙ sym (if_same j k (act g i t) (bound j) e))
    (λ n. ap (act g i) (if_other j k t (bound j) n) ∙ sym (if_other j k (act g i t) (bound j) n))

pub act-open : (e : Expression) (g : ℕ → Expression) (i : ℕ → ℕ → Option Expression) (k : ℕ) (t : Expression) → IsClosedMap g i → ClosedAt zero t → ClosedAt zero (act g i t) → act g i (open_at k t e) ≡ open_at k (act g i t) (act g i e)
act-open e g i k t c h h' =
    ap (act g i) (open_is_put e k t h) ∙ act-put e g i (single k t) c
    ∙ ap (λ s. put s (act g i e)) (fun_ext (act-single g i k t))
    ∙ sym (open_is_put (act g i e) k (act g i t) h')

-- closing and opening
mutual
  unfolding open_at close_at

  pub close-open : (e : Expression) (k v : ℕ) → Without v e → close_at k v (open_at k (free v) e) ≡ e
  close-open (bound i) k v w = by_test (close_at k v (open_at k (free v) (bound i)) ≡ bound i) i k
      (λ e. ap (close_at k v) (if_same i k (free v) (bound i) e) ∙ if_same v v (bound k) (free v) refl ∙ ap bound (sym e))
      (λ n. ap (close_at k v) (if_other i k (free v) (bound i) n))
  close-open (free u) k v w = if_other u v (bound k) (free u) w
  close-open (symbol f a) k v w = ap (symbol f) (close-open-arguments a k v w)
  close-open (meta m a) k v w = ap (meta m) (close-open-terms a k v w.1)

  close-open-arguments : (a : Arguments) (k v : ℕ) → ArgumentsMentionOnly (λ u. u ≢ v) (λ m k. Unit {0}) a → close_arguments k v (open_arguments k (free v) a) ≡ a
  close-open-arguments no_arguments k v w = refl
  close-open-arguments (with_body n e a) k v w = ap₂ (with_body n) (close-open e (n + k) v w.0) (close-open-arguments a k v w.1)
  close-open-arguments (dummy n a) k v w = ap (dummy n) (close-open-arguments a k v w)

  close-open-terms : (a : Terms) (k v : ℕ) → TermsMentionOnly (λ u. u ≢ v) (λ m k. Unit {0}) a → close_terms k v (open_terms k (free v) a) ≡ a
  close-open-terms no_terms k v w = refl
  close-open-terms (also e a) k v w = ap₂ also (close-open e k v w.0) (close-open-terms a k v w.1)

mutual
  unfolding open_at close_at

  pub open-close : (e : Expression) (k v : ℕ) → ClosedAt k e → open_at k (free v) (close_at k v e) ≡ e
  open-close (bound i) k v c = if_other i k (free v) (bound i) (λ e. grind (arith, e, c))
  open-close (free u) k v c = by_test (open_at k (free v) (close_at k v (free u)) ≡ free u) u v
      (λ e. ap (open_at k (free v)) (if_same u v (bound k) (free u) e) ∙ if_same k k (free v) (bound k) refl ∙ ap free (sym e))
      (λ n. ap (open_at k (free v)) (if_other u v (bound k) (free u) n))
  open-close (symbol f a) k v c = ap (symbol f) (open-close-arguments a k v c)
  open-close (meta m a) k v c = ap (meta m) (open-close-terms a k v c)

  open-close-arguments : (a : Arguments) (k v : ℕ) → ClosedArguments k a → open_arguments k (free v) (close_arguments k v a) ≡ a
  open-close-arguments no_arguments k v c = refl
  open-close-arguments (with_body n e a) k v c = ap₂ (with_body n) (open-close e (n + k) v c.0) (open-close-arguments a k v c.1)
  open-close-arguments (dummy n a) k v c = ap (dummy n) (open-close-arguments a k v c)

  open-close-terms : (a : Terms) (k v : ℕ) → ClosedTerms k a → open_terms k (free v) (close_terms k v a) ≡ a
  open-close-terms no_terms k v c = refl
  open-close-terms (also e a) k v c = ap₂ also (open-close e k v c.0) (open-close-terms a k v c.1)

count-open : (a : Terms) (k : ℕ) (t : Expression) → count (open_terms k t a) ≡ count a
unfolding count open_at
count-open no_terms k t = refl
count-open (also e a) k t = ap suc (count-open a k t)

count-close : (a : Terms) (k v : ℕ) → count (close_terms k v a) ≡ count a
unfolding count close_at
count-close no_terms k v = refl
count-close (also e a) k v = ap suc (count-close a k v)

-- a greater bound
mutual
  pub Closed_mono : (e : Expression) (k l : ℕ) → k < suc l → ClosedAt k e → ClosedAt l e
  Closed_mono (bound i) k l h c = omega arith
  Closed_mono (free u) k l h c = tt
  Closed_mono (symbol f a) k l h c = Closed_mono-arguments a k l h c
  Closed_mono (meta m a) k l h c = Closed_mono-terms a k l h c

  Closed_mono-arguments : (a : Arguments) (k l : ℕ) → k < suc l → ClosedArguments k a → ClosedArguments l a
  Closed_mono-arguments no_arguments k l h c = tt
  Closed_mono-arguments (with_body n e a) k l h c = (Closed_mono e (n + k) (n + l) (omega arith) c.0, Closed_mono-arguments a k l h c.1)
  Closed_mono-arguments (dummy n a) k l h c = Closed_mono-arguments a k l h c

  Closed_mono-terms : (a : Terms) (k l : ℕ) → k < suc l → ClosedTerms k a → ClosedTerms l a
  Closed_mono-terms no_terms k l h c = tt
  Closed_mono-terms (also e a) k l h c = (Closed_mono e k l h c.0, Closed_mono-terms a k l h c.1)

-- closedness
mutual
  unfolding open_at

  pub Closed-open : (e : Expression) (k : ℕ) (t : Expression) → ClosedAt (suc k) e → ClosedAt zero t → ClosedAt k (open_at k t e)
  Closed-open (bound i) k t c h = by_test (ClosedAt k (open_at k t (bound i))) i k
      (λ e. subst (ClosedAt k) (sym (if_same i k t (bound i) e)) (Closed_mono t zero k (omega arith) h))
      (λ n. subst (ClosedAt k) (sym (if_other i k t (bound i) n)) (grind (arith, n, c)))
  Closed-open (free u) k t c h = tt
  Closed-open (symbol f a) k t c h = Closed-open-arguments a k t c h
  Closed-open (meta m a) k t c h = Closed-open-terms a k t c h

  Closed-open-arguments : (a : Arguments) (k : ℕ) (t : Expression) → ClosedArguments (suc k) a → ClosedAt zero t → ClosedArguments k (open_arguments k t a)
  Closed-open-arguments no_arguments k t c h = tt
  Closed-open-arguments (with_body n e a) k t c h = (Closed-open e (n + k) t (subst (λ l. ClosedAt l e) (omega arith) c.0) h, Closed-open-arguments a k t c.1 h)
  Closed-open-arguments (dummy n a) k t c h = Closed-open-arguments a k t c h

  Closed-open-terms : (a : Terms) (k : ℕ) (t : Expression) → ClosedTerms (suc k) a → ClosedAt zero t → ClosedTerms k (open_terms k t a)
  Closed-open-terms no_terms k t c h = tt
  Closed-open-terms (also e a) k t c h = (Closed-open e k t c.0 h, Closed-open-terms a k t c.1 h)

mutual
  unfolding close_at

  pub Closed-close : (e : Expression) (k v : ℕ) → ClosedAt k e → ClosedAt (suc k) (close_at k v e)
  Closed-close (bound i) k v c = omega arith
  Closed-close (free u) k v c = by_test (ClosedAt (suc k) (close_at k v (free u))) u v
      (λ e. subst (ClosedAt (suc k)) (sym (if_same u v (bound k) (free u) e)) (omega arith))
      (λ n. subst (ClosedAt (suc k)) (sym (if_other u v (bound k) (free u) n)) tt)
  Closed-close (symbol f a) k v c = Closed-close-arguments a k v c
  Closed-close (meta m a) k v c = Closed-close-terms a k v c

  Closed-close-arguments : (a : Arguments) (k v : ℕ) → ClosedArguments k a → ClosedArguments (suc k) (close_arguments k v a)
  Closed-close-arguments no_arguments k v c = tt
  Closed-close-arguments (with_body n e a) k v c = (subst (λ l. ClosedAt l (close_at (n + k) v e)) (omega arith) (Closed-close e (n + k) v c.0), Closed-close-arguments a k v c.1)
  Closed-close-arguments (dummy n a) k v c = Closed-close-arguments a k v c

  Closed-close-terms : (a : Terms) (k v : ℕ) → ClosedTerms k a → ClosedTerms (suc k) (close_terms k v a)
  Closed-close-terms no_terms k v c = tt
  Closed-close-terms (also e a) k v c = (Closed-close e k v c.0, Closed-close-terms a k v c.1)

-- what an opened expression mentions
mutual
  unfolding open_at

  pub MentionsOnly-open : (e : Expression) (f : ℕ → Type 0) (d : ℕ → ℕ → Type 0) (k : ℕ) (t : Expression) → MentionsOnly f d e → MentionsOnly f d t → MentionsOnly f d (open_at k t e)
  MentionsOnly-open (bound i) f d k t u h = by_test (MentionsOnly f d (open_at k t (bound i))) i k
      (λ e. subst (MentionsOnly f d) (sym (if_same i k t (bound i) e)) h)
      (λ n. subst (MentionsOnly f d) (sym (if_other i k t (bound i) n)) tt)
  MentionsOnly-open (free v) f d k t u h = u
  MentionsOnly-open (symbol s a) f d k t u h = MentionsOnly-open-arguments a f d k t u h
  MentionsOnly-open (meta m a) f d k t u h = (subst (d m) (sym (count-open a k t)) u.0, MentionsOnly-open-terms a f d k t u.1 h)

  MentionsOnly-open-arguments : (a : Arguments) (f : ℕ → Type 0) (d : ℕ → ℕ → Type 0) (k : ℕ) (t : Expression) → ArgumentsMentionOnly f d a → MentionsOnly f d t → ArgumentsMentionOnly f d (open_arguments k t a)
  MentionsOnly-open-arguments no_arguments f d k t u h = tt
  MentionsOnly-open-arguments (with_body n e a) f d k t u h = (MentionsOnly-open e f d (n + k) t u.0 h, MentionsOnly-open-arguments a f d k t u.1 h)
  MentionsOnly-open-arguments (dummy n a) f d k t u h = MentionsOnly-open-arguments a f d k t u h

  MentionsOnly-open-terms : (a : Terms) (f : ℕ → Type 0) (d : ℕ → ℕ → Type 0) (k : ℕ) (t : Expression) → TermsMentionOnly f d a → MentionsOnly f d t → TermsMentionOnly f d (open_terms k t a)
  MentionsOnly-open-terms no_terms f d k t u h = tt
  MentionsOnly-open-terms (also e a) f d k t u h = (MentionsOnly-open e f d k t u.0 h, MentionsOnly-open-terms a f d k t u.1 h)

-- what is closed over a variable does not mention it any more
mutual
  unfolding close_at

  pub MentionsOnly-close : (e : Expression) (f f' : ℕ → Type 0) (d : ℕ → ℕ → Type 0) (k v : ℕ) → ((u : ℕ) → u ≢ v → f u → f' u) → MentionsOnly f d e → MentionsOnly f' d (close_at k v e)
  MentionsOnly-close (bound i) f f' d k v p u = tt
  MentionsOnly-close (free w) f f' d k v p u = by_test (MentionsOnly f' d (close_at k v (free w))) w v
      (λ e. subst (MentionsOnly f' d) (sym (if_same w v (bound k) (free w) e)) tt)
      (λ n. subst (MentionsOnly f' d) (sym (if_other w v (bound k) (free w) n)) (p w n u))
  MentionsOnly-close (symbol s a) f f' d k v p u = MentionsOnly-close-arguments a f f' d k v p u
  MentionsOnly-close (meta m a) f f' d k v p u = (subst (d m) (sym (count-close a k v)) u.0, MentionsOnly-close-terms a f f' d k v p u.1)

  MentionsOnly-close-arguments : (a : Arguments) (f f' : ℕ → Type 0) (d : ℕ → ℕ → Type 0) (k v : ℕ) → ((u : ℕ) → u ≢ v → f u → f' u) → ArgumentsMentionOnly f d a → ArgumentsMentionOnly f' d (close_arguments k v a)
  MentionsOnly-close-arguments no_arguments f f' d k v p u = tt
  MentionsOnly-close-arguments (with_body n e a) f f' d k v p u = (MentionsOnly-close e f f' d (n + k) v p u.0, MentionsOnly-close-arguments a f f' d k v p u.1)
  MentionsOnly-close-arguments (dummy n a) f f' d k v p u = MentionsOnly-close-arguments a f f' d k v p u

  MentionsOnly-close-terms : (a : Terms) (f f' : ℕ → Type 0) (d : ℕ → ℕ → Type 0) (k v : ℕ) → ((u : ℕ) → u ≢ v → f u → f' u) → TermsMentionOnly f d a → TermsMentionOnly f' d (close_terms k v a)
  MentionsOnly-close-terms no_terms f f' d k v p u = tt
  MentionsOnly-close-terms (also e a) f f' d k v p u = (MentionsOnly-close e f f' d k v p u.0, MentionsOnly-close-terms a f f' d k v p u.1)
