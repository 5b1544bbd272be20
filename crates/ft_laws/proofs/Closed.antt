-- Renaming is a putting; putting each bound variable for itself changes nothing; only the loose bound variables count.
use Rattle.std.proofs.Common.{◌≡◌, ℕ, zero, suc, ◌+◌, ◌<◌, refl, sym, ap, ap₂, ◌∙◌, arith}
use mathlib.Core.Path.{fun_ext}
use Rattle.ft_theory.specs.Expressions.{Expression, bound, free, symbol, meta, Arguments, no_arguments, with_body, dummy, Terms, no_terms, also, under_binder, under_binders, rename, rename_arguments, rename_terms, lift, lifts, put, put_arguments, put_terms, ClosedAt, ClosedArguments, ClosedTerms}

-- rename is a put
lifts-bound : (n : ℕ) (r : ℕ → ℕ) (i : ℕ) → lifts n (λ j. bound (r j)) i ≡ bound (under_binders n r i)
unfolding lifts lift under_binders under_binder rename
lifts-bound zero r i = refl
lifts-bound (suc n) r zero = refl
lifts-bound (suc n) r (suc i) = ap (rename suc) (lifts-bound n r i)

mutual
  unfolding put rename

  pub rename_is_put : (e : Expression) (r : ℕ → ℕ) → rename r e ≡ put (λ j. bound (r j)) e
  rename_is_put (bound i) r = refl
  rename_is_put (free v) r = refl
  rename_is_put (symbol f a) r = ap (symbol f) (rename_arguments_is_put a r)
  rename_is_put (meta m a) r = ap (meta m) (rename_terms_is_put a r)

  rename_arguments_is_put : (a : Arguments) (r : ℕ → ℕ) → rename_arguments r a ≡ put_arguments (λ j. bound (r j)) a
  rename_arguments_is_put no_arguments r = refl
  rename_arguments_is_put (with_body n e a) r = ap₂ (with_body n) (rename_is_put e (under_binders n r) ∙ ap (λ t. put t e) (sym (fun_ext (lifts-bound n r)))) (rename_arguments_is_put a r)
  rename_arguments_is_put (dummy n a) r = ap (dummy n) (rename_arguments_is_put a r)

  pub rename_terms_is_put : (a : Terms) (r : ℕ → ℕ) → rename_terms r a ≡ put_terms (λ j. bound (r j)) a
  rename_terms_is_put no_terms r = refl
  rename_terms_is_put (also e a) r = ap₂ also (rename_is_put e r) (rename_terms_is_put a r)

-- putting each bound variable for itself
lifts_bound : (n : ℕ) (i : ℕ) → lifts n bound i ≡ bound i
unfolding lifts lift rename
lifts_bound zero i = refl
lifts_bound (suc n) zero = refl
lifts_bound (suc n) (suc i) = ap (rename suc) (lifts_bound n i)

mutual
  unfolding put

  pub put-bound : (e : Expression) → put bound e ≡ e
  put-bound (bound i) = refl
  put-bound (free v) = refl
  put-bound (symbol f a) = ap (symbol f) (put-bound-arguments a)
  put-bound (meta m a) = ap (meta m) (put-bound-terms a)

  put-bound-arguments : (a : Arguments) → put_arguments bound a ≡ a
  put-bound-arguments no_arguments = refl
  put-bound-arguments (with_body n e a) = ap₂ (with_body n) (ap (λ t. put t e) (fun_ext (lifts_bound n)) ∙ put-bound e) (put-bound-arguments a)
  put-bound-arguments (dummy n a) = ap (dummy n) (put-bound-arguments a)

  put-bound-terms : (a : Terms) → put_terms bound a ≡ a
  put-bound-terms no_terms = refl
  put-bound-terms (also e a) = ap₂ also (put-bound e) (put-bound-terms a)

-- substitutions that agree below k
lifts_below : (n k : ℕ) (s t : ℕ → Expression) → ((i : ℕ) → i < k → s i ≡ t i) → (i : ℕ) → i < n + k → lifts n s i ≡ lifts n t i
unfolding lifts lift
lifts_below zero k s t h i l = h i (omega arith)
lifts_below (suc n) k s t h zero l = refl
lifts_below (suc n) k s t h (suc i) l = ap (rename suc) (lifts_below n k s t h i (omega arith))

mutual
  unfolding put

  pub put_agree : (e : Expression) (k : ℕ) (s t : ℕ → Expression) → ClosedAt k e → ((i : ℕ) → i < k → s i ≡ t i) → put s e ≡ put t e
  put_agree (bound i) k s t c h = h i c
  put_agree (free v) k s t c h = refl
  put_agree (symbol f a) k s t c h = ap (symbol f) (put_agree-arguments a k s t c h)
  put_agree (meta m a) k s t c h = ap (meta m) (put_agree-terms a k s t c h)

  put_agree-arguments : (a : Arguments) (k : ℕ) (s t : ℕ → Expression) → ClosedArguments k a → ((i : ℕ) → i < k → s i ≡ t i) → put_arguments s a ≡ put_arguments t a
  put_agree-arguments no_arguments k s t c h = refl
  put_agree-arguments (with_body n e a) k s t c h = ap₂ (with_body n) (put_agree e (n + k) (lifts n s) (lifts n t) c.0 (lifts_below n k s t h)) (put_agree-arguments a k s t c.1 h)
  put_agree-arguments (dummy n a) k s t c h = ap (dummy n) (put_agree-arguments a k s t c h)

  put_agree-terms : (a : Terms) (k : ℕ) (s t : ℕ → Expression) → ClosedTerms k a → ((i : ℕ) → i < k → s i ≡ t i) → put_terms s a ≡ put_terms t a
  put_agree-terms no_terms k s t c h = refl
  put_agree-terms (also e a) k s t c h = ap₂ also (put_agree e k s t c.0 h) (put_agree-terms a k s t c.1 h)

pub put_closed : (e : Expression) (s : ℕ → Expression) → ClosedAt zero e → put s e ≡ e
put_closed e s c = put_agree e zero s bound c (λ i l. absurd (none i l)) ∙ put-bound e
  where
    none : (i : ℕ) → i < zero → ⊥
    none i l = omega arith

pub rename_closed : (e : Expression) (r : ℕ → ℕ) → ClosedAt zero e → rename r e ≡ e
rename_closed e r c = rename_is_put e r ∙ put_closed e (λ j. bound (r j)) c
