-- Renaming and putting expressions for bound variables, one after the other: each composition is one renaming or putting.
use Rattle.std.proofs.Common.{◌≡◌, ℕ, zero, suc, refl, sym, ap, ap₂, ◌∙◌}
use mathlib.Core.Path.{fun_ext}
use Rattle.ft_theory.specs.Expressions.{Expression, bound, free, symbol, meta, Arguments, no_arguments, with_body, dummy, Terms, no_terms, also, under_binder, under_binders, rename, rename_arguments, rename_terms, lift, lifts, put, put_arguments, put_terms}

-- put after rename
lifts-under_binders : (n : ℕ) (s : ℕ → Expression) (r : ℕ → ℕ) (i : ℕ) → lifts n s (under_binders n r i) ≡ lifts n (λ j. s (r j)) i
unfolding lifts under_binders lift under_binder
lifts-under_binders zero s r i = refl
lifts-under_binders (suc n) s r zero = refl
lifts-under_binders (suc n) s r (suc i) = ap (rename suc) (lifts-under_binders n s r i)

mutual
  unfolding put rename

  pub put-rename : (e : Expression) (s : ℕ → Expression) (r : ℕ → ℕ) → put s (rename r e) ≡ put (λ j. s (r j)) e
  put-rename (bound i) s r = refl
  put-rename (free v) s r = refl
  put-rename (symbol f a) s r = ap (symbol f) (put-rename-arguments a s r)
  put-rename (meta m a) s r = ap (meta m) (put-rename-terms a s r)

  put-rename-arguments : (a : Arguments) (s : ℕ → Expression) (r : ℕ → ℕ) → put_arguments s (rename_arguments r a) ≡ put_arguments (λ j. s (r j)) a
  put-rename-arguments no_arguments s r = refl
  put-rename-arguments (with_body n e a) s r = ap₂ (with_body n) (put-rename e (lifts n s) (under_binders n r) ∙ ap (λ t. put t e) (fun_ext (lifts-under_binders n s r))) (put-rename-arguments a s r)
  put-rename-arguments (dummy n a) s r = ap (dummy n) (put-rename-arguments a s r)

  put-rename-terms : (a : Terms) (s : ℕ → Expression) (r : ℕ → ℕ) → put_terms s (rename_terms r a) ≡ put_terms (λ j. s (r j)) a
  put-rename-terms no_terms s r = refl
  put-rename-terms (also e a) s r = ap₂ also (put-rename e s r) (put-rename-terms a s r)

-- rename after rename
under_binders-under_binders : (n : ℕ) (q r : ℕ → ℕ) (i : ℕ) → under_binders n q (under_binders n r i) ≡ under_binders n (λ j. q (r j)) i
unfolding under_binders under_binder
under_binders-under_binders zero q r i = refl
under_binders-under_binders (suc n) q r zero = refl
under_binders-under_binders (suc n) q r (suc i) = ap suc (under_binders-under_binders n q r i)

mutual
  unfolding rename

  pub rename-rename : (e : Expression) (q r : ℕ → ℕ) → rename q (rename r e) ≡ rename (λ j. q (r j)) e
  rename-rename (bound i) q r = refl
  rename-rename (free v) q r = refl
  rename-rename (symbol f a) q r = ap (symbol f) (rename-rename-arguments a q r)
  rename-rename (meta m a) q r = ap (meta m) (rename-rename-terms a q r)

  rename-rename-arguments : (a : Arguments) (q r : ℕ → ℕ) → rename_arguments q (rename_arguments r a) ≡ rename_arguments (λ j. q (r j)) a
  rename-rename-arguments no_arguments q r = refl
  rename-rename-arguments (with_body n e a) q r = ap₂ (with_body n) (rename-rename e (under_binders n q) (under_binders n r) ∙ ap (λ t. rename t e) (fun_ext (under_binders-under_binders n q r))) (rename-rename-arguments a q r)
  rename-rename-arguments (dummy n a) q r = ap (dummy n) (rename-rename-arguments a q r)

  rename-rename-terms : (a : Terms) (q r : ℕ → ℕ) → rename_terms q (rename_terms r a) ≡ rename_terms (λ j. q (r j)) a
  rename-rename-terms no_terms q r = refl
  rename-rename-terms (also e a) q r = ap₂ also (rename-rename e q r) (rename-rename-terms a q r)

-- rename after put
under_binders-lifts : (n : ℕ) (r : ℕ → ℕ) (s : ℕ → Expression) (i : ℕ) → rename (under_binders n r) (lifts n s i) ≡ lifts n (λ j. rename r (s j)) i
unfolding under_binders under_binder lifts lift rename
under_binders-lifts zero r s i = refl
under_binders-lifts (suc n) r s zero = refl
under_binders-lifts (suc n) r s (suc i) = rename-rename (lifts n s i) (under_binder (under_binders n r)) suc ∙ sym (rename-rename (lifts n s i) suc (under_binders n r)) ∙ ap (rename suc) (under_binders-lifts n r s i)

mutual
  unfolding put rename

  pub rename-put : (e : Expression) (r : ℕ → ℕ) (s : ℕ → Expression) → rename r (put s e) ≡ put (λ j. rename r (s j)) e
  rename-put (bound i) r s = refl
  rename-put (free v) r s = refl
  rename-put (symbol f a) r s = ap (symbol f) (rename-put-arguments a r s)
  rename-put (meta m a) r s = ap (meta m) (rename-put-terms a r s)

  rename-put-arguments : (a : Arguments) (r : ℕ → ℕ) (s : ℕ → Expression) → rename_arguments r (put_arguments s a) ≡ put_arguments (λ j. rename r (s j)) a
  rename-put-arguments no_arguments r s = refl
  rename-put-arguments (with_body n e a) r s = ap₂ (with_body n) (rename-put e (under_binders n r) (lifts n s) ∙ ap (λ t. put t e) (fun_ext (under_binders-lifts n r s))) (rename-put-arguments a r s)
  rename-put-arguments (dummy n a) r s = ap (dummy n) (rename-put-arguments a r s)

  rename-put-terms : (a : Terms) (r : ℕ → ℕ) (s : ℕ → Expression) → rename_terms r (put_terms s a) ≡ put_terms (λ j. rename r (s j)) a
  rename-put-terms no_terms r s = refl
  rename-put-terms (also e a) r s = ap₂ also (rename-put e r s) (rename-put-terms a r s)

-- put after put
lifts-lifts : (n : ℕ) (s t : ℕ → Expression) (i : ℕ) → put (lifts n s) (lifts n t i) ≡ lifts n (λ j. put s (t j)) i
unfolding lifts lift put
lifts-lifts zero s t i = refl
lifts-lifts (suc n) s t zero = refl
lifts-lifts (suc n) s t (suc i) = put-rename (lifts n t i) (lift (lifts n s)) suc ∙ sym (rename-put (lifts n t i) suc (lifts n s)) ∙ ap (rename suc) (lifts-lifts n s t i)

mutual
  unfolding put

  pub put-put : (e : Expression) (s t : ℕ → Expression) → put s (put t e) ≡ put (λ j. put s (t j)) e
  put-put (bound i) s t = refl
  put-put (free v) s t = refl
  put-put (symbol f a) s t = ap (symbol f) (put-put-arguments a s t)
  put-put (meta m a) s t = ap (meta m) (put-put-terms a s t)

  put-put-arguments : (a : Arguments) (s t : ℕ → Expression) → put_arguments s (put_arguments t a) ≡ put_arguments (λ j. put s (t j)) a
  put-put-arguments no_arguments s t = refl
  put-put-arguments (with_body n e a) s t = ap₂ (with_body n) (put-put e (lifts n s) (lifts n t) ∙ ap (λ u. put u e) (fun_ext (lifts-lifts n s t))) (put-put-arguments a s t)
  put-put-arguments (dummy n a) s t = ap (dummy n) (put-put-arguments a s t)

  put-put-terms : (a : Terms) (s t : ℕ → Expression) → put_terms s (put_terms t a) ≡ put_terms (λ j. put s (t j)) a
  put-put-terms no_terms s t = refl
  put-put-terms (also e a) s t = ap₂ also (put-put e s t) (put-put-terms a s t)
