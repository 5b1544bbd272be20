-- Renaming, putting and acting keep expressions closed.
use Rattle.std.proofs.Common.{ℕ, zero, suc, ◌+◌, ◌<◌, Option, Some, None, sym, subst, arith}
use Rattle.ft_theory.specs.Expressions.{Expression, bound, free, symbol, meta, Arguments, no_arguments, with_body, dummy, Terms, no_terms, also, count, under_binder, under_binders, rename, rename_arguments, rename_terms, lift, lifts, put, put_arguments, put_terms, push, pushes, body_or, act, act_arguments, act_terms, ClosedAt, ClosedArguments, ClosedTerms}
use Rattle.ft_laws.proofs.Acts.{count-act, IsClosedMap, ClosedBody}
use Rattle.ft_laws.proofs.Opens.{Closed_mono}

under_binders_below : (n k l : ℕ) (r : ℕ → ℕ) → ((i : ℕ) → i < k → r i < l) → (i : ℕ) → i < n + k → under_binders n r i < n + l
unfolding under_binders under_binder
under_binders_below zero k l r h i c = let d : r i < l = h i (omega arith) in omega arith
under_binders_below (suc n) k l r h zero c = omega arith
under_binders_below (suc n) k l r h (suc i) c = let d : under_binders n r i < n + l = under_binders_below n k l r h i (omega arith) in omega arith

mutual
  unfolding rename

  pub Closed-rename : (e : Expression) (k l : ℕ) (r : ℕ → ℕ) → ((i : ℕ) → i < k → r i < l) → ClosedAt k e → ClosedAt l (rename r e)
  Closed-rename (bound i) k l r h c = h i c
  Closed-rename (free v) k l r h c = tt
  Closed-rename (symbol f a) k l r h c = Closed-rename-arguments a k l r h c
  Closed-rename (meta m a) k l r h c = Closed-rename-terms a k l r h c

  Closed-rename-arguments : (a : Arguments) (k l : ℕ) (r : ℕ → ℕ) → ((i : ℕ) → i < k → r i < l) → ClosedArguments k a → ClosedArguments l (rename_arguments r a)
  Closed-rename-arguments no_arguments k l r h c = tt
  Closed-rename-arguments (with_body n e a) k l r h c = (Closed-rename e (n + k) (n + l) (under_binders n r) (under_binders_below n k l r h) c.0, Closed-rename-arguments a k l r h c.1)
  Closed-rename-arguments (dummy n a) k l r h c = Closed-rename-arguments a k l r h c

  Closed-rename-terms : (a : Terms) (k l : ℕ) (r : ℕ → ℕ) → ((i : ℕ) → i < k → r i < l) → ClosedTerms k a → ClosedTerms l (rename_terms r a)
  Closed-rename-terms no_terms k l r h c = tt
  Closed-rename-terms (also e a) k l r h c = (Closed-rename e k l r h c.0, Closed-rename-terms a k l r h c.1)

lifts_closed : (n k l : ℕ) (s : ℕ → Expression) → ((i : ℕ) → i < k → ClosedAt l (s i)) → (i : ℕ) → i < n + k → ClosedAt (n + l) (lifts n s i)
unfolding lifts lift
lifts_closed zero k l s h i c = subst (λ j. ClosedAt j (s i)) (omega arith) (h i (omega arith))
lifts_closed (suc n) k l s h zero c = omega arith
lifts_closed (suc n) k l s h (suc i) c =
    subst (λ j. ClosedAt j (rename suc (lifts n s i))) (omega arith)
    (Closed-rename (lifts n s i) (n + l) (suc (n + l)) suc (λ j d. omega arith) (lifts_closed n k l s h i (omega arith)))

mutual
  unfolding put

  pub Closed-put : (e : Expression) (k l : ℕ) (s : ℕ → Expression) → ((i : ℕ) → i < k → ClosedAt l (s i)) → ClosedAt k e → ClosedAt l (put s e)
  Closed-put (bound i) k l s h c = h i c
  Closed-put (free v) k l s h c = tt
  Closed-put (symbol f a) k l s h c = Closed-put-arguments a k l s h c
  Closed-put (meta m a) k l s h c = Closed-put-terms a k l s h c

  Closed-put-arguments : (a : Arguments) (k l : ℕ) (s : ℕ → Expression) → ((i : ℕ) → i < k → ClosedAt l (s i)) → ClosedArguments k a → ClosedArguments l (put_arguments s a)
  Closed-put-arguments no_arguments k l s h c = tt
  Closed-put-arguments (with_body n e a) k l s h c = (Closed-put e (n + k) (n + l) (lifts n s) (lifts_closed n k l s h) c.0, Closed-put-arguments a k l s h c.1)
  Closed-put-arguments (dummy n a) k l s h c = Closed-put-arguments a k l s h c

  Closed-put-terms : (a : Terms) (k l : ℕ) (s : ℕ → Expression) → ((i : ℕ) → i < k → ClosedAt l (s i)) → ClosedTerms k a → ClosedTerms l (put_terms s a)
  Closed-put-terms no_terms k l s h c = tt
  Closed-put-terms (also e a) k l s h c = (Closed-put e k l s h c.0, Closed-put-terms a k l s h c.1)

push_closed : (k l : ℕ) (s : ℕ → Expression) (t : Expression) → ((i : ℕ) → i < k → ClosedAt l (s i)) → ClosedAt l t → (i : ℕ) → i < suc k → ClosedAt l (push s t i)
unfolding push
push_closed k l s t h c zero d = c
push_closed k l s t h c (suc i) d = h i (omega arith)

pub pushes_closed : (a : Terms) (k l : ℕ) (s : ℕ → Expression) → ((i : ℕ) → i < k → ClosedAt l (s i)) → ClosedTerms l a → (i : ℕ) → i < count a + k → ClosedAt l (pushes s a i)
unfolding pushes count
pushes_closed no_terms k l s h c i d = h i (omega arith)
pushes_closed (also t a) k l s h c i d = pushes_closed a (suc k) l (push s t) (push_closed k l s t h c.0) c.1 i (omega arith)

none_below : (s : ℕ → Expression) (l i : ℕ) → i < zero → ClosedAt l (s i)
none_below s l i d = absurd (no_such d)
  where
    no_such : i < zero → ⊥
    no_such d = omega arith

pub Closed_body : (o : Option Expression) (m k : ℕ) (a : Terms) → ClosedBody o (count a) → ClosedTerms k a → ClosedAt k (body_or o m a)
unfolding body_or
Closed_body None m k a b c = c
Closed_body (Some e) m k a b c = Closed-put e (count a) k (pushes bound a) (λ i d. pushes_closed a zero k bound (none_below bound k) c i (omega arith)) b

mutual
  unfolding act

  pub Closed-act : (e : Expression) (g : ℕ → Expression) (i : ℕ → ℕ → Option Expression) (k : ℕ) → IsClosedMap g i → ClosedAt k e → ClosedAt k (act g i e)
  Closed-act (bound j) g i k m c = c
  Closed-act (free v) g i k m c = Closed_mono (g v) zero k (omega arith) (m.frees v)
  Closed-act (symbol f a) g i k m c = Closed-act-arguments a g i k m c
  Closed-act (meta n a) g i k m c =
      Closed_body (i n (count a)) n k (act_terms g i a) (subst (ClosedBody (i n (count a))) (sym (count-act a g i)) (m.bodies n (count a))) (Closed-act_terms a g i k m c)

  Closed-act-arguments : (a : Arguments) (g : ℕ → Expression) (i : ℕ → ℕ → Option Expression) (k : ℕ) → IsClosedMap g i → ClosedArguments k a → ClosedArguments k (act_arguments g i a)
  Closed-act-arguments no_arguments g i k m c = tt
  Closed-act-arguments (with_body n e a) g i k m c = (Closed-act e g i (n + k) m c.0, Closed-act-arguments a g i k m c.1)
  Closed-act-arguments (dummy n a) g i k m c = Closed-act-arguments a g i k m c

  pub Closed-act_terms : (a : Terms) (g : ℕ → Expression) (i : ℕ → ℕ → Option Expression) (k : ℕ) → IsClosedMap g i → ClosedTerms k a → ClosedTerms k (act_terms g i a)
  Closed-act_terms no_terms g i k m c = tt
  Closed-act_terms (also e a) g i k m c = (Closed-act e g i k m c.0, Closed-act_terms a g i k m c.1)
