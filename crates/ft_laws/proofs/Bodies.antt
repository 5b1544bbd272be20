-- A boundary filled with a body, opened at terms one by one, is the opened boundary filled with the body at all terms at once.
use Rattle.std.proofs.Common.{◌≡◌, ◌≢◌, ℕ, zero, suc, ◌+◌, ◌<◌, ◌∷◌, refl, sym, ap, ap₂, ◌∙◌, subst, arith}
use Rattle.ft_common.proofs.Choices.{if_same, if_other}
use Rattle.ft_theory.specs.Expressions.{Expression, bound, Terms, no_terms, also, count, put, push, pushes, ClosedAt, ClosedTerms, open_at}
use Rattle.ft_theory.specs.Statements.{has_type, Statement, plain, abstracted, opened, domain, domain_count, at, fill, equate}
use Rattle.ft_theory.specs.Rules.{term_typings}
use Rattle.ft_laws.proofs.Raw.{put-put}
use Rattle.ft_laws.proofs.Closed.{put_agree, put_closed, put-bound}
use Rattle.ft_laws.proofs.Acts.{pushes_below}
use Rattle.ft_laws.proofs.Opens.{by_test, single, open_is_put, Closed-open}
use Rattle.ft_laws.proofs.Statements.{fill-map, equate-map, domain_count-map}

pushes_at : (a : Terms) (s : ℕ → Expression) (k : ℕ) → pushes s a (count a + k) ≡ s k
unfolding pushes push count
pushes_at no_terms s k = ap s (omega arith)
pushes_at (also t a) s k = ap (pushes (push s t) a) (omega arith) ∙ pushes_at a (push s t) (suc k)

push_at : (a : Terms) (t : Expression) → ClosedAt zero t → (j : ℕ) → j < suc (count a) → put (pushes bound a) (single (count a) t j) ≡ pushes (push bound t) a j
unfolding push put
push_at a t c j l = by_test (put (pushes bound a) (single (count a) t j) ≡ pushes (push bound t) a j) j (count a)
    (λ e. ap (put (pushes bound a)) (if_same j (count a) t (bound j) e) ∙ put_closed t (pushes bound a) c
    ∙ sym (ap (pushes (push bound t) a) (e ∙ omega arith) ∙ pushes_at a (push bound t) zero))
    (λ n. ap (put (pushes bound a)) (if_other j (count a) t (bound j) n)
    ∙ pushes_below a zero bound (push bound t) (λ i h. absurd (none i h)) j (less j n l))
  where
    none : (i : ℕ) → i < zero → ⊥
    none i h = omega arith

    less : (j : ℕ) → j ≢ count a → j < suc (count a) → j < count a + zero
    less j n l = grind (arith, n, l)

pub one_by_one : (a : Terms) (t e : Expression) → ClosedAt zero t → ClosedAt (suc (count a)) e → put (pushes bound a) (open_at (count a) t e) ≡ put (pushes (push bound t) a) e
one_by_one a t e c h =
    ap (put (pushes bound a)) (open_is_put e (count a) t c)
    ∙ put-put e (pushes bound a) (single (count a) t)
    ∙ put_agree e (suc (count a)) (λ j. put (pushes bound a) (single (count a) t j)) (pushes (push bound t) a) h (push_at a t c)

pub at-fill : (a : Terms) (x : Statement) (e : Expression) → count a ≡ domain_count x → ClosedTerms zero a → ClosedAt (domain_count x) e → at (fill x e) a ≡ fill (at x a) (put (pushes bound a) e)
unfolding pushes count
at-fill no_terms x e d c h = ap (fill x) (sym (put-bound e))
at-fill (also t a) (plain k) e d c h = absurd (grind (arith, d))
at-fill (also t a) (abstracted A x) e d c h =
    let D : domain_count x ≡ count a = omega (arith, d) in
    let E : domain_count x + zero ≡ count a = omega (arith, d) in
    ap (λ y. at y a) (fill-map x (λ l. open_at l t) zero e)
    ∙ at-fill a (opened t (abstracted A x)) (open_at (domain_count x + zero) t e) (sym D ∙ sym (domain_count-map x (λ l. open_at l t) zero)) c.1
    (subst (λ l. ClosedAt l (open_at (domain_count x + zero) t e)) (omega arith ∙ sym (domain_count-map x (λ l. open_at l t) zero)) (Closed-open e (domain_count x + zero) t (subst (λ l. ClosedAt l e) (omega arith) h) c.0))
    ∙ ap (λ l. fill (at (opened t (abstracted A x)) a) (put (pushes bound a) (open_at l t e))) E
    ∙ ap (fill (at (opened t (abstracted A x)) a)) (one_by_one a t e c.0 (subst (λ l. ClosedAt l e) (ap suc D) h))

pub at-equate : (a : Terms) (x : Statement) (e f : Expression) → count a ≡ domain_count x → ClosedTerms zero a → ClosedAt (domain_count x) e → ClosedAt (domain_count x) f → at (equate x e f) a ≡ equate (at x a) (put (pushes bound a) e) (put (pushes bound a) f)
unfolding pushes count
at-equate no_terms x e f d c h k = ap₂ (equate x) (sym (put-bound e)) (sym (put-bound f))
at-equate (also t a) (plain k) e f d c h k' = absurd (grind (arith, d))
at-equate (also t a) (abstracted A x) e f d c h k =
    let D : domain_count x ≡ count a = omega (arith, d) in
    let E : domain_count x + zero ≡ count a = omega (arith, d) in
    ap (λ y. at y a) (equate-map x (λ l. open_at l t) zero e f)
    ∙ at-equate a (opened t (abstracted A x)) (open_at (domain_count x + zero) t e) (open_at (domain_count x + zero) t f) (sym D ∙ sym (domain_count-map x (λ l. open_at l t) zero)) c.1
    (subst (λ l. ClosedAt l (open_at (domain_count x + zero) t e)) (omega arith ∙ sym (domain_count-map x (λ l. open_at l t) zero)) (Closed-open e (domain_count x + zero) t (subst (λ l. ClosedAt l e) (omega arith) h) c.0))
    (subst (λ l. ClosedAt l (open_at (domain_count x + zero) t f)) (omega arith ∙ sym (domain_count-map x (λ l. open_at l t) zero)) (Closed-open f (domain_count x + zero) t (subst (λ l. ClosedAt l f) (omega arith) k) c.0))
    ∙ ap (λ l. equate (at (opened t (abstracted A x)) a) (put (pushes bound a) (open_at l t e)) (put (pushes bound a) (open_at l t f))) E
    ∙ ap₂ (equate (at (opened t (abstracted A x)) a)) (one_by_one a t e c.0 (subst (λ l. ClosedAt l e) (ap suc D) h)) (one_by_one a t f c.0 (subst (λ l. ClosedAt l f) (ap suc D) k))

pub domain-fill : (x : Statement) (e : Expression) → domain (fill x e) ≡ domain x
domain-fill (plain c) e = refl
domain-fill (abstracted A x) e = refl

opened-fill : (x : Statement) (t e : Expression) → (h : Expression) × (opened t (fill x e) ≡ fill (opened t x) h)
opened-fill (plain c) t e = (e, refl)
opened-fill (abstracted A x) t e = (open_at (domain_count x + zero) t e, fill-map x (λ l. open_at l t) zero e)

pub term_typings-fill : (a : Terms) (x : Statement) (e : Expression) → term_typings (fill x e) a ≡ term_typings x a
term_typings-fill no_terms x e = refl
term_typings-fill (also t a) x e =
    let o : (h : Expression) × (opened t (fill x e) ≡ fill (opened t x) h) = opened-fill x t e in
    ap₂ (λ D r. plain (has_type t D) ∷ r) (domain-fill x e) (ap (λ y. term_typings y a) o.1 ∙ term_typings-fill a (opened t x) o.0)

pub domain-equate : (x : Statement) (e f : Expression) → domain (equate x e f) ≡ domain x
domain-equate (plain c) e f = refl
domain-equate (abstracted A x) e f = refl

opened-equate : (x : Statement) (t e f : Expression) → (h : Expression) × (k : Expression) × (opened t (equate x e f) ≡ equate (opened t x) h k)
opened-equate (plain c) t e f = (e, f, refl)
opened-equate (abstracted A x) t e f = (open_at (domain_count x + zero) t e, open_at (domain_count x + zero) t f, equate-map x (λ l. open_at l t) zero e f)

pub term_typings-equate : (a : Terms) (x : Statement) (e f : Expression) → term_typings (equate x e f) a ≡ term_typings x a
term_typings-equate no_terms x e f = refl
term_typings-equate (also t a) x e f =
    let o : (h : Expression) × (k : Expression) × (opened t (equate x e f) ≡ equate (opened t x) h k) = opened-equate x t e f in
    ap₂ (λ D r. plain (has_type t D) ∷ r) (domain-equate x e f) (ap (λ y. term_typings y a) o.2 ∙ term_typings-equate a (opened t x) o.0 o.1)
