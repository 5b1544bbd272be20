-- What is derivable is derivable at an instance, and equal at two equal instances.
use Rattle.std.proofs.Common.{◌≡◌, ℕ, zero, ◌+◌, Option, Some, None, List, ◌∷◌, inl, refl, sym, ap, ◌∙◌, subst, subst₂, arith}
use Rattle.ft_theory.specs.Expressions.{Expression, bound, free, meta, Terms, no_terms, also, count, body_or, act, ClosedAt, ClosedTerms, put, pushes, open_at}
use Rattle.ft_theory.specs.Statements.{equal_terms, Statement, plain, abstracted, opened, domain_count, at, fill, equate, IsObject, IsEquation}
use Rattle.ft_theory.specs.Rules.{Rule, term_typings, term_equations}
use Rattle.ft_theory.specs.Steps.{sequent, sequents, Step, metavariable, metavariable_equation, metavariable_congruence, Trees, node, more, Prim}
use Rattle.ft_laws.specs.Syntax.{HasClosedBodies}
use Rattle.ft_laws.specs.Instances.{StaysOrGiven, stays, given, EquationStaysOrHolds, stays_equation, given_equation, IsInstance, StaysOrGivenInBoth, both_stay, both_given, AreEqualInstances, statement_at}
use Rattle.ft_laws.proofs.Acts.{IsClosedMap, ClosedBody}
use Rattle.ft_laws.proofs.Steps.{do_variable}
use Rattle.ft_laws.proofs.Scope.{scope, Fine, FineTerms, object-at, domain_count-at, AllOfStatement_head, Fine-term_typings}
use Rattle.ft_laws.proofs.Statements.{fill-map, domain_count-map, object-map, equation-map, fill_any, equation-opened}
use Rattle.ft_laws.proofs.Bodies.{at-fill, at-equate, term_typings-fill, term_typings-equate}
use Rattle.ft_laws.proofs.Commute.{ScopedTheory}
use Rattle.ft_laws.proofs.Traverse.{Grows, Grows_refl, Grows_add, applied, Maps, traverse, fine_all}
use Rattle.ft_laws.proofs.Peel.{domain_count-fill, domain_count-equate}
use Rattle.ft_laws.proofs.Substitute.{substitute_all}
use Rattle.ft_laws.proofs.Equal.{AllPaired, EqualHere, EqualStatements, grow}
use Rattle.ft_laws.proofs.Relate.{Pairs, relate, pairs_of_equations}
use Rattle.ft_laws.proofs.EqualTerms.{head_flat, reify_flat, transitive_flat, staying, itself, right_side}

-- an instance with closed bodies acts as a closed map
pub closed_map : (i : ℕ → ℕ → Option Expression) → HasClosedBodies i → IsClosedMap free i
closed_map i h = record { frees = λ v. tt; bodies = λ m k. body m k (i m k) (λ e q. h m k e q) }
  where
    body : (m k : ℕ) (o : Option Expression) → ((e : Expression) → o ≡ Some e → ClosedAt k e) → ClosedBody o k
    body m k None h = tt
    body m k (Some e) h = h e refl

-- the argument of an object metavariable, at its terms
applied_none : (i : ℕ → ℕ → Option Expression) (m k : ℕ) (a : Terms) → count a ≡ k → i m k ≡ None → applied i m a ≡ meta m a
unfolding body_or
applied_none i m k a d q = ap (λ o. body_or o m a) (ap (i m) d ∙ q)

applied_some : (i : ℕ → ℕ → Option Expression) (m k : ℕ) (a : Terms) (e : Expression) → count a ≡ k → i m k ≡ Some e → applied i m a ≡ put (pushes bound a) e
unfolding body_or
applied_some i m k a e d q = ap (λ o. body_or o m a) (ap (i m) d ∙ q)

body_closed : (T : List Rule) (N : List (ℕ × Statement)) (H : List (ℕ × Expression)) (x : Statement) (e : Expression) → IsObject x → Prim T N H (fill x e) → ClosedAt (domain_count x) e
body_closed T N H x e o p = subst (λ l. ClosedAt l e) (omega arith) (AllOfStatement_head x (Fine N H) zero e o (scope T (sequent N H (fill x e)) p)).0

terms_closed : (T : List Rule) (N : List (ℕ × Statement)) (H : List (ℕ × Expression)) (x : Statement) (a : Terms) → Trees (Step T) (sequents N H (term_typings x a)) → ClosedTerms zero a
terms_closed T N H x a ts = (Fine-term_typings N H a x (fine_all T (sequents N H (term_typings x a)) ts)).0

pub at_body : (T : List Rule) → ScopedTheory T → (N : List (ℕ × Statement)) (H : List (ℕ × Expression)) (x : Statement) (e : Expression) (a : Terms) → IsObject x → count a ≡ domain_count x → Prim T N H (fill x e) → Trees (Step T) (sequents N H (term_typings x a)) → Prim T N H (fill (at x a) (put (pushes bound a) e))
at_body T sc N H x e a o d p ts =
    subst (λ z. Prim T N H z) (at-fill a x e d (terms_closed T N H x a ts) (body_closed T N H x e o p))
    (substitute_all T sc N H a (fill x e) (d ∙ sym (domain_count-fill x e)) p (subst (λ xs. Trees (Step T) (sequents N H xs)) (sym (term_typings-fill a x e)) ts))

pub at_equation : (T : List Rule) → ScopedTheory T → (N : List (ℕ × Statement)) (H : List (ℕ × Expression)) (x : Statement) (e : Expression) (a : Terms) → IsEquation x → count a ≡ domain_count x → Prim T N H (fill x e) → Trees (Step T) (sequents N H (term_typings x a)) → Prim T N H (fill (at x a) e)
at_equation T sc N H x e a o d p ts =
    subst (λ z. Prim T N H z) (equation_at a x e o)
    (substitute_all T sc N H a (fill x e) (d ∙ sym (domain_count-fill x e)) p (subst (λ xs. Trees (Step T) (sequents N H xs)) (sym (term_typings-fill a x e)) ts))
  where
    opened_equation : (x : Statement) (t e : Expression) → IsEquation x → opened t (fill x e) ≡ fill (opened t x) e
    opened_equation (plain c) t e o = refl
    opened_equation (abstracted A x) t e o = fill-map x (λ l. open_at l t) zero e ∙ fill_any (opened t (abstracted A x)) (open_at (domain_count x + zero) t e) e (equation-map x (λ l. open_at l t) zero o)

    equation_at : (a : Terms) (x : Statement) (e : Expression) → IsEquation x → at (fill x e) a ≡ fill (at x a) e
    equation_at no_terms x e o = refl
    equation_at (also t a) x e o = ap (λ y. at y a) (opened_equation x t e o) ∙ equation_at a (opened t x) e (equation-opened x t o)

-- the argument at equal terms
pub body_at_equals : (T : List Rule) → ScopedTheory T → (N : List (ℕ × Statement)) (H : List (ℕ × Expression)) (x : Statement) (e : Expression) (a c : Terms) → IsObject x → count a ≡ domain_count x → count c ≡ domain_count x → ClosedTerms zero a → ClosedTerms zero c → Prim T N H (fill x e) → AllPaired T N H (fill x e) a c
    → Prim T N H (equate (at x a) (put (pushes bound a) e) (put (pushes bound c) e))
body_at_equals T sc N H x e a c o d d' ca cc p r =
    let ce : ClosedAt (domain_count x) e = body_closed T N H x e o p in
    reify_flat T N H (at x a) (at x c) (put (pushes bound a) e) (put (pushes bound c) e) (domain_count-at a x d) (object-at a x o) (object-at c x o)
    (subst₂ (λ y z. EqualHere T N H y z) (at-fill a x e d ca ce) (at-fill c x e d' cc ce) (itself T sc N H (fill x e) p H (Grows_refl H) a c r))

term_equations-fill : (a c : Terms) (x : Statement) (e : Expression) → term_equations (fill x e) a c ≡ term_equations x a c
term_equations-fill no_terms c x e = refl
term_equations-fill (also s a) no_terms x e = refl
term_equations-fill (also s a) (also t c) (plain k) e = ap (λ r. plain (equal_terms s t (bound zero)) ∷ r) (term_equations-fill a c (plain k) e)
term_equations-fill (also s a) (also t c) (abstracted A x) e = ap (λ r. plain (equal_terms s t A) ∷ r) (ap (λ y. term_equations y a c) (fill-map x (λ l. open_at l s) zero e) ∙ term_equations-fill a c (opened s (abstracted A x)) (open_at (domain_count x + zero) s e))

related_body : (T : List Rule) (N : List (ℕ × Statement)) (H : List (ℕ × Expression)) (x : Statement) (e : Expression) (a c : Terms) → count a ≡ count c → Trees (Step T) (sequents N H (term_equations x a c)) → AllPaired T N H (fill x e) a c
related_body T N H x e a c d ts = pairs_of_equations T N H a c (fill x e) d (subst (λ xs. Trees (Step T) (sequents N H xs)) (sym (term_equations-fill a c x e)) ts)

closed_pairs : (T : List Rule) (N : List (ℕ × Statement)) (H : List (ℕ × Expression)) (x : Statement) (a c : Terms) → count a ≡ count c → Trees (Step T) (sequents N H (term_equations x a c)) → ClosedTerms zero a × ClosedTerms zero c
closed_pairs T N H x a c d ts =
    let f : FineTerms N H a × FineTerms N H c = Rattle.ft_laws.proofs.Traverse.Fine-term_equations N H a c x d (fine_all T (sequents N H (term_equations x a c)) ts) in
    (f.0.0, f.1.0)

pub instance_maps : (T : List Rule) → ScopedTheory T → (M : List (ℕ × Statement)) (G : List (ℕ × Expression)) (N : List (ℕ × Statement)) (H : List (ℕ × Expression)) (i : ℕ → ℕ → Option Expression) → IsInstance T M G N H i → Maps T M G N H free i
instance_maps T sc M G N H i s = record {
  closed = closed_map i s.closed;
  frees = λ v A q K g p. do_variable v (g v (act free i A) (s.variables v A q)) p;
  objects = λ m b q gl o K g a d p ts. object m b (s.objects m b q gl o) K g o a d p ts;
  equations = λ m b q gl o K g a d p ts. equation m b (s.equations m b q gl o) K g o a d p ts;
  congruences = λ m b q gl o K g a c d d' p p' ts. congruent m b (s.objects m b q gl o) K g o a c d d' p p' ts;
}
  where
    dep : (b : Statement) → domain_count (statement_at i b) ≡ domain_count b
    dep b = domain_count-map b (λ l. act free i) zero

    object : (m : ℕ) (b : Statement) → StaysOrGiven T N H i m b → (K : List (ℕ × Expression)) → Grows H K → IsObject b → (a : Terms) → count a ≡ domain_count b → Prim T N K (statement_at i b) → Trees (Step T) (sequents N K (term_typings (statement_at i b) a)) → Prim T N K (fill (at (statement_at i b) a) (applied i m a))
    object m b (stays n q gl) K g o a d p ts =
        subst (λ h. Prim T N K (fill (at (statement_at i b) a) h)) (sym (applied_none i m (domain_count b) a d n))
        (node (sequent N K (statement_at i b) ∷ sequents N K (term_typings (statement_at i b) a)) (metavariable m (statement_at i b) a q gl (object-map b (λ l. act free i) zero o) (d ∙ sym (dep b))) (more p ts))
    object m b (given e q t) K g o a d p ts =
        subst (λ h. Prim T N K (fill (at (statement_at i b) a) h)) (sym (applied_some i m (domain_count b) a e d q))
        (at_body T sc N K (statement_at i b) e a (object-map b (λ l. act free i) zero o) (d ∙ sym (dep b)) (grow T sc N H K (fill (statement_at i b) e) g t) ts)

    equation : (m : ℕ) (b : Statement) → EquationStaysOrHolds T N H i m b → (K : List (ℕ × Expression)) → Grows H K → IsEquation b → (a : Terms) → count a ≡ domain_count b → Prim T N K (statement_at i b) → Trees (Step T) (sequents N K (term_typings (statement_at i b) a)) → Prim T N K (fill (at (statement_at i b) a) (bound zero))
    equation m b (stays_equation q gl) K g o a d p ts =
        node (sequent N K (statement_at i b) ∷ sequents N K (term_typings (statement_at i b) a)) (metavariable_equation m (statement_at i b) a q gl (equation-map b (λ l. act free i) zero o) (d ∙ sym (dep b))) (more p ts)
    equation m b (given_equation t) K g o a d p ts =
        at_equation T sc N K (statement_at i b) (bound zero) a (equation-map b (λ l. act free i) zero o) (d ∙ sym (dep b)) (grow T sc N H K (fill (statement_at i b) (bound zero)) g t) ts

    congruent : (m : ℕ) (b : Statement) → StaysOrGiven T N H i m b → (K : List (ℕ × Expression)) → Grows H K → IsObject b → (a c : Terms) → count a ≡ domain_count b → count c ≡ domain_count b → Prim T N K (fill (at (statement_at i b) a) (applied i m a)) → Prim T N K (fill (at (statement_at i b) a) (applied i m c)) → Trees (Step T) (sequents N K (term_equations (statement_at i b) a c)) → Prim T N K (equate (at (statement_at i b) a) (applied i m a) (applied i m c))
    congruent m b (stays n q gl) K g o a c d d' p p' ts =
        let A : applied i m a ≡ meta m a = applied_none i m (domain_count b) a d n in
        let C : applied i m c ≡ meta m c = applied_none i m (domain_count b) c d' n in
        subst₂ (λ h k. Prim T N K (equate (at (statement_at i b) a) h k)) (sym A) (sym C)
        (node (sequent N K (fill (at (statement_at i b) a) (meta m a)) ∷ sequent N K (fill (at (statement_at i b) a) (meta m c)) ∷ sequents N K (term_equations (statement_at i b) a c))
        (metavariable_congruence m (statement_at i b) a c q gl (object-map b (λ l. act free i) zero o) (d ∙ sym (dep b)) (d' ∙ sym (dep b)))
        (more (subst (λ h. Prim T N K (fill (at (statement_at i b) a) h)) A p) (more (subst (λ h. Prim T N K (fill (at (statement_at i b) a) h)) C p') ts)))
    congruent m b (given e q t) K g o a c d d' p p' ts =
        let cl : ClosedTerms zero a × ClosedTerms zero c = closed_pairs T N K (statement_at i b) a c (d ∙ sym d') ts in
        subst₂ (λ h k. Prim T N K (equate (at (statement_at i b) a) h k)) (sym (applied_some i m (domain_count b) a e d q)) (sym (applied_some i m (domain_count b) c e d' q))
        (body_at_equals T sc N K (statement_at i b) e a c (object-map b (λ l. act free i) zero o) (d ∙ sym (dep b)) (d' ∙ sym (dep b)) cl.0 cl.1 (grow T sc N H K (fill (statement_at i b) e) g t) (related_body T N K (statement_at i b) e a c (d ∙ sym d') ts))

-- What is derivable is derivable at an instance. The maps M and N have nothing to do with each other, but for what stays.
pub instantiate : (T : List Rule) → ScopedTheory T → (M : List (ℕ × Statement)) (G : List (ℕ × Expression)) (N : List (ℕ × Statement)) (H : List (ℕ × Expression)) (i : ℕ → ℕ → Option Expression) (x : Statement) → IsInstance T M G N H i → Prim T M G x → Prim T N H (statement_at i x)
instantiate T sc M G N H i x s p = traverse T sc (sequent M G x) p N H free i (instance_maps T sc M G N H i s)

pub equal_pairs : (T : List Rule) → ScopedTheory T → (M : List (ℕ × Statement)) (G : List (ℕ × Expression)) (N : List (ℕ × Statement)) (H : List (ℕ × Expression)) (i j : ℕ → ℕ → Option Expression) → AreEqualInstances T M G N H i j → Pairs T M G N H free i free j
equal_pairs T sc M G N H i j s = record {
  left = instance_maps T sc M G N H i s.left;
  closed = closed_map j s.closed;
  related = λ v A q. inl (v, refl, refl, s.left.variables v A q);
  heads = λ m b q gl o K g a c d d' p e ta tc pp. heads m b (s.objects m b q gl o) K g o a c d d' p e ta tc pp;
}
  where
    dep : (i : ℕ → ℕ → Option Expression) (b : Statement) → domain_count (statement_at i b) ≡ domain_count b
    dep i b = domain_count-map b (λ l. act free i) zero

    heads : (m : ℕ) (b : Statement) → StaysOrGivenInBoth T N H i j m b → (K : List (ℕ × Expression)) → Grows H K → IsObject b → (a c : Terms) → count a ≡ domain_count b → count c ≡ domain_count b
        → Prim T N K (statement_at i b) → EqualStatements T N K (statement_at i b) (statement_at j b) → Trees (Step T) (sequents N K (term_typings (statement_at i b) a)) → Trees (Step T) (sequents N K (term_typings (statement_at j b) c)) → Trees (Step T) (sequents N K (term_equations (statement_at i b) a c))
        → EqualHere T N K (fill (at (statement_at i b) a) (applied i m a)) (fill (at (statement_at j b) c) (applied j m c))
    heads m b (both_stay n n' q gl same) K g o a c d d' p e ta tc pp =
        subst₂ (λ h k. EqualHere T N K (fill (at (statement_at i b) a) h) (fill (at (statement_at j b) c) k)) (sym (applied_none i m (domain_count b) a d n)) (sym (applied_none j m (domain_count b) c d' n'))
        (subst (λ z. EqualHere T N K (fill (at (statement_at i b) a) (meta m a)) (fill (at z c) (meta m c))) (sym same)
        (staying T sc N K m (statement_at i b) a c q gl (object-map b (λ l. act free i) zero o) (d ∙ sym (dep i b)) (d' ∙ sym (dep i b)) p
        (subst (λ z. EqualStatements T N K (statement_at i b) z) same e) ta (subst (λ z. Trees (Step T) (sequents N K (term_typings z c))) same tc) pp))
    heads m b (both_given f k q q' t u) K g o a c d d' p e ta tc pp =
        let bi : Statement = statement_at i b in
        let bj : Statement = statement_at j b in
        let oi : IsObject bi = object-map b (λ l. act free i) zero o in
        let oj : IsObject bj = object-map b (λ l. act free j) zero o in
        let di : count a ≡ domain_count bi = d ∙ sym (dep i b) in
        let di' : count c ≡ domain_count bi = d' ∙ sym (dep i b) in
        let cl : ClosedTerms zero a × ClosedTerms zero c = closed_pairs T N K bi a c (d ∙ sym d') pp in
        let t' : Prim T N K (fill bi f) = grow T sc N H K (fill bi f) g t in
        let u' : Prim T N K (equate bi f k) = grow T sc N H K (equate bi f k) g u in
        let w : Prim T N K (fill bi k) = right_side T sc N (domain_count bi) K bi f k refl oi u' in
        let cf : ClosedAt (domain_count bi) f = body_closed T N K bi f oi t' in
        let ck : ClosedAt (domain_count bi) k = body_closed T N K bi k oi w in
        let here : EqualHere T N K (at bi a) (at bj c) = e K (Grows_refl K) a c (pairs_of_equations T N K a c bi (d ∙ sym d') pp) in
        let one : Prim T N K (equate (at bi a) (put (pushes bound a) f) (put (pushes bound a) k)) =
        subst (λ z. Prim T N K z) (at-equate a bi f k di cl.0 cf ck)
        (substitute_all T sc N K a (equate bi f k) (di ∙ sym (domain_count-equate bi f k)) u' (subst (λ xs. Trees (Step T) (sequents N K xs)) (sym (term_typings-equate a bi f k)) ta)) in
        let two : Prim T N K (equate (at bi a) (put (pushes bound a) k) (put (pushes bound c) k)) =
        body_at_equals T sc N K bi k a c oi di di' cl.0 cl.1 w (related_body T N K bi k a c (d ∙ sym d') pp) in
        subst₂ (λ x y. EqualHere T N K (fill (at bi a) x) (fill (at bj c) y)) (sym (applied_some i m (domain_count b) a f d q)) (sym (applied_some j m (domain_count b) c k d' q'))
        (head_flat T N K (at bi a) (at bj c) (put (pushes bound a) f) (put (pushes bound c) k) (domain_count-at a bi di) (object-at a bi oi) (object-at c bj oj) here
        (transitive_flat T N K (at bi a) (put (pushes bound a) f) (put (pushes bound a) k) (put (pushes bound c) k) (domain_count-at a bi di) (object-at a bi oi) one two))

-- What is derivable has equal parts at two equal instances.
pub equal_instances : (T : List Rule) → ScopedTheory T → (M : List (ℕ × Statement)) (G : List (ℕ × Expression)) (N : List (ℕ × Statement)) (H : List (ℕ × Expression)) (i j : ℕ → ℕ → Option Expression) (x : Statement) → AreEqualInstances T M G N H i j → Prim T M G x → EqualStatements T N H (statement_at i x) (statement_at j x)
equal_instances T sc M G N H i j x s p = relate T sc (sequent M G x) p N H free i free j (equal_pairs T sc M G N H i j s)
