-- Statements whose parts are equal at all equal terms, and what follows of the one from the other.
use Rattle.std.proofs.Common.{◌≡◌, ℕ, zero, suc, ◌+◌, Some, List, ◌∷◌, ◌⊎◌, inl, inr, refl, sym, ap, ◌∙◌, subst, subst₂, arith}
use Rattle.ft_theory.specs.Expressions.{Expression, free, Terms, no_terms, also, ClosedAt, open_at}
use Rattle.ft_theory.specs.Statements.{Claim, is_type, has_type, equal_types, equal_terms, type_goal, term_goal, type_equation_goal, term_equation_goal, Statement, plain, abstracted, opened, domain, domain_count, at, fill_goal, fill, equate_goal, equate, IsObjectGoal, IsObject}
use Rattle.ft_theory.specs.Rules.{look_up, Rule}
use Rattle.ft_theory.specs.Steps.{sequent, Prim}
use Rattle.ft_laws.proofs.Steps.{do_reflexive_term, do_symmetric_types, do_symmetric_terms, do_transitive_types, do_transitive_terms, do_convert_term, do_convert_equation, do_for_term, do_for_types, do_for_terms, do_variable}
use Rattle.ft_laws.proofs.Fresh.{fresh_absent}
use Rattle.ft_laws.proofs.Statements.{fill-map, equate-map, domain_count-map, object-opened}
use Rattle.ft_laws.proofs.Commute.{ScopedTheory}
use Rattle.ft_laws.proofs.Traverse.{Grows, Grows_refl, Grows_add, under_abstraction, look_here}
use Rattle.ft_laws.proofs.Substitute.{weaken, substitute, closed_term}
use Rattle.ft_laws.proofs.Sides.{parts, boundary}

-- Two terms that stand for one variable of the type A: both are one variable of that type, of which nothing more is asked, or they
-- are derivably equal.
abbrev pub Paired : List Rule → List (ℕ × Statement) → List (ℕ × Expression) → Expression → Expression → Expression → Type 0
Paired T M G s t A = ((w : ℕ) × (s ≡ free w) × (t ≡ free w) × (look_up G w ≡ Some A)) ⊎ Prim T M G (plain (equal_terms s t A))

-- so for each of two lists of terms, at the domains of a statement
abbrev pub AllPaired : List Rule → List (ℕ × Statement) → List (ℕ × Expression) → Statement → Terms → Terms → Type 0
AllPaired T M G x no_terms no_terms = Unit {0}
AllPaired T M G x no_terms (also t b) = ⊥
AllPaired T M G x (also s a) no_terms = ⊥
AllPaired T M G x (also s a) (also t b) = Paired T M G s t (domain x) × AllPaired T M G (opened s x) a b

-- Claims of one form whose parts are equal. Of an equation it says that the sides are equal, and not the equation itself.
abbrev pub EqualClaims : List Rule → List (ℕ × Statement) → List (ℕ × Expression) → Claim → Claim → Type 0
EqualClaims T M G (is_type A) (is_type B) = Prim T M G (plain (equal_types A B))
EqualClaims T M G (has_type t A) (has_type u B) = Prim T M G (plain (equal_types A B)) × Prim T M G (plain (equal_terms t u A))
EqualClaims T M G (equal_types A B) (equal_types C D) = Prim T M G (plain (equal_types A C)) × Prim T M G (plain (equal_types B D))
EqualClaims T M G (equal_terms s t A) (equal_terms u v B) = Prim T M G (plain (equal_types A B)) × Prim T M G (plain (equal_terms s u A)) × Prim T M G (plain (equal_terms t v A))
EqualClaims T M G type_goal type_goal = Unit {0}
EqualClaims T M G (term_goal A) (term_goal B) = Prim T M G (plain (equal_types A B))
EqualClaims T M G (type_equation_goal A B) (type_equation_goal C D) = Prim T M G (plain (equal_types A C)) × Prim T M G (plain (equal_types B D))
EqualClaims T M G (term_equation_goal s t A) (term_equation_goal u v B) = Prim T M G (plain (equal_types A B)) × Prim T M G (plain (equal_terms s u A)) × Prim T M G (plain (equal_terms t v A))
EqualClaims T M G _ _ = ⊥

-- Statements that are equal as far as their first domains, or as claims.
abbrev pub EqualHere : List Rule → List (ℕ × Statement) → List (ℕ × Expression) → Statement → Statement → Type 0
EqualHere T M G (plain c) (plain d) = EqualClaims T M G c d
EqualHere T M G (plain c) (abstracted B y) = ⊥
EqualHere T M G (abstracted A x) (plain d) = ⊥
EqualHere T M G (abstracted A x) (abstracted B y) = Prim T M G (plain (equal_types A B))

-- Statements that are equal, over each larger map, when opened at paired terms, as far as the terms go.
abbrev pub EqualStatements : List Rule → List (ℕ × Statement) → List (ℕ × Expression) → Statement → Statement → Type 0
EqualStatements T M G x y = (K : List (ℕ × Expression)) → Grows G K → (a b : Terms) → AllPaired T M K x a b → EqualHere T M K (at x a) (at y b)

pub Grows_trans : (G H K : List (ℕ × Expression)) → Grows G H → Grows H K → Grows G K
Grows_trans G H K p q v A r = q v A (p v A r)

pub grow : (T : List Rule) → ScopedTheory T → (M : List (ℕ × Statement)) (G H : List (ℕ × Expression)) (x : Statement) → Grows G H → Prim T M G x → Prim T M H x
grow T sc M G H x s p = weaken T sc M M G H x (λ m b q. q) s p

pub grow_claims : (T : List Rule) → ScopedTheory T → (M : List (ℕ × Statement)) (G H : List (ℕ × Expression)) → Grows G H → (c d : Claim) → EqualClaims T M G c d → EqualClaims T M H c d
grow_claims T sc M G H s (is_type A) (is_type B) e = grow T sc M G H (plain (equal_types A B)) s e
grow_claims T sc M G H s (has_type t A) (has_type u B) e = (grow T sc M G H (plain (equal_types A B)) s e.0, grow T sc M G H (plain (equal_terms t u A)) s e.1)
grow_claims T sc M G H s (equal_types A B) (equal_types C D) e = (grow T sc M G H (plain (equal_types A C)) s e.0, grow T sc M G H (plain (equal_types B D)) s e.1)
grow_claims T sc M G H s (equal_terms q t A) (equal_terms u v B) e = (grow T sc M G H (plain (equal_types A B)) s e.0, grow T sc M G H (plain (equal_terms q u A)) s e.1, grow T sc M G H (plain (equal_terms t v A)) s e.2)
grow_claims T sc M G H s type_goal type_goal e = tt
grow_claims T sc M G H s (term_goal A) (term_goal B) e = grow T sc M G H (plain (equal_types A B)) s e
grow_claims T sc M G H s (type_equation_goal A B) (type_equation_goal C D) e = (grow T sc M G H (plain (equal_types A C)) s e.0, grow T sc M G H (plain (equal_types B D)) s e.1)
grow_claims T sc M G H s (term_equation_goal q t A) (term_equation_goal u v B) e = (grow T sc M G H (plain (equal_types A B)) s e.0, grow T sc M G H (plain (equal_terms q u A)) s e.1, grow T sc M G H (plain (equal_terms t v A)) s e.2)
grow_claims T sc M G H s _ _ e = absurd e

pub grow_paired : (T : List Rule) → ScopedTheory T → (M : List (ℕ × Statement)) (G H : List (ℕ × Expression)) (s t A : Expression) → Grows G H → Paired T M G s t A → Paired T M H s t A
grow_paired T sc M G H s t A g (inl r) = inl (r.0, r.1, r.2, g r.0 A r.3)
grow_paired T sc M G H s t A g (inr p) = inr (grow T sc M G H (plain (equal_terms s t A)) g p)

pub at_plain : (a : Terms) (c : Claim) → at (plain c) a ≡ plain c
at_plain no_terms c = refl
at_plain (also t a) c = at_plain a c

-- how equal statements are made and used
pub equal_plain : (T : List Rule) → ScopedTheory T → (M : List (ℕ × Statement)) (G : List (ℕ × Expression)) (c d : Claim) → EqualClaims T M G c d → EqualStatements T M G (plain c) (plain d)
equal_plain T sc M G c d e K g a b r = subst₂ (λ x y. EqualHere T M K x y) (sym (at_plain a c)) (sym (at_plain b d)) (grow_claims T sc M G K g c d e)

pub equal_here : (T : List Rule) (M : List (ℕ × Statement)) (G : List (ℕ × Expression)) (x y : Statement) → EqualStatements T M G x y → EqualHere T M G x y
equal_here T M G x y e = e G (Grows_refl G) no_terms no_terms tt

pub equal_opened : (T : List Rule) → ScopedTheory T → (M : List (ℕ × Statement)) (G K : List (ℕ × Expression)) (A B : Expression) (x y : Statement) (s t : Expression) → EqualStatements T M G (abstracted A x) (abstracted B y) → Grows G K → Paired T M K s t A → EqualStatements T M K (opened s (abstracted A x)) (opened t (abstracted B y))
equal_opened T sc M G K A B x y s t e g r L h a b q = e L (Grows_trans G K L g h) (also s a) (also t b) (grow_paired T sc M K L s t A h r, q)

pub equal_abstracted : (T : List Rule) → ScopedTheory T → (M : List (ℕ × Statement)) (G : List (ℕ × Expression)) (A B : Expression) (x y : Statement) → Prim T M G (plain (equal_types A B))
    → ((K : List (ℕ × Expression)) (s t : Expression) → Grows G K → Paired T M K s t A → EqualStatements T M K (opened s (abstracted A x)) (opened t (abstracted B y))) → EqualStatements T M G (abstracted A x) (abstracted B y)
equal_abstracted T sc M G A B x y p h K g no_terms no_terms r = grow T sc M G K (plain (equal_types A B)) g p
equal_abstracted T sc M G A B x y p h K g no_terms (also t b) r = absurd r
equal_abstracted T sc M G A B x y p h K g (also s a) no_terms r = absurd r
equal_abstracted T sc M G A B x y p h K g (also s a) (also t b) r = h K s t g r.0 K (Grows_refl K) a b r.1

pub equal_flat : (T : List Rule) → ScopedTheory T → (M : List (ℕ × Statement)) (G : List (ℕ × Expression)) (x y : Statement) → domain_count x ≡ zero → EqualHere T M G x y → EqualStatements T M G x y
equal_flat T sc M G (plain c) (plain d) z e = equal_plain T sc M G c d e
equal_flat T sc M G (plain c) (abstracted B y) z e = absurd e
equal_flat T sc M G (abstracted A x) y z e = absurd (grind (arith, z))

-- paired terms are equal, and closed
pub paired_equal : (T : List Rule) (M : List (ℕ × Statement)) (G : List (ℕ × Expression)) (s t A : Expression) → Paired T M G s t A → Prim T M G (plain (is_type A)) → Prim T M G (plain (equal_terms s t A))
paired_equal T M G s t A (inl r) p = subst₂ (λ x y. Prim T M G (plain (equal_terms x y A))) (sym r.1) (sym r.2) (do_reflexive_term (do_variable r.0 r.3 p))
paired_equal T M G s t A (inr q) p = q

pub sides_of : (T : List Rule) → ScopedTheory T → (M : List (ℕ × Statement)) (G : List (ℕ × Expression)) (s t A : Expression) → Prim T M G (plain (equal_terms s t A)) → Prim T M G (plain (is_type A)) × Prim T M G (plain (has_type s A)) × Prim T M G (plain (has_type t A))
sides_of T sc M G s t A p = parts T (sequent M G (plain (term_equation_goal s t A))) (boundary T sc (sequent M G (plain (equal_terms s t A))) p)

pub types_of : (T : List Rule) → ScopedTheory T → (M : List (ℕ × Statement)) (G : List (ℕ × Expression)) (A B : Expression) → Prim T M G (plain (equal_types A B)) → Prim T M G (plain (is_type A)) × Prim T M G (plain (is_type B))
types_of T sc M G A B p = parts T (sequent M G (plain (type_equation_goal A B))) (boundary T sc (sequent M G (plain (equal_types A B))) p)

pub paired_closed : (T : List Rule) → ScopedTheory T → (M : List (ℕ × Statement)) (G : List (ℕ × Expression)) (s t A : Expression) → Paired T M G s t A → ClosedAt zero s × ClosedAt zero t
paired_closed T sc M G s t A (inl r) = (subst (ClosedAt zero) (sym r.1) tt, subst (ClosedAt zero) (sym r.2) tt)
paired_closed T sc M G s t A (inr p) =
    let q : Prim T M G (plain (is_type A)) × Prim T M G (plain (has_type s A)) × Prim T M G (plain (has_type t A)) = sides_of T sc M G s t A p in
    (closed_term T M G s A q.1, closed_term T M G t A q.2)

-- from two equal theses to the equation between their heads
pub reify_claim : (T : List Rule) (M : List (ℕ × Statement)) (G : List (ℕ × Expression)) (c d : Claim) (h k : Expression) → IsObjectGoal c → IsObjectGoal d → EqualClaims T M G (fill_goal c h) (fill_goal d k) → Prim T M G (plain (equate_goal c h k))
reify_claim T M G type_goal type_goal h k o o' e = e
reify_claim T M G type_goal (term_goal B) h k o o' e = absurd e
reify_claim T M G (term_goal A) type_goal h k o o' e = absurd e
reify_claim T M G (term_goal A) (term_goal B) h k o o' e = e.1
reify_claim T M G type_goal (is_type B) h k o o' e = absurd o'
reify_claim T M G type_goal (has_type u B) h k o o' e = absurd o'
reify_claim T M G type_goal (equal_types B C) h k o o' e = absurd o'
reify_claim T M G type_goal (equal_terms u v B) h k o o' e = absurd o'
reify_claim T M G type_goal (type_equation_goal B C) h k o o' e = absurd o'
reify_claim T M G type_goal (term_equation_goal u v B) h k o o' e = absurd o'
reify_claim T M G (term_goal A) (is_type B) h k o o' e = absurd o'
reify_claim T M G (term_goal A) (has_type u B) h k o o' e = absurd o'
reify_claim T M G (term_goal A) (equal_types B C) h k o o' e = absurd o'
reify_claim T M G (term_goal A) (equal_terms u v B) h k o o' e = absurd o'
reify_claim T M G (term_goal A) (type_equation_goal B C) h k o o' e = absurd o'
reify_claim T M G (term_goal A) (term_equation_goal u v B) h k o o' e = absurd o'
reify_claim T M G (is_type A) d h k o o' e = absurd o
reify_claim T M G (has_type t A) d h k o o' e = absurd o
reify_claim T M G (equal_types A B) d h k o o' e = absurd o
reify_claim T M G (equal_terms s t A) d h k o o' e = absurd o
reify_claim T M G (type_equation_goal A B) d h k o o' e = absurd o
reify_claim T M G (term_equation_goal s t A) d h k o o' e = absurd o

pub reify : (T : List Rule) → ScopedTheory T → (M : List (ℕ × Statement)) (n : ℕ) (G : List (ℕ × Expression)) (b c : Statement) (h k : Expression) → domain_count b ≡ n → domain_count c ≡ n → IsObject b → IsObject c → EqualStatements T M G (fill b h) (fill c k) → Prim T M G (equate b h k)
reify T sc M n G (plain b) (plain c) h k d d' o o' e = reify_claim T M G b c h k o o' (equal_here T M G (plain (fill_goal b h)) (plain (fill_goal c k)) e)
reify T sc M n G (plain b) (abstracted B y) h k d d' o o' e = absurd (equal_here T M G (plain (fill_goal b h)) (abstracted B (fill y k)) e)
reify T sc M n G (abstracted A x) (plain c) h k d d' o o' e = absurd (equal_here T M G (abstracted A (fill x h)) (plain (fill_goal c k)) e)
reify T sc M zero G (abstracted A x) (abstracted B y) h k d d' o o' e = absurd (grind (arith, d))
reify T sc M (suc n) G (abstracted A x) (abstracted B y) h k d d' o o' e =
    let AB : Prim T M G (plain (equal_types A B)) = equal_here T M G (abstracted A (fill x h)) (abstracted B (fill y k)) e in
    let dx : domain_count x ≡ n = omega (arith, d) in
    let dy : domain_count y ≡ n = omega (arith, d') in
    under_abstraction T M G A (equate x h k) (types_of T sc M G A B AB).0
    (λ w p q.
    let t : Expression = free w in
    let K : List (ℕ × Expression) = (w, A) ∷ G in
    let e' : EqualStatements T M K (opened t (abstracted A (fill x h))) (opened t (abstracted B (fill y k))) =
    equal_opened T sc M G K A B (fill x h) (fill y k) t t e (Grows_add G G w A (Grows_refl G) (fresh_absent G w p)) (inl (w, refl, refl, look_here G w A)) in
    let xh : opened t (abstracted A (fill x h)) ≡ fill (opened t (abstracted A x)) (open_at (domain_count x + zero) t h) = fill-map x (λ l. open_at l t) zero h in
    let yk : opened t (abstracted B (fill y k)) ≡ fill (opened t (abstracted B y)) (open_at (domain_count x + zero) t k) = fill-map y (λ l. open_at l t) zero k ∙ ap (λ l. fill (opened t (abstracted B y)) (open_at (l + zero) t k)) (dy ∙ sym dx) in
    subst (λ z. Prim T M K z) (sym (equate-map x (λ l. open_at l t) zero h k))
    (reify T sc M n K (opened t (abstracted A x)) (opened t (abstracted B y)) (open_at (domain_count x + zero) t h) (open_at (domain_count x + zero) t k)
    (domain_count-map x (λ l. open_at l t) zero ∙ dx) (domain_count-map y (λ l. open_at l t) zero ∙ dy) (object-opened (abstracted A x) t o) (object-opened (abstracted B y) t o') (subst₂ (λ u v. EqualStatements T M K u v) xh yk e')))

-- where the left one of two equal statements is derivable, the right one is
pub transport_claim : (T : List Rule) → ScopedTheory T → (M : List (ℕ × Statement)) (G : List (ℕ × Expression)) (c d : Claim) → EqualClaims T M G c d → Prim T M G (plain c) → Prim T M G (plain d)
transport_claim T sc M G (is_type A) (is_type B) e p = (types_of T sc M G A B e).1
transport_claim T sc M G (has_type t A) (has_type u B) e p = do_convert_term (sides_of T sc M G t u A e.1).2 e.0
transport_claim T sc M G (equal_types A B) (equal_types C D) e p = do_transitive_types (do_transitive_types (do_symmetric_types e.0) p) e.1
transport_claim T sc M G (equal_terms s t A) (equal_terms u v B) e p = do_convert_equation (do_transitive_terms (do_transitive_terms (do_symmetric_terms e.1) p) e.2) e.0
transport_claim T sc M G type_goal type_goal e p = p
transport_claim T sc M G (term_goal A) (term_goal B) e p = do_for_term (types_of T sc M G A B e).1
transport_claim T sc M G (type_equation_goal A B) (type_equation_goal C D) e p = do_for_types (types_of T sc M G A C e.0).1 (types_of T sc M G B D e.1).1
transport_claim T sc M G (term_equation_goal s t A) (term_equation_goal u v B) e p =
    do_for_terms (types_of T sc M G A B e.0).1 (do_convert_term (sides_of T sc M G s u A e.1).2 e.0) (do_convert_term (sides_of T sc M G t v A e.2).2 e.0)
transport_claim T sc M G _ _ e p = absurd e

pub transport : (T : List Rule) → ScopedTheory T → (M : List (ℕ × Statement)) (n : ℕ) (G : List (ℕ × Expression)) (x y : Statement) → domain_count x ≡ n → EqualStatements T M G x y → Prim T M G x → Prim T M G y
transport T sc M n G (plain c) (plain d) z e p = transport_claim T sc M G c d (equal_here T M G (plain c) (plain d) e) p
transport T sc M n G (plain c) (abstracted B y) z e p = absurd (equal_here T M G (plain c) (abstracted B y) e)
transport T sc M n G (abstracted A x) (plain d) z e p = absurd (equal_here T M G (abstracted A x) (plain d) e)
transport T sc M zero G (abstracted A x) (abstracted B y) z e p = absurd (grind (arith, z))
transport T sc M (suc n) G (abstracted A x) (abstracted B y) z e p =
    let AB : Prim T M G (plain (equal_types A B)) = equal_here T M G (abstracted A x) (abstracted B y) e in
    let pB : Prim T M G (plain (is_type B)) = (types_of T sc M G A B AB).1 in
    under_abstraction T M G B y pB
    (λ w q r.
    let t : Expression = free w in
    let K : List (ℕ × Expression) = (w, B) ∷ G in
    let g : Grows G K = Grows_add G G w B (Grows_refl G) (fresh_absent G w q) in
    let wA : Prim T M K (plain (has_type t A)) = do_convert_term (do_variable w (look_here G w B) (grow T sc M G K (plain (is_type B)) g pB)) (do_symmetric_types (grow T sc M G K (plain (equal_types A B)) g AB)) in
    transport T sc M n K (opened t (abstracted A x)) (opened t (abstracted B y)) (domain_count-map x (λ l. open_at l t) zero ∙ omega (arith, z))
    (equal_opened T sc M G K A B x y t t e g (inr (do_reflexive_term wA)))
    (substitute T sc M K A t x (grow T sc M G K (abstracted A x) g p) wA))
