-- Each derivable statement is equal to itself at equal terms; so equal terms may be put for a variable.
use Rattle.ft_laws.proofs.Peel.Peeled.{first}
use Rattle.ft_laws.proofs.Peel.{peel}
use Rattle.std.proofs.Common.{◌≡◌, ℕ, zero, suc, ◌+◌, ◌≤◌, Some, None, List, ◌∷◌, inl, inr, refl, sym, ap, ◌∙◌, subst, subst₂, arith}
use Rattle.ft_theory.specs.Expressions.{Expression, free, meta, Terms, count, body_or, open_at}
use Rattle.ft_theory.specs.Statements.{Claim, is_type, has_type, equal_types, equal_terms, type_goal, term_goal, type_equation_goal, term_equation_goal, Statement, plain, abstracted, opened, domain_count, at, fill_goal, fill, equate_goal, equate, IsObjectGoal, IsObject}
use Rattle.ft_theory.specs.Rules.{look_up, Rule, term_typings, term_equations}
use Rattle.ft_theory.specs.Steps.{sequent, sequents, IsVariableFree, Step, metavariable, metavariable_congruence, Trees, node, more, Prim}
use Rattle.ft_laws.specs.Instances.{statement_at}
use Rattle.ft_laws.proofs.Acts.{no_bodies, act_nothing}
use Rattle.ft_laws.proofs.Steps.{do_transitive_types, do_transitive_terms, do_variable}
use Rattle.ft_laws.proofs.Scope.{object-at, domain_count-at}
use Rattle.ft_laws.proofs.Statements.{fill-map, equate-map, domain_count-map, object-opened, act_statement_nothing}
use Rattle.ft_laws.proofs.Commute.{ScopedTheory}
use Rattle.ft_laws.proofs.Fresh.{limit_of_variables, fresh_absent}
use Rattle.ft_laws.proofs.Traverse.{Grows, Grows_refl, Grows_add, under_abstraction, look_here}
use Rattle.ft_laws.proofs.Substitute.{substitute, identity}
use Rattle.ft_laws.proofs.Equal.{EqualHere, EqualStatements, grow, equal_opened, sides_of, types_of, reify, reify_claim}
use Rattle.ft_laws.proofs.Relate.{Pairs, relate, head_here, back_here, pairs_of_equations}

-- plain statements
pub head_flat : (T : List Rule) (M : List (ℕ × Statement)) (G : List (ℕ × Expression)) (x y : Statement) (h k : Expression) → domain_count x ≡ zero → IsObject x → IsObject y → EqualHere T M G x y → Prim T M G (equate x h k) → EqualHere T M G (fill x h) (fill y k)
head_flat T M G (plain c) (plain d) h k z o o' e p = head_here T M G c d h k o o' e p
head_flat T M G (plain c) (abstracted B y) h k z o o' e p = absurd e
head_flat T M G (abstracted A x) y h k z o o' e p = absurd (grind (arith, z))

pub back_flat : (T : List Rule) (M : List (ℕ × Statement)) (G : List (ℕ × Expression)) (x y : Statement) (k : Expression) → domain_count x ≡ zero → IsObject x → IsObject y → EqualHere T M G x y → Prim T M G (fill y k) → Prim T M G (fill x k)
back_flat T M G (plain c) (plain d) k z o o' e p = back_here T M G c d k o o' e p
back_flat T M G (plain c) (abstracted B y) k z o o' e p = absurd e
back_flat T M G (abstracted A x) y k z o o' e p = absurd (grind (arith, z))

pub reify_flat : (T : List Rule) (M : List (ℕ × Statement)) (G : List (ℕ × Expression)) (x y : Statement) (h k : Expression) → domain_count x ≡ zero → IsObject x → IsObject y → EqualHere T M G (fill x h) (fill y k) → Prim T M G (equate x h k)
reify_flat T M G (plain c) (plain d) h k z o o' e = reify_claim T M G c d h k o o' e
reify_flat T M G (plain c) (abstracted B y) h k z o o' e = absurd e
reify_flat T M G (abstracted A x) y h k z o o' e = absurd (grind (arith, z))

pub transitive_flat : (T : List Rule) (M : List (ℕ × Statement)) (G : List (ℕ × Expression)) (x : Statement) (h j k : Expression) → domain_count x ≡ zero → IsObject x → Prim T M G (equate x h j) → Prim T M G (equate x j k) → Prim T M G (equate x h k)
transitive_flat T M G (plain type_goal) h j k z o p q = do_transitive_types p q
transitive_flat T M G (plain (term_goal A)) h j k z o p q = do_transitive_terms p q
transitive_flat T M G (plain (is_type A)) h j k z o p q = absurd o
transitive_flat T M G (plain (has_type t A)) h j k z o p q = absurd o
transitive_flat T M G (plain (equal_types A B)) h j k z o p q = absurd o
transitive_flat T M G (plain (equal_terms s t A)) h j k z o p q = absurd o
transitive_flat T M G (plain (type_equation_goal A B)) h j k z o p q = absurd o
transitive_flat T M G (plain (term_equation_goal s t A)) h j k z o p q = absurd o
transitive_flat T M G (abstracted A x) h j k z o p q = absurd (grind (arith, z))

-- the heads of a metavariable that stays
pub staying : (T : List Rule) → ScopedTheory T → (N : List (ℕ × Statement)) (K : List (ℕ × Expression)) (m : ℕ) (b : Statement) (a c : Terms) → look_up N m ≡ Some b → IsVariableFree b → IsObject b → count a ≡ domain_count b → count c ≡ domain_count b
    → Prim T N K b → EqualStatements T N K b b → Trees (Step T) (sequents N K (term_typings b a)) → Trees (Step T) (sequents N K (term_typings b c)) → Trees (Step T) (sequents N K (term_equations b a c)) → EqualHere T N K (fill (at b a) (meta m a)) (fill (at b c) (meta m c))
staying T sc N K m b a c q gl o d d' p e ta tc pp =
    let here : EqualHere T N K (at b a) (at b c) = e K (Grows_refl K) a c (pairs_of_equations T N K a c b (d ∙ sym d') pp) in
    let L : Prim T N K (fill (at b a) (meta m a)) = node (sequent N K b ∷ sequents N K (term_typings b a)) (metavariable m b a q gl o d) (more p ta) in
    let S : Prim T N K (fill (at b c) (meta m c)) = node (sequent N K b ∷ sequents N K (term_typings b c)) (metavariable m b c q gl o d') (more p tc) in
    let S' : Prim T N K (fill (at b a) (meta m c)) = back_flat T N K (at b a) (at b c) (meta m c) (domain_count-at a b d) (object-at a b o) (object-at c b o) here S in
    head_flat T N K (at b a) (at b c) (meta m a) (meta m c) (domain_count-at a b d) (object-at a b o) (object-at c b o) here
    (node (sequent N K (fill (at b a) (meta m a)) ∷ sequent N K (fill (at b a) (meta m c)) ∷ sequents N K (term_equations b a c)) (metavariable_congruence m b a c q gl o d d') (more L (more S' pp)))

pub same_pair : (T : List Rule) → ScopedTheory T → (M : List (ℕ × Statement)) (G : List (ℕ × Expression)) → Pairs T M G M G free no_bodies free no_bodies
unfolding body_or
same_pair T sc M G = record {
  left = identity T M M G G (λ m b q. q) (Grows_refl G);
  closed = record { frees = λ v. tt; bodies = λ m k. tt };
  related = λ v A q. inl (v, refl, refl, q ∙ ap Some (sym (act_nothing A)));
  heads = λ m b q gl o K g a c d d' p e ta tc pp.
      let E : statement_at no_bodies b ≡ b = act_statement_nothing b in
      subst (λ z. EqualHere T M K (fill (at z a) (meta m a)) (fill (at z c) (meta m c))) (sym E)
      (staying T sc M K m b a c q gl o d d' (subst (λ z. Prim T M K z) E p) (subst (λ z. EqualStatements T M K z z) E e)
      (subst (λ z. Trees (Step T) (sequents M K (term_typings z a))) E ta) (subst (λ z. Trees (Step T) (sequents M K (term_typings z c))) E tc) (subst (λ z. Trees (Step T) (sequents M K (term_equations z a c))) E pp));
}

-- a statement at equal terms is equal to itself
pub itself : (T : List Rule) → ScopedTheory T → (M : List (ℕ × Statement)) (G : List (ℕ × Expression)) (x : Statement) → Prim T M G x → EqualStatements T M G x x
itself T sc M G x p = subst (λ z. EqualStatements T M G z z) (act_statement_nothing x) (relate T sc (sequent M G x) p M G free no_bodies free no_bodies (same_pair T sc M G))

pub substitute_equal : (T : List Rule) → ScopedTheory T → (M : List (ℕ × Statement)) (G : List (ℕ × Expression)) (A s t : Expression) (b : Statement) (h : Expression) → IsObject b → Prim T M G (abstracted A (fill b h)) → Prim T M G (plain (equal_terms s t A))
    → Prim T M G (equate (opened s (abstracted A b)) (open_at (domain_count b + zero) s h) (open_at (domain_count b + zero) t h))
substitute_equal T sc M G A s t b h o p q =
    let e : EqualStatements T M G (opened s (abstracted A (fill b h))) (opened t (abstracted A (fill b h))) = equal_opened T sc M G G A A (fill b h) (fill b h) s t (itself T sc M G (abstracted A (fill b h)) p) (Grows_refl G) (inr q) in
    reify T sc M (domain_count b) G (opened s (abstracted A b)) (opened t (abstracted A b)) (open_at (domain_count b + zero) s h) (open_at (domain_count b + zero) t h)
    (domain_count-map b (λ l. open_at l s) zero) (domain_count-map b (λ l. open_at l t) zero) (object-opened (abstracted A b) s o) (object-opened (abstracted A b) t o)
    (subst₂ (λ x y. EqualStatements T M G x y) (fill-map b (λ l. open_at l s) zero h) (fill-map b (λ l. open_at l t) zero h) e)

-- the right side of an equation between heads
right_of_claim : (T : List Rule) → ScopedTheory T → (M : List (ℕ × Statement)) (G : List (ℕ × Expression)) (c : Claim) (h k : Expression) → IsObjectGoal c → Prim T M G (plain (equate_goal c h k)) → Prim T M G (plain (fill_goal c k))
right_of_claim T sc M G type_goal h k o p = (types_of T sc M G h k p).1
right_of_claim T sc M G (term_goal A) h k o p = (sides_of T sc M G h k A p).2
right_of_claim T sc M G (is_type A) h k o p = absurd o
right_of_claim T sc M G (has_type t A) h k o p = absurd o
right_of_claim T sc M G (equal_types A B) h k o p = absurd o
right_of_claim T sc M G (equal_terms s t A) h k o p = absurd o
right_of_claim T sc M G (type_equation_goal A B) h k o p = absurd o
right_of_claim T sc M G (term_equation_goal s t A) h k o p = absurd o

-- a property of what stands under the domains, taken in at fresh variables
pub first_domain : (T : List Rule) (M : List (ℕ × Statement)) (G : List (ℕ × Expression)) (A : Expression) (x : Statement) → Prim T M G (abstracted A x) → Prim T M G (plain (is_type A))
first_domain T M G A x p = first (peel T (sequent M G (abstracted A x)) A x p refl)

-- a statement under a domain, opened at a variable that the map lacks
pub at_absent : (T : List Rule) → ScopedTheory T → (M : List (ℕ × Statement)) (G : List (ℕ × Expression)) (A : Expression) (x : Statement) (w : ℕ) → look_up G w ≡ None → Prim T M G (abstracted A x) → Prim T M ((w, A) ∷ G) (opened (free w) (abstracted A x))
at_absent T sc M G A x w l p =
    let K : List (ℕ × Expression) = (w, A) ∷ G in
    let g : Grows G K = Grows_add G G w A (Grows_refl G) l in
    substitute T sc M K A (free w) x (grow T sc M G K (abstracted A x) g p) (do_variable w (look_here G w A) (grow T sc M G K (plain (is_type A)) g (first_domain T M G A x p)))

pub at_fresh : (T : List Rule) → ScopedTheory T → (M : List (ℕ × Statement)) (G : List (ℕ × Expression)) (A : Expression) (x : Statement) (w : ℕ) → limit_of_variables G ≤ w → Prim T M G (abstracted A x) → Prim T M ((w, A) ∷ G) (opened (free w) (abstracted A x))
at_fresh T sc M G A x w l p = at_absent T sc M G A x w (fresh_absent G w l) p

pub right_side : (T : List Rule) → ScopedTheory T → (M : List (ℕ × Statement)) (n : ℕ) (G : List (ℕ × Expression)) (b : Statement) (h k : Expression) → domain_count b ≡ n → IsObject b → Prim T M G (equate b h k) → Prim T M G (fill b k)
right_side T sc M n G (plain c) h k z o p = right_of_claim T sc M G c h k o p
right_side T sc M zero G (abstracted A x) h k z o p = absurd (grind (arith, z))
right_side T sc M (suc n) G (abstracted A x) h k z o p =
    under_abstraction T M G A (fill x k) (first_domain T M G A (equate x h k) p)
    (λ w q r.
    subst (λ y. Prim T M ((w, A) ∷ G) y) (sym (fill-map x (λ l. open_at l (free w)) zero k))
    (right_side T sc M n ((w, A) ∷ G) (opened (free w) (abstracted A x)) (open_at (domain_count x + zero) (free w) h) (open_at (domain_count x + zero) (free w) k) (domain_count-map x (λ l. open_at l (free w)) zero ∙ omega (arith, z)) (object-opened (abstracted A x) (free w) o)
    (subst (λ y. Prim T M ((w, A) ∷ G) y) (equate-map x (λ l. open_at l (free w)) zero h k) (at_fresh T sc M G A (equate x h k) w q p))))
