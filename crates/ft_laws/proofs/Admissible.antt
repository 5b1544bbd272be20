-- Each wide step is admissible over a theory whose boundaries are primitively derivable; finitary theories are such.
use Rattle.std.proofs.Common.{◌≡◌, ℕ, zero, suc, Some, List, [], ◌∷◌, ◌⊎◌, inl, inr, refl, sym, ap, ◌∙◌, subst, arith, append_assoc, append-nil, ◌↔◌}
use Rattle.std.proofs.lemmas.Option.{same_Some}
use Rattle.ft_common.proofs.Options.{none_some}
use Rattle.ft_theory.specs.Expressions.{Expression, bound, free, symbol, meta, Arguments, Terms, no_terms, also, count, act, open_at}
use Rattle.ft_theory.specs.Statements.{Claim, is_type, has_type, equal_types, equal_terms, type_goal, term_goal, type_equation_goal, term_equation_goal, Statement, plain, abstracted, map_claim, map_statement, opened, domain, domain_count, at, fill_goal, equate, IsObject, IsEquation}
use Rattle.ft_theory.specs.Rules.{Rule, rule_at, instance_of, filled_premises, equated_premises, term_typings, term_equations, conclusion_at}
use Rattle.ft_theory.specs.Steps.{Sequent, sequent, sequents, Step, symbol_rule, equation_rule, congruence, Tree, Trees, node, none, more, Prim}
use Rattle.ft_theory.specs.WideSteps.{SideOfClaim, type_of_term, left_type, right_type, type_of_terms, left_term, right_term, type_of_boundary, left_type_side, right_type_side, type_of_sides, left_term_side, right_term_side, Side, plain_side, under_domain, WideStep, weakening, substitution, its_boundary, a_side, first_domain, equal_substitution, boundary_at_arguments, object_instance, equation_instance, equal_instances, convert_premise, convert_back, metavariable_at_equal_terms, argument_in_type, argument_in_term, term_in_type, term_in_term, natural_variable, natural_symbol, natural_metavariable}
use Rattle.ft_theory.specs.Derivability.{StepUpTo, DerUpTo, PremisesHold, RuleHolds, FinitaryAfter, FinitaryUpTo}
use Rattle.std.specs.Prelude.{◌++◌}
use Rattle.ft_laws.specs.Laws.{Each, IsPrimitive, KindIsAdmissible}
use Rattle.ft_laws.specs.Instances.{statement_at}
use Rattle.ft_laws.proofs.Induction.{AllOf, induct}
use Rattle.ft_laws.proofs.Steps.{do_convert_term}
use Rattle.ft_laws.proofs.Scope.{object-at, domain_count-at}
use Rattle.ft_laws.proofs.Statements.{domain_count-map, domain_count-opened, object-map, equation-map, object_goal-map}
use Rattle.ft_laws.proofs.Commute.{ScopedTheory}
use Rattle.ft_laws.proofs.Traverse.{Grows_refl, under_abstraction}
use Rattle.ft_laws.proofs.Substitute.{weaken, substitute}
use Rattle.ft_laws.proofs.Sides.{parts, boundary}
use Rattle.ft_laws.proofs.Equal.{EqualStatements, equal_here, equal_opened, sides_of, types_of, transport}
use Rattle.ft_laws.proofs.Relate.{back_here}
use Rattle.ft_laws.proofs.EqualTerms.{itself, staying, reify_flat, substitute_equal, right_side, at_fresh}
use Rattle.ft_laws.proofs.Instances.{instantiate}
use Rattle.ft_laws.proofs.Rules.{whole_instance, whole_pair, right_premises, move_head, symmetric_equal}
use Rattle.ft_laws.proofs.Inversion.{OfType, OfTerm, origin, pick}
use Rattle.ft_laws.proofs.Finitary.{more_rules, Sound, scoped, boundary_after}

-- sides under domains
side_claim : (T : List Rule) → ScopedTheory T → (M : List (ℕ × Statement)) (G : List (ℕ × Expression)) (c d : Claim) → SideOfClaim c d → Prim T M G (plain c) → Prim T M G (plain d)
side_claim T sc M G c d (type_of_term t A) p = parts T (sequent M G (plain (term_goal A))) (boundary T sc (sequent M G (plain (has_type t A))) p)
side_claim T sc M G c d (left_type A B) p = (types_of T sc M G A B p).0
side_claim T sc M G c d (right_type A B) p = (types_of T sc M G A B p).1
side_claim T sc M G c d (type_of_terms s t A) p = (sides_of T sc M G s t A p).0
side_claim T sc M G c d (left_term s t A) p = (sides_of T sc M G s t A p).1
side_claim T sc M G c d (right_term s t A) p = (sides_of T sc M G s t A p).2
side_claim T sc M G c d (type_of_boundary A) p = parts T (sequent M G (plain (term_goal A))) p
side_claim T sc M G c d (left_type_side A B) p = (parts T (sequent M G (plain (type_equation_goal A B))) p).0
side_claim T sc M G c d (right_type_side A B) p = (parts T (sequent M G (plain (type_equation_goal A B))) p).1
side_claim T sc M G c d (type_of_sides s t A) p = (parts T (sequent M G (plain (term_equation_goal s t A))) p).0
side_claim T sc M G c d (left_term_side s t A) p = (parts T (sequent M G (plain (term_equation_goal s t A))) p).1
side_claim T sc M G c d (right_term_side s t A) p = (parts T (sequent M G (plain (term_equation_goal s t A))) p).2

side_map_claim : (c d : Claim) (f : Expression → Expression) → SideOfClaim c d → SideOfClaim (map_claim f c) (map_claim f d)
side_map_claim c d f (type_of_term t A) = type_of_term (f t) (f A)
side_map_claim c d f (left_type A B) = left_type (f A) (f B)
side_map_claim c d f (right_type A B) = right_type (f A) (f B)
side_map_claim c d f (type_of_terms s t A) = type_of_terms (f s) (f t) (f A)
side_map_claim c d f (left_term s t A) = left_term (f s) (f t) (f A)
side_map_claim c d f (right_term s t A) = right_term (f s) (f t) (f A)
side_map_claim c d f (type_of_boundary A) = type_of_boundary (f A)
side_map_claim c d f (left_type_side A B) = left_type_side (f A) (f B)
side_map_claim c d f (right_type_side A B) = right_type_side (f A) (f B)
side_map_claim c d f (type_of_sides s t A) = type_of_sides (f s) (f t) (f A)
side_map_claim c d f (left_term_side s t A) = left_term_side (f s) (f t) (f A)
side_map_claim c d f (right_term_side s t A) = right_term_side (f s) (f t) (f A)

side_map : (x y : Statement) (f : ℕ → Expression → Expression) (k : ℕ) → Side x y → Side (map_statement f k x) (map_statement f k y)
side_map x y f k (plain_side c d s) = plain_side (map_claim (f k) c) (map_claim (f k) d) (side_map_claim c d (f k) s)
side_map x y f k (under_domain A u v s) = under_domain (f k A) (map_statement f (suc k) u) (map_statement f (suc k) v) (side_map u v f (suc k) s)

side : (T : List Rule) → ScopedTheory T → (M : List (ℕ × Statement)) (n : ℕ) (G : List (ℕ × Expression)) (x y : Statement) → domain_count x ≡ n → Side x y → Prim T M G x → Prim T M G y
side T sc M n G x y d (plain_side c e s) p = side_claim T sc M G c e s p
side T sc M zero G x y d (under_domain A u v s) p = absurd (grind (arith, d))
side T sc M (suc n) G x y d (under_domain A u v s) p =
    under_abstraction T M G A v (Rattle.ft_laws.proofs.EqualTerms.first_domain T M G A u p)
    (λ w q r. side T sc M n ((w, A) ∷ G) (opened (free w) (abstracted A u)) (opened (free w) (abstracted A v)) (domain_count-map u (λ l. open_at l (free w)) zero ∙ omega (arith, d)) (side_map u v (λ l. open_at l (free w)) zero s) (at_fresh T sc M G A u w q p))

split : (S : List Sequent → Sequent → Type 0) (M : List (ℕ × Statement)) (G : List (ℕ × Expression)) (xs ys : List Statement) → Trees S (sequents M G (xs ++ ys)) → Trees S (sequents M G xs) × Trees S (sequents M G ys)
split S M G [] ys ts = (none, ts)
split S M G (x ∷ xs) ys (more t ts) =
    let r : Trees S (sequents M G xs) × Trees S (sequents M G ys) = split S M G xs ys ts in
    (more t r.0, r.1)

-- equal terms are terms, the left ones at the domains of x, the right ones at the domains of an equal y
left_term_typings : (T : List Rule) → ScopedTheory T → (M : List (ℕ × Statement)) (G : List (ℕ × Expression)) (a c : Terms) (x : Statement) → count a ≡ count c → Trees (Step T) (sequents M G (term_equations x a c)) → Trees (Step T) (sequents M G (term_typings x a))
unfolding count
left_term_typings T sc M G no_terms c x d ts = none
left_term_typings T sc M G (also s a) no_terms x d ts = absurd (grind (arith, d))
left_term_typings T sc M G (also s a) (also t c) x d (more p ts) = more (sides_of T sc M G s t (domain x) p).1 (left_term_typings T sc M G a c (opened s x) (omega (arith, d)) ts)

right_term_typings : (T : List Rule) → ScopedTheory T → (M : List (ℕ × Statement)) (G : List (ℕ × Expression)) (a c : Terms) (x y : Statement) → count a ≡ domain_count x → count c ≡ domain_count x → EqualStatements T M G x y → Trees (Step T) (sequents M G (term_equations x a c)) → Trees (Step T) (sequents M G (term_typings y c))
unfolding count
right_term_typings T sc M G no_terms no_terms x y d d' e ts = none
right_term_typings T sc M G no_terms (also t c) x y d d' e ts = absurd (grind (arith, d, d'))
right_term_typings T sc M G (also s a) no_terms x y d d' e ts = absurd (grind (arith, d, d'))
right_term_typings T sc M G (also s a) (also t c) (plain x) y d d' e ts = absurd (grind (arith, d))
right_term_typings T sc M G (also s a) (also t c) (abstracted A x) (plain y) d d' e ts = absurd (equal_here T M G (abstracted A x) (plain y) e)
right_term_typings T sc M G (also s a) (also t c) (abstracted A x) (abstracted B y) d d' e (more p ts) =
    more (do_convert_term (sides_of T sc M G s t A p).2 (equal_here T M G (abstracted A x) (abstracted B y) e))
    (right_term_typings T sc M G a c (opened s (abstracted A x)) (opened t (abstracted B y)) (sym (domain_count-opened (abstracted A x) s (count a) (sym d))) (sym (domain_count-opened (abstracted A x) s (count c) (sym d')))
    (equal_opened T sc M G G A B x y s t e (Grows_refl G) (inr p)) ts)

unique : (T : List Rule) (r : ℕ) (R S : Rule) → rule_at T r ≡ Some R → rule_at T r ≡ Some S → R ≡ S
unique T r R S p q = same_Some R S (sym p ∙ q)

pub admissible : (T : List Rule) → Sound T → (n : ℕ) (ps : List Sequent) (c : Sequent) → WideStep T n ps c → Trees (Step T) ps → Tree (Step T) c
admissible T so n ps c (weakening {M} {N} {G} {H} x e s) (more p none) = weaken T (scoped T so) M N G H x e s p
admissible T so n ps c (substitution {M} {G} A t x) (more p (more q none)) = substitute T (scoped T so) M G A t x p q
admissible T so n ps c (its_boundary {M} {G} x) (more p none) = boundary T (scoped T so) (sequent M G x) p
admissible T so n ps c (a_side {M} {G} x y s) (more p none) = side T (scoped T so) M (domain_count x) G x y refl s p
admissible T so n ps c (first_domain {M} {G} A x) (more p none) = Rattle.ft_laws.proofs.EqualTerms.first_domain T M G A x p
admissible T so n ps c (equal_substitution {M} {G} A s t b h o) (more p (more q none)) =
    subst (λ l. Prim T M G (equate (opened s (abstracted A b)) (open_at l s h) (open_at l t h))) (omega arith) (substitute_equal T (scoped T so) M G A s t b h o p q)
admissible T so n ps c (boundary_at_arguments {M} {G} r R qs b a q w f) ts =
    instantiate T (scoped T so) qs [] M G (instance_of qs a) b (whole_instance T qs M G qs a (λ m b r. r) f ts) (boundary_after (λ M x. Prim T M [] x) R qs b (so r R q) w).1
admissible T so n ps c (object_instance {M} {G} r R a q f o) ts =
    node (sequent M G (plain (conclusion_at R a)) ∷ sequents M G (filled_premises (instance_of R.premises a) R.premises a)) (symbol_rule r R a q f o)
    (more (instantiate T (scoped T so) R.premises [] M G (instance_of R.premises a) (plain R.conclusion) (whole_instance T R.premises M G R.premises a (λ m b r. r) f ts) (so r R q).2) ts)
admissible T so n ps c (equation_instance {M} {G} r R a q f o) ts =
    node (sequent M G (plain (conclusion_at R a)) ∷ sequents M G (filled_premises (instance_of R.premises a) R.premises a)) (equation_rule r R a q f o)
    (more (instantiate T (scoped T so) R.premises [] M G (instance_of R.premises a) (plain R.conclusion) (whole_instance T R.premises M G R.premises a (λ m b r. r) f ts) (so r R q).2) ts)
admissible T so n ps c (equal_instances {M} {G} r R a b q f f' o) ts =
    let P : List (ℕ × Statement) = R.premises in
    let sc : ScopedTheory T = scoped T so in
    let w : Trees (Step T) (sequents M G (filled_premises (instance_of P a) P a)) × Trees (Step T) (sequents M G (equated_premises (instance_of P a) P a b)) = split (Step T) M G (filled_premises (instance_of P a) P a) (equated_premises (instance_of P a) P a b) ts in
    let ci : Claim = conclusion_at R a in
    let cj : Claim = conclusion_at R b in
    let e : EqualStatements T M G (plain ci) (plain cj) = Rattle.ft_laws.proofs.Instances.equal_instances T sc P [] M G (instance_of P a) (instance_of P b) (plain R.conclusion) (whole_pair T sc P M G P a b (λ m b r. r) f f' w.0 w.1) (so r R q).2 in
    let bl : Prim T M G (plain ci) = instantiate T sc P [] M G (instance_of P a) (plain R.conclusion) (whole_instance T P M G P a (λ m b r. r) f w.0) (so r R q).2 in
    let dr : Trees (Step T) (sequents M G (filled_premises (instance_of P b) P b)) = right_premises T sc M G P a b f f' w.0 w.1 [] P a b (so r R q).0 (λ m b r. r) f f' w.0 w.1 in
    let L : Prim T M G (plain (fill_goal ci (symbol r a))) = node (sequent M G (plain ci) ∷ sequents M G (filled_premises (instance_of P a) P a)) (symbol_rule r R a q f o) (more bl w.0) in
    let S : Prim T M G (plain (fill_goal cj (symbol r b))) = node (sequent M G (plain cj) ∷ sequents M G (filled_premises (instance_of P b) P b)) (symbol_rule r R b q f' o) (more (transport T sc M zero G (plain ci) (plain cj) refl e bl) dr) in
    node (sequent M G (plain (fill_goal ci (symbol r a))) ∷ sequent M G (plain (fill_goal ci (symbol r b))) ∷ sequents M G (equated_premises (instance_of P a) P a b)) (congruence r R a b q f f' o)
    (more L (more (back_here T M G ci cj (symbol r b) (object_goal-map R.conclusion (act free (instance_of P a)) o) (object_goal-map R.conclusion (act free (instance_of P b)) o) (equal_here T M G (plain ci) (plain cj) e) S) w.1))
admissible T so n ps c (convert_premise {M} {G} r R qs k a b h q e f f') (more p ts) =
    let sc : ScopedTheory T = scoped T so in
    let w : Trees (Step T) (sequents M G (filled_premises (instance_of qs a) qs a)) × Trees (Step T) (sequents M G (equated_premises (instance_of qs a) qs a b)) = split (Step T) M G (filled_premises (instance_of qs a) qs a) (equated_premises (instance_of qs a) qs a b) ts in
    let u : (IsObject k ⊎ IsEquation k) × Prim T qs [] k = boundary_after (λ M x. Prim T M [] x) R qs k (so r R q) e in
    let ee : EqualStatements T M G (statement_at (instance_of qs a) k) (statement_at (instance_of qs b) k) = Rattle.ft_laws.proofs.Instances.equal_instances T sc qs [] M G (instance_of qs a) (instance_of qs b) k (whole_pair T sc qs M G qs a b (λ m b r. r) f f' w.0 w.1) u.1 in
    move_head T sc M G (statement_at (instance_of qs a) k) (statement_at (instance_of qs b) k) h (domain_count-map k (λ l. act free (instance_of qs b)) zero ∙ sym (domain_count-map k (λ l. act free (instance_of qs a)) zero)) (kinds k a b qs u.0) ee p
  where
    kinds : (k : Statement) (a b : Arguments) (qs : List (ℕ × Statement)) → IsObject k ⊎ IsEquation k → (IsObject (statement_at (instance_of qs a) k) × IsObject (statement_at (instance_of qs b) k)) ⊎ (IsEquation (statement_at (instance_of qs a) k) × IsEquation (statement_at (instance_of qs b) k))
    kinds k a b qs (inl o) = inl (object-map k (λ l. act free (instance_of qs a)) zero o, object-map k (λ l. act free (instance_of qs b)) zero o)
    kinds k a b qs (inr o) = inr (equation-map k (λ l. act free (instance_of qs a)) zero o, equation-map k (λ l. act free (instance_of qs b)) zero o)
admissible T so n ps c (convert_back {M} {G} r R qs k a b h q e f f') (more p ts) =
    let sc : ScopedTheory T = scoped T so in
    let w : Trees (Step T) (sequents M G (filled_premises (instance_of qs a) qs a)) × Trees (Step T) (sequents M G (equated_premises (instance_of qs a) qs a b)) = split (Step T) M G (filled_premises (instance_of qs a) qs a) (equated_premises (instance_of qs a) qs a b) ts in
    let u : (IsObject k ⊎ IsEquation k) × Prim T qs [] k = boundary_after (λ M x. Prim T M [] x) R qs k (so r R q) e in
    let ee : EqualStatements T M G (statement_at (instance_of qs a) k) (statement_at (instance_of qs b) k) = Rattle.ft_laws.proofs.Instances.equal_instances T sc qs [] M G (instance_of qs a) (instance_of qs b) k (whole_pair T sc qs M G qs a b (λ m b r. r) f f' w.0 w.1) u.1 in
    move_head T sc M G (statement_at (instance_of qs b) k) (statement_at (instance_of qs a) k) h (domain_count-map k (λ l. act free (instance_of qs a)) zero ∙ sym (domain_count-map k (λ l. act free (instance_of qs b)) zero)) (kinds k a b qs u.0) (symmetric_equal T sc M (domain_count (statement_at (instance_of qs a) k)) G (statement_at (instance_of qs a) k) (statement_at (instance_of qs b) k) refl ee) p
  where
    kinds : (k : Statement) (a b : Arguments) (qs : List (ℕ × Statement)) → IsObject k ⊎ IsEquation k → (IsObject (statement_at (instance_of qs b) k) × IsObject (statement_at (instance_of qs a) k)) ⊎ (IsEquation (statement_at (instance_of qs b) k) × IsEquation (statement_at (instance_of qs a) k))
    kinds k a b qs (inl o) = inl (object-map k (λ l. act free (instance_of qs b)) zero o, object-map k (λ l. act free (instance_of qs a)) zero o)
    kinds k a b qs (inr o) = inr (equation-map k (λ l. act free (instance_of qs b)) zero o, equation-map k (λ l. act free (instance_of qs a)) zero o)
admissible T so n ps c (metavariable_at_equal_terms {M} {G} m b a k q gl o d d') (more p ts) =
    let sc : ScopedTheory T = scoped T so in
    let e : EqualStatements T M G b b = itself T sc M G b p in
    reify_flat T M G (at b a) (at b k) (meta m a) (meta m k) (domain_count-at a b d) (object-at a b o) (object-at k b o)
    (staying T sc M G m b a k q gl o d d' p e (left_term_typings T sc M G a k b (d ∙ sym d') ts) (right_term_typings T sc M G a k b b d d' e ts) ts)
admissible T so n ps c (argument_in_type {M} {G} r R a x q m) (more p none) =
    let h : OfType T M G (symbol r a) = origin T (scoped T so) (sequent M G (plain (is_type (symbol r a)))) p in
    pick (Step T) M G x (filled_premises (instance_of R.premises a) R.premises a) m (subst (λ S. Trees (Step T) (sequents M G (filled_premises (instance_of S.premises a) S.premises a))) (unique T r h.0 R h.1 q) h.2)
admissible T so n ps c (argument_in_term {M} {G} r R a A x q m) (more p none) =
    let h : OfTerm T M G (symbol r a) A = origin T (scoped T so) (sequent M G (plain (has_type (symbol r a) A))) p in
    pick (Step T) M G x (filled_premises (instance_of R.premises a) R.premises a) m (subst (λ S. Trees (Step T) (sequents M G (filled_premises (instance_of S.premises a) S.premises a))) (unique T r h.0 R h.1 q) h.2)
admissible T so n ps c (term_in_type {M} {G} m b a x q i) (more p none) =
    let h : OfType T M G (meta m a) = origin T (scoped T so) (sequent M G (plain (is_type (meta m a)))) p in
    pick (Step T) M G x (term_typings b a) i (subst (λ z. Trees (Step T) (sequents M G (term_typings z a))) (same_Some h.0 b (sym h.1 ∙ q)) h.2)
admissible T so n ps c (term_in_term {M} {G} m b a A x q i) (more p none) =
    let h : OfTerm T M G (meta m a) A = origin T (scoped T so) (sequent M G (plain (has_type (meta m a) A))) p in
    pick (Step T) M G x (term_typings b a) i (subst (λ z. Trees (Step T) (sequents M G (term_typings z a))) (same_Some h.0 b (sym h.1 ∙ q)) h.2)
admissible T so n ps c (natural_variable {M} {G} v N A q) (more p none) =
    let h : OfTerm T M G (free v) A = origin T (scoped T so) (sequent M G (plain (has_type (free v) A))) p in
    subst (λ z. Prim T M G (plain (equal_types z A))) (same_Some h.0 N (sym h.1 ∙ q)) h.2
admissible T so n ps c (natural_symbol {M} {G} r R a N A q e) (more p none) =
    let h : OfTerm T M G (symbol r a) A = origin T (scoped T so) (sequent M G (plain (has_type (symbol r a) A))) p in
    subst (λ z. Prim T M G (plain (equal_types z A))) (type_in (h.3) N (sym h.4 ∙ ap (λ S. conclusion_at S a) (unique T r h.0 R h.1 q) ∙ e)) h.5
  where
    type_in : (N K : Expression) → term_goal N ≡ term_goal K → N ≡ K
    type_in N K e = ap get e
      where
        get : Claim → Expression
        get (term_goal A) = A
        get type_goal = bound zero
        get (is_type A) = A
        get (has_type t A) = A
        get (equal_types A B) = A
        get (equal_terms s t A) = A
        get (type_equation_goal A B) = A
        get (term_equation_goal s t A) = A
admissible T so n ps c (natural_metavariable {M} {G} m b a N A q e) (more p none) =
    let h : OfTerm T M G (meta m a) A = origin T (scoped T so) (sequent M G (plain (has_type (meta m a) A))) p in
    subst (λ z. Prim T M G (plain (equal_types z A))) (ap get (sym h.4 ∙ ap (λ z. at z a) (same_Some h.0 b (sym h.1 ∙ q)) ∙ e)) h.5
  where
    type_of_claim : Claim → Expression
    type_of_claim (term_goal A) = A
    type_of_claim type_goal = bound zero
    type_of_claim (is_type A) = A
    type_of_claim (has_type t A) = A
    type_of_claim (equal_types A B) = A
    type_of_claim (equal_terms s t A) = A
    type_of_claim (type_equation_goal A B) = A
    type_of_claim (term_equation_goal s t A) = A

    get : Statement → Expression
    get (plain c) = type_of_claim c
    get (abstracted A x) = A

-- all levels over a theory whose boundaries are primitively derived
pub all_levels : (T : List Rule) → Sound T → (k : ℕ) (c : Sequent) → Tree (StepUpTo k T) c → Tree (Step T) c
all_levels T so k = induct (StepUpTo k T) (λ c. Tree (Step T) c) step
  where
    trees : (ps : List Sequent) → AllOf (λ c. Tree (Step T) c) ps → Trees (Step T) ps
    trees [] h = none
    trees (p ∷ ps) h = more h.0 (trees ps h.1)

    step : (ps : List Sequent) (c : Sequent) → StepUpTo k T ps c → Trees (StepUpTo k T) ps → AllOf (λ c. Tree (Step T) c) ps → Tree (Step T) c
    step ps c (inl s) ts h = node ps s (trees ps h)
    step ps c (inr w) ts h = admissible T so w.0 ps c w.2 (trees ps h)

-- a finitary theory is such a theory, rule by rule
holds_map : (D E : List (ℕ × Statement) → Statement → Type 0) → ((M : List (ℕ × Statement)) (x : Statement) → D M x → E M x) → (M ps : List (ℕ × Statement)) → PremisesHold D M ps → PremisesHold E M ps
holds_map D E w M [] h = tt
holds_map D E w M (p ∷ ps) h = (h.0, h.1, w M p.1 h.2, holds_map D E w (M ++ (p ∷ [])) ps h.3)

pub rule_before : (T U : List Rule) (r : ℕ) (R : Rule) → rule_at T r ≡ Some R → rule_at (T ++ U) r ≡ Some R
rule_before [] U r R q = none_some q
rule_before (S ∷ T) U zero R q = q
rule_before (S ∷ T) U (suc r) R q = rule_before T U r R q

rule_last : (T : List Rule) (S : Rule) (r : ℕ) (R : Rule) → rule_at (T ++ (S ∷ [])) r ≡ Some R → (rule_at T r ≡ Some R) ⊎ (S ≡ R)
rule_last [] S zero R q = inr (same_Some S R q)
rule_last [] S (suc r) R q = none_some q
rule_last (Q ∷ T) S zero R q = inl q
rule_last (Q ∷ T) S (suc r) R q = rule_last T S r R q

-- a rule that is well formed by derivations of one level is so by derivations of another
rule_holds_map : (D E : List (ℕ × Statement) → Statement → Type 0) → ((M : List (ℕ × Statement)) (x : Statement) → D M x → E M x) → (R : Rule) → RuleHolds D R → RuleHolds E R
rule_holds_map D E w R h = (holds_map D E w [] R.premises h.0, h.1, w R.premises (plain R.conclusion) h.2)

-- what is derived over a theory is so over the theory with one more rule
one_more : (T : List Rule) (S : Rule) (M : List (ℕ × Statement)) (x : Statement) → Prim T M [] x → Prim (T ++ (S ∷ [])) M [] x
one_more T S M x p = more_rules T (T ++ (S ∷ [])) (λ r R q. rule_before T (S ∷ []) r R q) (sequent M [] x) p

-- a theory whose boundaries are primitively derived stays so with a rule that is well formed over it
sound_longer : (T : List Rule) (S : Rule) → Sound T → RuleHolds (λ M x. Prim T M [] x) S → Sound (T ++ (S ∷ []))
sound_longer T S so h r R q = of_rule (rule_last T S r R q)
  where
    of_rule : (rule_at T r ≡ Some R) ⊎ (S ≡ R) → RuleHolds (λ M x. Prim (T ++ (S ∷ [])) M [] x) R
    of_rule (inl q) = rule_holds_map (λ M x. Prim T M [] x) (λ M x. Prim (T ++ (S ∷ [])) M [] x) (one_more T S) R (so r R q)
    of_rule (inr e) = subst (RuleHolds (λ M x. Prim (T ++ (S ∷ [])) M [] x)) e (rule_holds_map (λ M x. Prim T M [] x) (λ M x. Prim (T ++ (S ∷ [])) M [] x) (one_more T S) S h)

rule_is_primitive : (k : ℕ) (T : List Rule) → Sound T → (R : Rule) → RuleHolds (λ M x. DerUpTo k T M [] x) R → RuleHolds (λ M x. Prim T M [] x) R
rule_is_primitive k T so R h = rule_holds_map (λ M x. DerUpTo k T M [] x) (λ M x. Prim T M [] x) (λ M x p. all_levels T so k (sequent M [] x) p) R h

sound_after : (k : ℕ) (T Rs : List Rule) → Sound T → FinitaryAfter (λ T M x. DerUpTo k T M [] x) T Rs → Sound (T ++ Rs)
sound_after k T [] so f = subst Sound (sym (append-nil T)) so
sound_after k T (S ∷ Rs) so f = subst Sound (append_assoc T (S ∷ []) Rs) (sound_after k (T ++ (S ∷ [])) Rs (sound_longer T S so (rule_is_primitive k T so S f.0)) f.1)

pub finitary_sound : (k : ℕ) (T : List Rule) → FinitaryUpTo k T → Sound T
finitary_sound k T f = sound_after k [] T (λ r R q. none_some q) f

-- primitive steps are steps of every level
pub at_level : (k : ℕ) (T : List Rule) (c : Sequent) → Tree (Step T) c → Tree (StepUpTo k T) c
at_level k T = induct (Step T) (λ c. Tree (StepUpTo k T) c) (λ ps c s ts h. node ps (inl s) (trees ps h))
  where
    trees : (ps : List Sequent) → AllOf (λ c. Tree (StepUpTo k T) c) ps → Trees (StepUpTo k T) ps
    trees [] h = none
    trees (p ∷ ps) h = more h.0 (trees ps h.1)

-- The theorem: for each level k, over each theory that is finitary at level k, and for all maps and statements.
pub law : (k : ℕ) (T : List Rule) → FinitaryUpTo k T → (M : List (ℕ × Statement)) (G : List (ℕ × Expression)) (x : Statement) → DerUpTo k T M G x ↔ Prim T M G x
law k T f M G x = (all_levels T (finitary_sound k T f) k (sequent M G x), at_level k T (sequent M G x))

-- In a finitary theory each kind is admissible.
pub kind_is_admissible : (k : ℕ) → KindIsAdmissible k
kind_is_admissible k T f ps c w h = admissible T (finitary_sound 7 T f) k ps c w (trees ps h)
  where
    trees : (ps : List Sequent) → Each (IsPrimitive T) ps → Trees (Step T) ps
    trees [] h = none
    trees (p ∷ ps) h = more h.0 (trees ps h.1)

-- finitary at one level is finitary at each
finitary_after_levels : (k l : ℕ) (T Rs : List Rule) → Sound T → FinitaryAfter (λ T M x. DerUpTo k T M [] x) T Rs → FinitaryAfter (λ T M x. DerUpTo l T M [] x) T Rs
finitary_after_levels k l T [] so f = tt
finitary_after_levels k l T (S ∷ Rs) so f =
    let h : RuleHolds (λ M x. Prim T M [] x) S = rule_is_primitive k T so S f.0 in (
      rule_holds_map (λ M x. Prim T M [] x) (λ M x. DerUpTo l T M [] x) (λ M x p. at_level l T (sequent M [] x) p) S h,
      finitary_after_levels k l (T ++ (S ∷ [])) Rs (sound_longer T S so h) f.1,
    )

pub finitary_levels : (k l : ℕ) (T : List Rule) → FinitaryUpTo k T → FinitaryUpTo l T
finitary_levels k l T f = finitary_after_levels k l [] T (λ r R q. none_some q) f
