-- The boundary of what is derivable is derivable, and so are the sides and the type of a derivable boundary.
use Rattle.std.proofs.Common.{◌≡◌, ℕ, zero, suc, List, [], ◌∷◌, ◌⊎◌, inl, inr, refl, sym, ap, subst, arith}
use Rattle.ft_theory.specs.Expressions.{Expression, bound, free, symbol, meta, act, close_at}
use Rattle.ft_theory.specs.Statements.{Claim, is_type, has_type, equal_types, equal_terms, type_goal, term_goal, type_equation_goal, term_equation_goal, Statement, plain, abstracted, map_claim, map_statement, domain_count, at, fill_goal, fill, equate_goal, equate, IsObjectGoal, IsEquationGoal, IsObject, IsEquation, boundary_of_claim, boundary_of}
use Rattle.ft_theory.specs.Rules.{Rule, instance_of, conclusion_at}
use Rattle.ft_theory.specs.Steps.{Sequent, sequent, Step, variable, metavariable, metavariable_equation, metavariable_congruence, abstraction, reflexive_type, reflexive_term, symmetric_types, symmetric_terms, transitive_types, transitive_terms, convert_term, convert_equation, for_type, for_term, for_types, for_terms, symbol_rule, equation_rule, congruence, Tree, Trees, node, none, more, Prim}
use Rattle.ft_laws.proofs.Induction.{AllOf, induct}
use Rattle.ft_laws.proofs.Steps.{do_convert_term, do_for_type, do_for_term, do_for_types, do_for_terms}
use Rattle.ft_laws.proofs.Scope.{object-at, equation-at, domain_count-at}
use Rattle.ft_laws.proofs.Statements.{object_goal-map, equation_goal-map}
use Rattle.ft_laws.proofs.Commute.{ScopedTheory}
use Rattle.ft_laws.proofs.Substitute.{substitute_all}

-- the parts of a plain boundary
abbrev pub PartsOfClaim : List Rule → List (ℕ × Statement) → List (ℕ × Expression) → Claim → Type 0
PartsOfClaim T M G (is_type A) = Unit {0}
PartsOfClaim T M G (has_type t A) = Unit {0}
PartsOfClaim T M G (equal_types A B) = Unit {0}
PartsOfClaim T M G (equal_terms s t A) = Unit {0}
PartsOfClaim T M G type_goal = Unit {0}
PartsOfClaim T M G (term_goal A) = Prim T M G (plain (is_type A))
PartsOfClaim T M G (type_equation_goal A B) = Prim T M G (plain (is_type A)) × Prim T M G (plain (is_type B))
PartsOfClaim T M G (term_equation_goal s t A) = Prim T M G (plain (is_type A)) × Prim T M G (plain (has_type s A)) × Prim T M G (plain (has_type t A))

abbrev pub Parts : List Rule → List (ℕ × Statement) → List (ℕ × Expression) → Statement → Type 0
Parts T M G (plain c) = PartsOfClaim T M G c
Parts T M G (abstracted A x) = Unit {0}

parts_fill_goal : (T : List Rule) (M : List (ℕ × Statement)) (G : List (ℕ × Expression)) (c : Claim) (h : Expression) → PartsOfClaim T M G (fill_goal c h)
parts_fill_goal T M G (is_type A) h = tt
parts_fill_goal T M G (has_type t A) h = tt
parts_fill_goal T M G (equal_types A B) h = tt
parts_fill_goal T M G (equal_terms s t A) h = tt
parts_fill_goal T M G type_goal h = tt
parts_fill_goal T M G (term_goal A) h = tt
parts_fill_goal T M G (type_equation_goal A B) h = tt
parts_fill_goal T M G (term_equation_goal s t A) h = tt

parts_fill : (T : List Rule) (M : List (ℕ × Statement)) (G : List (ℕ × Expression)) (x : Statement) (h : Expression) → Parts T M G (fill x h)
parts_fill T M G (plain c) h = parts_fill_goal T M G c h
parts_fill T M G (abstracted A x) h = tt

parts_equate_goal : (T : List Rule) (M : List (ℕ × Statement)) (G : List (ℕ × Expression)) (c : Claim) (h j : Expression) → IsObjectGoal c → PartsOfClaim T M G (equate_goal c h j)
parts_equate_goal T M G (is_type A) h j o = tt
parts_equate_goal T M G (has_type t A) h j o = tt
parts_equate_goal T M G (equal_types A B) h j o = tt
parts_equate_goal T M G (equal_terms s t A) h j o = tt
parts_equate_goal T M G type_goal h j o = tt
parts_equate_goal T M G (term_goal A) h j o = tt
parts_equate_goal T M G (type_equation_goal A B) h j o = absurd o
parts_equate_goal T M G (term_equation_goal s t A) h j o = absurd o

parts_equate : (T : List Rule) (M : List (ℕ × Statement)) (G : List (ℕ × Expression)) (x : Statement) (h j : Expression) → IsObject x → Parts T M G (equate x h j)
parts_equate T M G (plain c) h j o = parts_equate_goal T M G c h j o
parts_equate T M G (abstracted A x) h j o = tt

pub parts : (T : List Rule) (c : Sequent) → Tree (Step T) c → Parts T c.metavariables c.variables c.statement
parts T c (node ps s ts) = last_step ps c s ts
  where
    last_step : (ps : List Sequent) (c : Sequent) → Step T ps c → Trees (Step T) ps → Parts T c.metavariables c.variables c.statement
    last_step ps c (variable v B q) ts = tt
    last_step ps c (metavariable {M} {G} m b a q g o d) ts = parts_fill T M G (at b a) (meta m a)
    last_step ps c (metavariable_equation {M} {G} m b a q g o d) ts = parts_fill T M G (at b a) (bound zero)
    last_step ps c (metavariable_congruence {M} {G} m b a k q g o d d') ts = parts_equate T M G (at b a) (meta m a) (meta m k) (object-at a b o)
    last_step ps c (abstraction {M} {G} v B x n u) ts = tt
    last_step ps c (reflexive_type B) ts = tt
    last_step ps c (reflexive_term t B) ts = tt
    last_step ps c (symmetric_types B C) ts = tt
    last_step ps c (symmetric_terms s t B) ts = tt
    last_step ps c (transitive_types B C D) ts = tt
    last_step ps c (transitive_terms s t u B) ts = tt
    last_step ps c (convert_term t B C) ts = tt
    last_step ps c (convert_equation s t B C) ts = tt
    last_step ps c for_type ts = tt
    last_step ps c (for_term B) (more t none) = t
    last_step ps c (for_types B C) (more t (more t' none)) = (t, t')
    last_step ps c (for_terms s t B) (more p (more p' (more p'' none))) = (p, p', p'')
    last_step ps c (symbol_rule {M} {G} r R a q f o) ts = parts_fill_goal T M G (conclusion_at R a) (symbol r a)
    last_step ps c (equation_rule {M} {G} r R a q f o) ts = parts_fill_goal T M G (conclusion_at R a) (bound zero)
    last_step ps c (congruence {M} {G} r R a b q f f' o) ts = parts_equate_goal T M G (conclusion_at R a) (symbol r a) (symbol r b) (object_goal-map R.conclusion (act free (instance_of R.premises a)) o)

boundary-map_claim : (c : Claim) (f : Expression → Expression) → boundary_of_claim (map_claim f c) ≡ map_claim f (boundary_of_claim c)
boundary-map_claim (is_type A) f = refl
boundary-map_claim (has_type t A) f = refl
boundary-map_claim (equal_types A B) f = refl
boundary-map_claim (equal_terms s t A) f = refl
boundary-map_claim type_goal f = refl
boundary-map_claim (term_goal A) f = refl
boundary-map_claim (type_equation_goal A B) f = refl
boundary-map_claim (term_equation_goal s t A) f = refl

pub boundary-map : (x : Statement) (f : ℕ → Expression → Expression) (k : ℕ) → boundary_of (map_statement f k x) ≡ map_statement f k (boundary_of x)
boundary-map (plain c) f k = ap plain (boundary-map_claim c (f k))
boundary-map (abstracted A x) f k = ap (abstracted (f k A)) (boundary-map x f (suc k))

boundary-fill_goal : (c : Claim) (h : Expression) → IsObjectGoal c ⊎ IsEquationGoal c → boundary_of_claim (fill_goal c h) ≡ c
boundary-fill_goal (is_type A) h (inl o) = absurd o
boundary-fill_goal (is_type A) h (inr o) = absurd o
boundary-fill_goal (has_type t A) h (inl o) = absurd o
boundary-fill_goal (has_type t A) h (inr o) = absurd o
boundary-fill_goal (equal_types A B) h (inl o) = absurd o
boundary-fill_goal (equal_types A B) h (inr o) = absurd o
boundary-fill_goal (equal_terms s t A) h (inl o) = absurd o
boundary-fill_goal (equal_terms s t A) h (inr o) = absurd o
boundary-fill_goal type_goal h o = refl
boundary-fill_goal (term_goal A) h o = refl
boundary-fill_goal (type_equation_goal A B) h o = refl
boundary-fill_goal (term_equation_goal s t A) h o = refl

pub boundary-fill : (x : Statement) (h : Expression) → IsObject x ⊎ IsEquation x → boundary_of (fill x h) ≡ x
boundary-fill (plain c) h o = ap plain (boundary-fill_goal c h o)
boundary-fill (abstracted A x) h o = ap (abstracted A) (boundary-fill x h o)

-- the boundary of the equation between two heads
both_sides : (T : List Rule) (M : List (ℕ × Statement)) (G : List (ℕ × Expression)) (c : Claim) (h j : Expression) → IsObjectGoal c → Prim T M G (plain (fill_goal c h)) → Prim T M G (plain (fill_goal c j)) → Prim T M G (plain (boundary_of_claim (fill_goal c h))) → Prim T M G (plain (boundary_of_claim (equate_goal c h j)))
both_sides T M G (is_type A) h j o p q r = absurd o
both_sides T M G (has_type t A) h j o p q r = absurd o
both_sides T M G (equal_types A B) h j o p q r = absurd o
both_sides T M G (equal_terms s t A) h j o p q r = absurd o
both_sides T M G type_goal h j o p q r = do_for_types p q
both_sides T M G (term_goal A) h j o p q r = do_for_terms (parts T (sequent M G (plain (term_goal A))) r) p q
both_sides T M G (type_equation_goal A B) h j o p q r = absurd o
both_sides T M G (term_equation_goal s t A) h j o p q r = absurd o

both_sides_statement : (T : List Rule) (M : List (ℕ × Statement)) (G : List (ℕ × Expression)) (x : Statement) (h j : Expression) → domain_count x ≡ zero → IsObject x → Prim T M G (fill x h) → Prim T M G (fill x j) → Prim T M G (boundary_of (fill x h)) → Prim T M G (boundary_of (equate x h j))
both_sides_statement T M G (plain c) h j d o p q r = both_sides T M G c h j o p q r
both_sides_statement T M G (abstracted A x) h j d o p q r = absurd (grind (arith, d))

pub boundary : (T : List Rule) → ScopedTheory T → (c : Sequent) → Tree (Step T) c → Prim T c.metavariables c.variables (boundary_of c.statement)
boundary T sc = induct (Step T) (λ c. Prim T c.metavariables c.variables (boundary_of c.statement)) step
  where
    step : (ps : List Sequent) (c : Sequent) → Step T ps c → Trees (Step T) ps → AllOf (λ c. Prim T c.metavariables c.variables (boundary_of c.statement)) ps → Prim T c.metavariables c.variables (boundary_of c.statement)
    step ps c (variable v A q) (more t none) h = do_for_term t
    step ps c (metavariable {M} {G} m b a q g o d) (more t ts) h =
        subst (λ z. Prim T M G z) (sym (boundary-fill (at b a) (meta m a) (inl (object-at a b o)))) (substitute_all T sc M G a b d t ts)
    step ps c (metavariable_equation {M} {G} m b a q g o d) (more t ts) h =
        subst (λ z. Prim T M G z) (sym (boundary-fill (at b a) (bound zero) (inr (equation-at a b o)))) (substitute_all T sc M G a b d t ts)
    step ps c (metavariable_congruence {M} {G} m b a k q g o d d') (more t (more t' ts)) h =
        both_sides_statement T M G (at b a) (meta m a) (meta m k) (domain_count-at a b d) (object-at a b o) t t' h.0
    step ps c (abstraction {M} {G} v A x n u) (more t (more t' none)) h =
        subst (λ z. Prim T M G (abstracted A z)) (sym (boundary-map x (λ l. close_at l v) zero))
        (node (sequent M G (plain (is_type A)) ∷ sequent M ((v, A) ∷ G) (boundary_of x) ∷ []) (abstraction v A (boundary_of x) n u) (more t (more h.1.0 none)))
    step ps c (reflexive_type A) (more t none) h = do_for_types t t
    step ps c (reflexive_term {M} {G} t A) (more p none) h = do_for_terms (parts T (sequent M G (plain (term_goal A))) h.0) p p
    step ps c (symmetric_types {M} {G} A B) ts h =
        let q : Prim T M G (plain (is_type A)) × Prim T M G (plain (is_type B)) = parts T (sequent M G (plain (type_equation_goal A B))) h.0 in
        do_for_types q.1 q.0
    step ps c (symmetric_terms {M} {G} s t A) ts h =
        let q : Prim T M G (plain (is_type A)) × Prim T M G (plain (has_type s A)) × Prim T M G (plain (has_type t A)) = parts T (sequent M G (plain (term_equation_goal s t A))) h.0 in
        do_for_terms q.0 q.2 q.1
    step ps c (transitive_types {M} {G} A B C) ts h =
        let q : Prim T M G (plain (is_type A)) × Prim T M G (plain (is_type B)) = parts T (sequent M G (plain (type_equation_goal A B))) h.0 in
        let r : Prim T M G (plain (is_type B)) × Prim T M G (plain (is_type C)) = parts T (sequent M G (plain (type_equation_goal B C))) h.1.0 in
        do_for_types q.0 r.1
    step ps c (transitive_terms {M} {G} s t u A) ts h =
        let q : Prim T M G (plain (is_type A)) × Prim T M G (plain (has_type s A)) × Prim T M G (plain (has_type t A)) = parts T (sequent M G (plain (term_equation_goal s t A))) h.0 in
        let r : Prim T M G (plain (is_type A)) × Prim T M G (plain (has_type t A)) × Prim T M G (plain (has_type u A)) = parts T (sequent M G (plain (term_equation_goal t u A))) h.1.0 in
        do_for_terms q.0 q.1 r.2
    step ps c (convert_term {M} {G} t A B) ts h =
        let r : Prim T M G (plain (is_type A)) × Prim T M G (plain (is_type B)) = parts T (sequent M G (plain (type_equation_goal A B))) h.1.0 in
        do_for_term r.1
    step ps c (convert_equation {M} {G} s t A B) (more p (more e none)) h =
        let q : Prim T M G (plain (is_type A)) × Prim T M G (plain (has_type s A)) × Prim T M G (plain (has_type t A)) = parts T (sequent M G (plain (term_equation_goal s t A))) h.0 in
        let r : Prim T M G (plain (is_type A)) × Prim T M G (plain (is_type B)) = parts T (sequent M G (plain (type_equation_goal A B))) h.1.0 in
        do_for_terms r.1 (do_convert_term q.1 e) (do_convert_term q.2 e)
    step ps c for_type ts h = do_for_type
    step ps c (for_term A) (more t none) h = do_for_term t
    step ps c (for_types A B) (more t (more t' none)) h = do_for_types t t'
    step ps c (for_terms s t A) (more p (more p' (more p'' none))) h = do_for_terms p p' p''
    step ps c (symbol_rule {M} {G} r R a q f o) (more t ts) h =
        subst (λ z. Prim T M G (plain z)) (sym (boundary-fill_goal (conclusion_at R a) (symbol r a) (inl (object_goal-map R.conclusion (act free (instance_of R.premises a)) o)))) t
    step ps c (equation_rule {M} {G} r R a q f o) (more t ts) h =
        subst (λ z. Prim T M G (plain z)) (sym (boundary-fill_goal (conclusion_at R a) (bound zero) (inr (equation_goal-map R.conclusion (act free (instance_of R.premises a)) o)))) t
    step ps c (congruence {M} {G} r R a b q f f' o) (more t (more t' ts)) h =
        both_sides T M G (conclusion_at R a) (symbol r a) (symbol r b) (object_goal-map R.conclusion (act free (instance_of R.premises a)) o) t t' h.0
