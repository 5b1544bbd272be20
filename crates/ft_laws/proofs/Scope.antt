-- What is derivable is closed and mentions only what its maps have.
use Rattle.std.proofs.Common.{◌≡◌, ◌≢◌, ℕ, zero, suc, ◌+◌, Option, Some, List, [], ◌∷◌, sym, ◌∙◌, subst, arith}
use Rattle.ft_common.proofs.Choices.{if_other}
use Rattle.ft_theory.specs.Expressions.{Expression, bound, free, symbol, meta, Arguments, no_arguments, with_body, dummy, Terms, no_terms, also, count, act, ClosedAt, ClosedArguments, ClosedTerms, MentionsOnly, ArgumentsMentionOnly, TermsMentionOnly, open_at, close_at}
use Rattle.ft_theory.specs.Statements.{Claim, is_type, has_type, equal_types, equal_terms, type_goal, term_goal, type_equation_goal, term_equation_goal, Statement, plain, abstracted, AllOfClaim, AllOfStatement, act_statement, close_statement, opened, domain_count, at, fill_goal, fill, equate_goal, equate, IsObjectGoal, IsEquationGoal, IsObject, IsEquation}
use Rattle.ft_theory.specs.Rules.{look_up, Rule, instance_of, FitsPremises, filled_premises, term_typings, conclusion_at}
use Rattle.ft_theory.specs.Steps.{Sequent, sequents, Step, variable, metavariable, metavariable_equation, metavariable_congruence, abstraction, reflexive_type, reflexive_term, symmetric_types, symmetric_terms, transitive_types, transitive_terms, convert_term, convert_equation, for_type, for_term, for_types, for_terms, symbol_rule, equation_rule, congruence, Tree, Prim}
use Rattle.ft_laws.proofs.Induction.{AllOf, induct}
use Rattle.ft_laws.proofs.Opens.{Closed-open, Closed-close, MentionsOnly-open, MentionsOnly-close}
use Rattle.ft_laws.proofs.Statements.{AllOfStatement-map, AllOfStatement_shift, AllOfStatement_unshift, domain_count-map, domain_count-opened, equation-opened, equation_goal-map, object-map, object-opened, object_goal-map}

-- the map has a type for the variable
abbrev pub InVariables : List (ℕ × Expression) → ℕ → Type 0
InVariables G v = (A : Expression) × (look_up G v ≡ Some A)

-- the metavariable has an object boundary with that many domains
abbrev pub InMetavariables : List (ℕ × Statement) → ℕ → ℕ → Type 0
InMetavariables M m k = (b : Statement) × (look_up M m ≡ Some b) × IsObject b × (k ≡ domain_count b)

-- The expression is closed but for k bound variables, and mentions only what the maps have. The same for lists of terms and of
-- arguments, and for statements.
abbrev pub Fine : List (ℕ × Statement) → List (ℕ × Expression) → ℕ → Expression → Type 0
Fine M G k e = ClosedAt k e × MentionsOnly (InVariables G) (InMetavariables M) e

abbrev pub FineTerms : List (ℕ × Statement) → List (ℕ × Expression) → Terms → Type 0
FineTerms M G a = ClosedTerms zero a × TermsMentionOnly (InVariables G) (InMetavariables M) a

abbrev pub FineArguments : List (ℕ × Statement) → List (ℕ × Expression) → Arguments → Type 0
FineArguments M G a = ClosedArguments zero a × ArgumentsMentionOnly (InVariables G) (InMetavariables M) a

abbrev pub FineStatement : List (ℕ × Statement) → List (ℕ × Expression) → Statement → Type 0
FineStatement M G x = AllOfStatement (Fine M G) zero x

-- What holds of a boundary's expressions and of a head holds of the boundary filled with it, and back.
pub AllOfClaim-fill : (c : Claim) (P : Expression → Type 0) (h : Expression) → AllOfClaim P c → P h → AllOfClaim P (fill_goal c h)
AllOfClaim-fill (is_type A) P h a p = a
AllOfClaim-fill (has_type t A) P h a p = a
AllOfClaim-fill (equal_types A B) P h a p = a
AllOfClaim-fill (equal_terms s t A) P h a p = a
AllOfClaim-fill type_goal P h a p = p
AllOfClaim-fill (term_goal A) P h a p = (p, a)
AllOfClaim-fill (type_equation_goal A B) P h a p = a
AllOfClaim-fill (term_equation_goal s t A) P h a p = a

pub AllOfStatement-fill : (x : Statement) (P : ℕ → Expression → Type 0) (k : ℕ) (h : Expression) → AllOfStatement P k x → P (domain_count x + k) h → AllOfStatement P k (fill x h)
AllOfStatement-fill (plain c) P k h a p = AllOfClaim-fill c (P k) h a (subst (λ l. P l h) (omega arith) p)
AllOfStatement-fill (abstracted A x) P k h a p = (a.0, AllOfStatement-fill x P (suc k) h a.1 (subst (λ l. P l h) (omega arith) p))

pub AllOfClaim_head : (c : Claim) (P : Expression → Type 0) (h : Expression) → IsObjectGoal c → AllOfClaim P (fill_goal c h) → P h
AllOfClaim_head (is_type A) P h o a = absurd o
AllOfClaim_head (has_type t A) P h o a = absurd o
AllOfClaim_head (equal_types A B) P h o a = absurd o
AllOfClaim_head (equal_terms s t A) P h o a = absurd o
AllOfClaim_head type_goal P h o a = a
AllOfClaim_head (term_goal A) P h o a = a.0
AllOfClaim_head (type_equation_goal A B) P h o a = absurd o
AllOfClaim_head (term_equation_goal s t A) P h o a = absurd o

pub AllOfStatement_head : (x : Statement) (P : ℕ → Expression → Type 0) (k : ℕ) (h : Expression) → IsObject x → AllOfStatement P k (fill x h) → P (domain_count x + k) h
AllOfStatement_head (plain c) P k h o a = subst (λ l. P l h) (omega arith) (AllOfClaim_head c (P k) h o a)
AllOfStatement_head (abstracted A x) P k h o a = subst (λ l. P l h) (omega arith) (AllOfStatement_head x P (suc k) h o a.1)

pub AllOfClaim-equate : (c : Claim) (P : Expression → Type 0) (h j : Expression) → IsObjectGoal c → AllOfClaim P (fill_goal c h) → AllOfClaim P (fill_goal c j) → AllOfClaim P (equate_goal c h j)
AllOfClaim-equate (is_type A) P h j o a b = absurd o
AllOfClaim-equate (has_type t A) P h j o a b = absurd o
AllOfClaim-equate (equal_types A B) P h j o a b = absurd o
AllOfClaim-equate (equal_terms s t A) P h j o a b = absurd o
AllOfClaim-equate type_goal P h j o a b = (a, b)
AllOfClaim-equate (term_goal A) P h j o a b = (a.0, b.0, a.1)
AllOfClaim-equate (type_equation_goal A B) P h j o a b = absurd o
AllOfClaim-equate (term_equation_goal s t A) P h j o a b = absurd o

pub AllOfStatement-equate : (x : Statement) (P : ℕ → Expression → Type 0) (k : ℕ) (h j : Expression) → IsObject x → AllOfStatement P k (fill x h) → AllOfStatement P k (fill x j) → AllOfStatement P k (equate x h j)
AllOfStatement-equate (plain c) P k h j o a b = AllOfClaim-equate c (P k) h j o a b
AllOfStatement-equate (abstracted A x) P k h j o a b = (a.0, AllOfStatement-equate x P (suc k) h j o a.1 b.1)

pub AllOfClaim-equation : (c : Claim) (P : Expression → Type 0) (h : Expression) → IsEquationGoal c → AllOfClaim P c → AllOfClaim P (fill_goal c h)
AllOfClaim-equation (is_type A) P h o a = absurd o
AllOfClaim-equation (has_type t A) P h o a = absurd o
AllOfClaim-equation (equal_types A B) P h o a = absurd o
AllOfClaim-equation (equal_terms s t A) P h o a = absurd o
AllOfClaim-equation type_goal P h o a = absurd o
AllOfClaim-equation (term_goal A) P h o a = absurd o
AllOfClaim-equation (type_equation_goal A B) P h o a = a
AllOfClaim-equation (term_equation_goal s t A) P h o a = a

pub AllOfStatement-equation : (x : Statement) (P : ℕ → Expression → Type 0) (k : ℕ) (h : Expression) → IsEquation x → AllOfStatement P k x → AllOfStatement P k (fill x h)
AllOfStatement-equation (plain c) P k h o a = AllOfClaim-equation c (P k) h o a
AllOfStatement-equation (abstracted A x) P k h o a = (a.0, AllOfStatement-equation x P (suc k) h o a.1)

-- under opening, closing and terms at domains
pub InVars_add : (G : List (ℕ × Expression)) (v u : ℕ) (A : Expression) → u ≢ v → InVariables ((v, A) ∷ G) u → InVariables G u
InVars_add G v u A n h = (h.0, sym (if_other u v (Some A) (look_up G u) n) ∙ h.1)

pub Fine-open : (M : List (ℕ × Statement)) (G : List (ℕ × Expression)) (k : ℕ) (t e : Expression) → Fine M G (suc k) e → Fine M G zero t → Fine M G k (open_at k t e)
Fine-open M G k t e f h = (Closed-open e k t f.0 h.0, MentionsOnly-open e (InVariables G) (InMetavariables M) k t f.1 h.1)

pub Fine-opened : (M : List (ℕ × Statement)) (G : List (ℕ × Expression)) (x : Statement) (t : Expression) → FineStatement M G x → Fine M G zero t → FineStatement M G (opened t x)
Fine-opened M G (plain c) t f h = f
Fine-opened M G (abstracted A x) t f h = AllOfStatement-map x (λ l. open_at l t) (λ l. Fine M G (suc l)) (Fine M G) zero (λ l e p. Fine-open M G l t e p h) (AllOfStatement_shift x (Fine M G) zero f.1)

pub Fine-at : (M : List (ℕ × Statement)) (G : List (ℕ × Expression)) (a : Terms) (x : Statement) → FineStatement M G x → FineTerms M G a → FineStatement M G (at x a)
Fine-at M G no_terms x f h = f
Fine-at M G (also t a) x f h = Fine-at M G a (opened t x) (Fine-opened M G x t f (h.0.0, h.1.0)) (h.0.1, h.1.1)

pub Fine-close : (M : List (ℕ × Statement)) (G : List (ℕ × Expression)) (v : ℕ) (A : Expression) (x : Statement) → FineStatement M ((v, A) ∷ G) x → AllOfStatement (Fine M G) (suc zero) (close_statement v x)
Fine-close M G v A x f = AllOfStatement_unshift (close_statement v x) (Fine M G) zero
    (AllOfStatement-map x (λ l. close_at l v) (Fine M ((v, A) ∷ G)) (λ l. Fine M G (suc l)) zero
    (λ l e p. (Closed-close e l v p.0, MentionsOnly-close e (InVariables ((v, A) ∷ G)) (InVariables G) (InMetavariables M) l v (λ u n h. InVars_add G v u A n h) p.1)) f)

pub Fine-term_typings : (M : List (ℕ × Statement)) (G : List (ℕ × Expression)) (a : Terms) (x : Statement) → AllOf (λ c. FineStatement c.metavariables c.variables c.statement) (sequents M G (term_typings x a)) → FineTerms M G a
Fine-term_typings M G no_terms x h = (tt, tt)
Fine-term_typings M G (also t a) x h =
    let rest : FineTerms M G a = Fine-term_typings M G a (opened t x) h.1 in
    ((h.0.0.0, rest.0), (h.0.0.1, rest.1))

pub domain_count-at : (a : Terms) (x : Statement) → count a ≡ domain_count x → domain_count (at x a) ≡ zero
unfolding count
domain_count-at no_terms x e = sym e
domain_count-at (also t a) x e = domain_count-at a (opened t x) (sym (domain_count-opened x t (count a) (sym e)))

pub object-at : (a : Terms) (x : Statement) → IsObject x → IsObject (at x a)
object-at no_terms x o = o
object-at (also t a) x o = object-at a (opened t x) (object-opened x t o)

pub equation-at : (a : Terms) (x : Statement) → IsEquation x → IsEquation (at x a)
equation-at no_terms x o = o
equation-at (also t a) x o = equation-at a (opened t x) (equation-opened x t o)

pub Fine-filled_premises : (M : List (ℕ × Statement)) (G : List (ℕ × Expression)) (i : ℕ → ℕ → Option Expression) (ps : List (ℕ × Statement)) (a : Arguments) → FitsPremises ps a → AllOf (λ c. FineStatement c.metavariables c.variables c.statement) (sequents M G (filled_premises i ps a)) → FineArguments M G a
Fine-filled_premises M G i [] no_arguments f h = (tt, tt)
Fine-filled_premises M G i [] (with_body n e a) f h = absurd f
Fine-filled_premises M G i [] (dummy n a) f h = absurd f
Fine-filled_premises M G i (p ∷ ps) no_arguments f h = absurd f
Fine-filled_premises M G i (p ∷ ps) (with_body n e a) f h =
    let rest : FineArguments M G a = Fine-filled_premises M G i ps a f.2 h.1 in
    let q : Fine M G (domain_count (act_statement free i p.1) + zero) e = AllOfStatement_head (act_statement free i p.1) (Fine M G) zero e (object-map p.1 (λ l. act free i) zero f.1) h.0 in
    let d : domain_count (act_statement free i p.1) ≡ n = domain_count-map p.1 (λ l. act free i) zero ∙ sym f.0 in
    ((subst (λ l. ClosedAt (l + zero) e) d q.0, rest.0), (q.1, rest.1))
Fine-filled_premises M G i (p ∷ ps) (dummy n a) f h = Fine-filled_premises M G i ps a f.2 h.1

-- what is derivable is closed and mentions only what its maps have, over any theory
pub scope : (T : List Rule) (c : Sequent) → Tree (Step T) c → FineStatement c.metavariables c.variables c.statement
scope T = induct (Step T) (λ c. FineStatement c.metavariables c.variables c.statement) (λ ps c s ts h. step ps c s h)
  where
    step : (ps : List Sequent) (c : Sequent) → Step T ps c → AllOf (λ c. FineStatement c.metavariables c.variables c.statement) ps → FineStatement c.metavariables c.variables c.statement
    step ps c (variable v A q) h = ((tt, (A, q)), h.0)
    step ps c (metavariable {M} {G} m b a q g o e) h =
        let ft : FineTerms M G a = Fine-term_typings M G a b h.1 in
        AllOfStatement-fill (at b a) (Fine M G) zero (meta m a) (Fine-at M G a b h.0 ft)
        (subst (λ l. Fine M G (l + zero) (meta m a)) (sym (domain_count-at a b e)) (ft.0, ((b, q, o, e), ft.1)))
    step ps c (metavariable_equation {M} {G} m b a q g o e) h =
        AllOfStatement-equation (at b a) (Fine M G) zero (bound zero) (equation-at a b o) (Fine-at M G a b h.0 (Fine-term_typings M G a b h.1))
    step ps c (metavariable_congruence {M} {G} m b a k q g o e e') h = AllOfStatement-equate (at b a) (Fine M G) zero (meta m a) (meta m k) (object-at a b o) h.0 h.1.0
    step ps c (abstraction {M} {G} v A x n u) h = (h.0, Fine-close M G v A x h.1.0)
    step ps c (reflexive_type A) h = (h.0, h.0)
    step ps c (reflexive_term t A) h = (h.0.0, h.0.0, h.0.1)
    step ps c (symmetric_types A B) h = (h.0.1, h.0.0)
    step ps c (symmetric_terms s t A) h = (h.0.1, h.0.0, h.0.2)
    step ps c (transitive_types A B C) h = (h.0.0, h.1.0.1)
    step ps c (transitive_terms s t u A) h = (h.0.0, h.1.0.1, h.0.2)
    step ps c (convert_term t A B) h = (h.0.0, h.1.0.1)
    step ps c (convert_equation s t A B) h = (h.0.0, h.0.1, h.1.0.1)
    step ps c for_type h = tt
    step ps c (for_term A) h = h.0
    step ps c (for_types A B) h = (h.0, h.1.0)
    step ps c (for_terms s t A) h = (h.1.0.0, h.1.1.0.0, h.0)
    step ps c (symbol_rule {M} {G} r R a q f o) h =
        AllOfClaim-fill (conclusion_at R a) (Fine M G zero) (symbol r a) h.0 (Fine-filled_premises M G (instance_of R.premises a) R.premises a f h.1)
    step ps c (equation_rule {M} {G} r R a q f o) h =
        AllOfClaim-equation (conclusion_at R a) (Fine M G zero) (bound zero) (equation_goal-map R.conclusion (act free (instance_of R.premises a)) o) h.0
    step ps c (congruence {M} {G} r R a b q f f' o) h = AllOfClaim-equate (conclusion_at R a) (Fine M G zero) (symbol r a) (symbol r b) (object_goal-map R.conclusion (act free (instance_of R.premises a)) o) h.0 h.1.0
