-- Inversion: how a type or a term was derived, and the type that it has by its last rule.
use Rattle.std.proofs.Common.{◌≡◌, ℕ, zero, Some, List, refl}
use Rattle.ft_theory.specs.Expressions.{Expression, bound, free, symbol, meta, Arguments, Terms, act}
use Rattle.ft_theory.specs.Statements.{Claim, is_type, has_type, equal_types, equal_terms, type_goal, term_goal, type_equation_goal, term_equation_goal, Statement, plain, abstracted, at, fill_goal, fill, equate_goal, equate, IsObjectGoal, IsEquationGoal, IsObject, IsEquation}
use Rattle.ft_theory.specs.Rules.{look_up, Rule, rule_at, instance_of, filled_premises, term_typings, conclusion_at}
use Rattle.ft_theory.specs.Steps.{Sequent, sequent, sequents, Step, variable, metavariable, metavariable_equation, metavariable_congruence, abstraction, reflexive_type, reflexive_term, symmetric_types, symmetric_terms, transitive_types, transitive_terms, convert_term, convert_equation, for_type, for_term, for_types, for_terms, symbol_rule, equation_rule, congruence, Tree, Trees, none, more, Prim}
use Rattle.ft_theory.specs.WideSteps.{Member, here, there}
use Rattle.ft_laws.proofs.Induction.{AllOf, induct}
use Rattle.ft_laws.proofs.Steps.{do_reflexive_type, do_transitive_types}
use Rattle.ft_laws.proofs.Scope.{object-at, equation-at}
use Rattle.ft_laws.proofs.Statements.{object_goal-map, equation_goal-map}
use Rattle.ft_laws.proofs.Commute.{ScopedTheory}
use Rattle.ft_laws.proofs.Substitute.{substitute_all}
use Rattle.ft_laws.proofs.Sides.{parts}

-- what the last rule of a derivation of a type, or of a term at a type, was
abbrev pub OfType : List Rule → List (ℕ × Statement) → List (ℕ × Expression) → Expression → Type 0
OfType T M G (bound i) = Unit {0}
OfType T M G (free v) = Unit {0}
OfType T M G (symbol r a) = (R : Rule) × (rule_at T r ≡ Some R) × Trees (Step T) (sequents M G (filled_premises (instance_of R.premises a) R.premises a)) × (conclusion_at R a ≡ type_goal)
OfType T M G (meta m a) = (b : Statement) × (look_up M m ≡ Some b) × Trees (Step T) (sequents M G (term_typings b a))

abbrev pub OfTerm : List Rule → List (ℕ × Statement) → List (ℕ × Expression) → Expression → Expression → Type 0
OfTerm T M G (bound i) A = Unit {0}
OfTerm T M G (free v) A = (N : Expression) × (look_up G v ≡ Some N) × Prim T M G (plain (equal_types N A))
OfTerm T M G (symbol r a) A = (R : Rule) × (rule_at T r ≡ Some R) × Trees (Step T) (sequents M G (filled_premises (instance_of R.premises a) R.premises a)) × (N : Expression) × (conclusion_at R a ≡ term_goal N) × Prim T M G (plain (equal_types N A))
OfTerm T M G (meta m a) A = (b : Statement) × (look_up M m ≡ Some b) × Trees (Step T) (sequents M G (term_typings b a)) × (N : Expression) × (at b a ≡ plain (term_goal N)) × Prim T M G (plain (equal_types N A))

abbrev pub FromClaim : List Rule → List (ℕ × Statement) → List (ℕ × Expression) → Claim → Type 0
FromClaim T M G (is_type A) = OfType T M G A
FromClaim T M G (has_type t A) = OfTerm T M G t A
FromClaim T M G (equal_types A B) = Unit {0}
FromClaim T M G (equal_terms s t A) = Unit {0}
FromClaim T M G type_goal = Unit {0}
FromClaim T M G (term_goal A) = Unit {0}
FromClaim T M G (type_equation_goal A B) = Unit {0}
FromClaim T M G (term_equation_goal s t A) = Unit {0}

abbrev pub From : List Rule → List (ℕ × Statement) → List (ℕ × Expression) → Statement → Type 0
From T M G (plain c) = FromClaim T M G c
From T M G (abstracted A x) = Unit {0}

from_meta : (T : List Rule) (M : List (ℕ × Statement)) (G : List (ℕ × Expression)) (m : ℕ) (b : Statement) (a : Terms) → look_up M m ≡ Some b → Trees (Step T) (sequents M G (term_typings b a)) → (y : Statement) → at b a ≡ y → IsObject y → Prim T M G y → From T M G (fill y (meta m a))
from_meta T M G m b a q ts (plain type_goal) e o p = (b, q, ts)
from_meta T M G m b a q ts (plain (term_goal N)) e o p = (b, q, ts, N, e, do_reflexive_type (parts T (sequent M G (plain (term_goal N))) p))
from_meta T M G m b a q ts (plain (is_type A)) e o p = absurd o
from_meta T M G m b a q ts (plain (has_type t A)) e o p = absurd o
from_meta T M G m b a q ts (plain (equal_types A B)) e o p = absurd o
from_meta T M G m b a q ts (plain (equal_terms s t A)) e o p = absurd o
from_meta T M G m b a q ts (plain (type_equation_goal A B)) e o p = absurd o
from_meta T M G m b a q ts (plain (term_equation_goal s t A)) e o p = absurd o
from_meta T M G m b a q ts (abstracted A x) e o p = tt

from_symbol : (T : List Rule) (M : List (ℕ × Statement)) (G : List (ℕ × Expression)) (r : ℕ) (R : Rule) (a : Arguments) → rule_at T r ≡ Some R → Trees (Step T) (sequents M G (filled_premises (instance_of R.premises a) R.premises a)) → (c : Claim) → conclusion_at R a ≡ c → IsObjectGoal c → Prim T M G (plain c) → FromClaim T M G (fill_goal c (symbol r a))
from_symbol T M G r R a q ts type_goal e o p = (R, q, ts, e)
from_symbol T M G r R a q ts (term_goal N) e o p = (R, q, ts, N, e, do_reflexive_type (parts T (sequent M G (plain (term_goal N))) p))
from_symbol T M G r R a q ts (is_type A) e o p = absurd o
from_symbol T M G r R a q ts (has_type t A) e o p = absurd o
from_symbol T M G r R a q ts (equal_types A B) e o p = absurd o
from_symbol T M G r R a q ts (equal_terms s t A) e o p = absurd o
from_symbol T M G r R a q ts (type_equation_goal A B) e o p = absurd o
from_symbol T M G r R a q ts (term_equation_goal s t A) e o p = absurd o

from_equation_goal : (T : List Rule) (M : List (ℕ × Statement)) (G : List (ℕ × Expression)) (c : Claim) (h : Expression) → IsEquationGoal c → FromClaim T M G (fill_goal c h)
from_equation_goal T M G (type_equation_goal A B) h o = tt
from_equation_goal T M G (term_equation_goal s t A) h o = tt
from_equation_goal T M G (is_type A) h o = absurd o
from_equation_goal T M G (has_type t A) h o = absurd o
from_equation_goal T M G (equal_types A B) h o = absurd o
from_equation_goal T M G (equal_terms s t A) h o = absurd o
from_equation_goal T M G type_goal h o = absurd o
from_equation_goal T M G (term_goal A) h o = absurd o

from_equation : (T : List Rule) (M : List (ℕ × Statement)) (G : List (ℕ × Expression)) (x : Statement) (h : Expression) → IsEquation x → From T M G (fill x h)
from_equation T M G (plain c) h o = from_equation_goal T M G c h o
from_equation T M G (abstracted A x) h o = tt

from_equate_goal : (T : List Rule) (M : List (ℕ × Statement)) (G : List (ℕ × Expression)) (c : Claim) (h k : Expression) → IsObjectGoal c → FromClaim T M G (equate_goal c h k)
from_equate_goal T M G type_goal h k o = tt
from_equate_goal T M G (term_goal A) h k o = tt
from_equate_goal T M G (is_type A) h k o = absurd o
from_equate_goal T M G (has_type t A) h k o = absurd o
from_equate_goal T M G (equal_types A B) h k o = absurd o
from_equate_goal T M G (equal_terms s t A) h k o = absurd o
from_equate_goal T M G (type_equation_goal A B) h k o = absurd o
from_equate_goal T M G (term_equation_goal s t A) h k o = absurd o

from_equate : (T : List Rule) (M : List (ℕ × Statement)) (G : List (ℕ × Expression)) (x : Statement) (h k : Expression) → IsObject x → From T M G (equate x h k)
from_equate T M G (plain c) h k o = from_equate_goal T M G c h k o
from_equate T M G (abstracted A x) h k o = tt

converted : (T : List Rule) (M : List (ℕ × Statement)) (G : List (ℕ × Expression)) (t A B : Expression) → OfTerm T M G t A → Prim T M G (plain (equal_types A B)) → OfTerm T M G t B
converted T M G (bound i) A B h e = tt
converted T M G (free v) A B h e = (h.0, h.1, do_transitive_types h.2 e)
converted T M G (symbol r a) A B h e = (h.0, h.1, h.2, h.3, h.4, do_transitive_types h.5 e)
converted T M G (meta m a) A B h e = (h.0, h.1, h.2, h.3, h.4, do_transitive_types h.5 e)

pub origin : (T : List Rule) → ScopedTheory T → (c : Sequent) → Tree (Step T) c → From T c.metavariables c.variables c.statement
origin T sc = induct (Step T) (λ c. From T c.metavariables c.variables c.statement) step
  where
    step : (ps : List Sequent) (c : Sequent) → Step T ps c → Trees (Step T) ps → AllOf (λ c. From T c.metavariables c.variables c.statement) ps → From T c.metavariables c.variables c.statement
    step ps c (variable v A q) (more t none) h = (A, q, do_reflexive_type t)
    step ps c (metavariable {M} {G} m b a q g o d) (more t ts) h = from_meta T M G m b a q ts (at b a) refl (object-at a b o) (substitute_all T sc M G a b d t ts)
    step ps c (metavariable_equation {M} {G} m b a q g o d) ts h = from_equation T M G (at b a) (bound zero) (equation-at a b o)
    step ps c (metavariable_congruence {M} {G} m b a k q g o d d') ts h = from_equate T M G (at b a) (meta m a) (meta m k) (object-at a b o)
    step ps c (abstraction {M} {G} v B x n u) ts h = tt
    step ps c (reflexive_type B) ts h = tt
    step ps c (reflexive_term t B) ts h = tt
    step ps c (symmetric_types B C) ts h = tt
    step ps c (symmetric_terms s t B) ts h = tt
    step ps c (transitive_types B C D) ts h = tt
    step ps c (transitive_terms s t u B) ts h = tt
    step ps c (convert_term {M} {G} t A B) (more p (more e none)) h = converted T M G t A B h.0 e
    step ps c (convert_equation s t B C) ts h = tt
    step ps c for_type ts h = tt
    step ps c (for_term B) ts h = tt
    step ps c (for_types B C) ts h = tt
    step ps c (for_terms s t B) ts h = tt
    step ps c (symbol_rule {M} {G} r R a q f o) (more t ts) h = from_symbol T M G r R a q ts (conclusion_at R a) refl (object_goal-map R.conclusion (act free (instance_of R.premises a)) o) t
    step ps c (equation_rule {M} {G} r R a q f o) ts h = from_equation_goal T M G (conclusion_at R a) (bound zero) (equation_goal-map R.conclusion (act free (instance_of R.premises a)) o)
    step ps c (congruence {M} {G} r R a b q f f' o) ts h = from_equate_goal T M G (conclusion_at R a) (symbol r a) (symbol r b) (object_goal-map R.conclusion (act free (instance_of R.premises a)) o)

pub pick : (S : List Sequent → Sequent → Type 0) (M : List (ℕ × Statement)) (G : List (ℕ × Expression)) (x : Statement) (xs : List Statement) → Member x xs → Trees S (sequents M G xs) → Tree S (sequent M G x)
pick S M G x xs (here y ys) (more t ts) = t
pick S M G x xs (there z y ys m) (more t ts) = pick S M G x ys m ts
