-- Primitive steps over a theory, and what is derivable by them.
-- After the structural rules, the closure rules and the congruence rules of Haselwarter and Bauer, "Finitary type theories
-- with and without contexts"; the variable and metavariable rows ask that the annotation is well formed, and the
-- congruence rows ask for both sides.
use Rattle.std.specs.Prelude.{ℕ, zero, Some, None, ◌≡◌, List, [], ◌∷◌}
use Rattle.ft_theory.specs.Expressions.{Expression, bound, free, symbol, meta, Arguments, Terms, count, Without}
use Rattle.ft_theory.specs.Statements.{is_type, has_type, equal_types, equal_terms, type_goal, term_goal, type_equation_goal, term_equation_goal, Statement, plain, abstracted, StatementMentionsOnly, close_statement, domain_count, at, fill_goal, fill, equate_goal, equate, IsObjectGoal, IsEquationGoal, IsObject, IsEquation}
use Rattle.ft_theory.specs.Rules.{BoundaryMap, TypeMap, look_up, Rule, rule_at, FitsPremises, premises_at, equations_at, conclusion_at, term_typings, term_equations}

-- A sequent: a statement, with the boundaries of metavariables and the types of free variables that it may rest on. They are
-- finite maps, in no order: nothing asks that a context is well formed, since the rows ask for each annotation where it is used.
pub record Sequent : Type 0 where
  pub metavariables : BoundaryMap
  pub variables : TypeMap
  pub statement : Statement

-- the sequent of a statement over two maps
abbrev pub sequent : BoundaryMap → TypeMap → Statement → Sequent
sequent M G x = record { metavariables = M; variables = G; statement = x }

-- the sequents of statements over the same maps
abbrev pub sequents : BoundaryMap → TypeMap → List Statement → List Sequent
sequents M G [] = []
sequents M G (x ∷ xs) = sequent M G x ∷ sequents M G xs

-- no free variable is mentioned
abbrev pub IsVariableFree : Statement → Type 0
IsVariableFree x = StatementMentionsOnly (λ v. ⊥) (λ m k. Unit {0}) x

-- no type of the map mentions v
abbrev pub Unmentioned : ℕ → TypeMap → Type 0
Unmentioned v G = (u : ℕ) (B : Expression) → look_up G u ≡ Some B → Without v B

-- Step T premises conclusion: a primitive step over the theory T. Where a row does not say otherwise, its premises and its
-- conclusion are over the same maps. Nothing is said of closed expressions: that all that is derivable is closed, and mentions
-- only what its sequent has, follows.
pub data Step (T : List Rule) : List Sequent → Sequent → Type 0 where
  -- Variable: a free variable has the type that the sequent gives it, where that is a type.
  variable : {M : BoundaryMap} {G : TypeMap} (v : ℕ) (A : Expression)
      → look_up G v ≡ Some A
      → Step T (sequent M G (plain (is_type A)) ∷ []) (sequent M G (plain (has_type (free v) A)))
  -- Metavariable, with a type or a term as its goal: at one term for each domain of its boundary, each of the domain's type with
  -- the terms before it put in, it is what the goal with the terms put in asks. The boundary itself is derivable, and has no free
  -- variables.
  metavariable : {M : BoundaryMap} {G : TypeMap} (m : ℕ) (b : Statement) (a : Terms)
      → look_up M m ≡ Some b → IsVariableFree b → IsObject b → count a ≡ domain_count b
      → Step T (sequents M G (b ∷ term_typings b a)) (sequent M G (fill (at b a) (meta m a)))
  -- Metavariable, with an equation as its goal: the same gives the equation with the terms put in. Its head is a dummy, written `bound zero`.
  metavariable_equation : {M : BoundaryMap} {G : TypeMap} (m : ℕ) (b : Statement) (a : Terms)
      → look_up M m ≡ Some b → IsVariableFree b → IsEquation b → count a ≡ domain_count b
      → Step T (sequents M G (b ∷ term_typings b a)) (sequent M G (fill (at b a) (bound zero)))
  -- Metavariable congruence: at equal terms a metavariable is equal to itself, at the goal with the left terms put in. Both sides
  -- are premises.
  metavariable_congruence : {M : BoundaryMap} {G : TypeMap} (m : ℕ) (b : Statement) (a c : Terms)
      → look_up M m ≡ Some b → IsVariableFree b → IsObject b → count a ≡ domain_count b
      → count c ≡ domain_count b
      → Step T
      (sequents M G (fill (at b a) (meta m a) ∷ fill (at b a) (meta m c)
      ∷ term_equations b a c))
      (sequent M G (equate (at b a) (meta m a) (meta m c)))
  -- Abstraction: a statement over one more variable is bound by that variable's type as its first domain. The variable is new to
  -- the sequent, and no type there mentions it.
  abstraction : {M : BoundaryMap} {G : TypeMap} (v : ℕ) (A : Expression) (x : Statement)
      → look_up G v ≡ None → Unmentioned v G
      → Step T (sequent M G (plain (is_type A)) ∷ sequent M ((v, A) ∷ G) x ∷ [])
      (sequent M G (abstracted A (close_statement v x)))
  -- Reflexivity, of types.
  reflexive_type : {M : BoundaryMap} {G : TypeMap} (A : Expression)
      → Step T (sequent M G (plain (is_type A)) ∷ []) (sequent M G (plain (equal_types A A)))
  -- Reflexivity, of terms.
  reflexive_term : {M : BoundaryMap} {G : TypeMap} (t A : Expression)
      → Step T (sequent M G (plain (has_type t A)) ∷ []) (sequent M G (plain (equal_terms t t A)))
  -- Symmetry, of types.
  symmetric_types : {M : BoundaryMap} {G : TypeMap} (A B : Expression)
      → Step T (sequent M G (plain (equal_types A B)) ∷ []) (sequent M G (plain (equal_types B A)))
  -- Symmetry, of terms at one type.
  symmetric_terms : {M : BoundaryMap} {G : TypeMap} (s t A : Expression)
      → Step T (sequent M G (plain (equal_terms s t A)) ∷ [])
      (sequent M G (plain (equal_terms t s A)))
  -- Transitivity, of types.
  transitive_types : {M : BoundaryMap} {G : TypeMap} (A B C : Expression)
      → Step T (sequents M G (plain (equal_types A B) ∷ plain (equal_types B C) ∷ []))
      (sequent M G (plain (equal_types A C)))
  -- Transitivity, of terms at one type.
  transitive_terms : {M : BoundaryMap} {G : TypeMap} (s t u A : Expression)
      → Step T (sequents M G (plain (equal_terms s t A) ∷ plain (equal_terms t u A) ∷ []))
      (sequent M G (plain (equal_terms s u A)))
  -- Conversion: a term has each type that equals its type.
  convert_term : {M : BoundaryMap} {G : TypeMap} (t A B : Expression)
      → Step T (sequents M G (plain (has_type t A) ∷ plain (equal_types A B) ∷ []))
      (sequent M G (plain (has_type t B)))
  -- Conversion: an equation of terms holds at each type that equals its type.
  convert_equation : {M : BoundaryMap} {G : TypeMap} (s t A B : Expression)
      → Step T (sequents M G (plain (equal_terms s t A) ∷ plain (equal_types A B) ∷ []))
      (sequent M G (plain (equal_terms s t B)))
  -- Boundaries: `_ type` is one.
  for_type : {M : BoundaryMap} {G : TypeMap}
      → Step T [] (sequent M G (plain type_goal))
  -- Boundaries: `_ : A` is one for a type A.
  for_term : {M : BoundaryMap} {G : TypeMap} (A : Expression)
      → Step T (sequent M G (plain (is_type A)) ∷ []) (sequent M G (plain (term_goal A)))
  -- Boundaries: `A == B` is one for types A and B.
  for_types : {M : BoundaryMap} {G : TypeMap} (A B : Expression)
      → Step T (sequents M G (plain (is_type A) ∷ plain (is_type B) ∷ []))
      (sequent M G (plain (type_equation_goal A B)))
  -- Boundaries: `s == t : A` is one for terms s and t of a type A.
  for_terms : {M : BoundaryMap} {G : TypeMap} (s t A : Expression)
      → Step T
      (sequents M G (plain (is_type A) ∷ plain (has_type s A) ∷ plain (has_type t A) ∷ []))
      (sequent M G (plain (term_equation_goal s t A)))
  -- Rule instance, of a symbol rule: with each argument at its premise's boundary at the instance, and the conclusion's boundary
  -- at the instance, the symbol at the arguments is what that boundary asks.
  symbol_rule : {M : BoundaryMap} {G : TypeMap} (r : ℕ) (R : Rule) (a : Arguments)
      → rule_at T r ≡ Some R → FitsPremises R.premises a → IsObjectGoal R.conclusion
      → Step T (sequents M G (plain (conclusion_at R a) ∷ premises_at R.premises a))
      (sequent M G (plain (fill_goal (conclusion_at R a) (symbol r a))))
  -- Rule instance, of an equation rule: the same gives the equation. Its head is a dummy, written `bound zero`.
  equation_rule : {M : BoundaryMap} {G : TypeMap} (r : ℕ) (R : Rule) (a : Arguments)
      → rule_at T r ≡ Some R → FitsPremises R.premises a → IsEquationGoal R.conclusion
      → Step T (sequents M G (plain (conclusion_at R a) ∷ premises_at R.premises a))
      (sequent M G (plain (fill_goal (conclusion_at R a) (bound zero))))
  -- Congruence: a symbol at equal arguments is equal to itself, at the conclusion's boundary at the left ones. Both sides are
  -- premises. For equation premises there is nothing to compare.
  congruence : {M : BoundaryMap} {G : TypeMap} (r : ℕ) (R : Rule) (a b : Arguments)
      → rule_at T r ≡ Some R → FitsPremises R.premises a → FitsPremises R.premises b
      → IsObjectGoal R.conclusion
      → Step T
      (sequents M G (plain (fill_goal (conclusion_at R a) (symbol r a))
      ∷ plain (fill_goal (conclusion_at R a) (symbol r b)) ∷ equations_at R.premises a b))
      (sequent M G (plain (equate_goal (conclusion_at R a) (symbol r a) (symbol r b))))

-- A finite tree of steps, for any relation of premises and conclusions: each node is a step, with a tree for each premise.
mutual
  pub data Tree (S : List Sequent → Sequent → Type 0) : Sequent → Type 0 where
    node : (ps : List Sequent) {c : Sequent} → S ps c → Trees S ps → Tree S c

  pub data Trees (S : List Sequent → Sequent → Type 0) : List Sequent → Type 0 where
    none : Trees S []
    more : {c : Sequent} {ps : List Sequent} → Tree S c → Trees S ps → Trees S (c ∷ ps)

-- primitively derivable: there is a finite tree of primitive steps that ends with the sequent
abbrev pub Prim : List Rule → BoundaryMap → TypeMap → Statement → Type 0
Prim T M G x = Tree (Step T) (sequent M G x)
