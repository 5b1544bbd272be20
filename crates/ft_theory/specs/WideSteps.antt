-- The wide steps, by their kinds 1 to 7: what they derive is already derivable by primitive steps in a finitary theory.
-- After the admissible rules of Haselwarter and Bauer, "Finitary type theories with and without contexts".
use Rattle.std.specs.Prelude.{ℕ, zero, Some, ◌≡◌, List, [], ◌∷◌, ◌++◌}
use Rattle.ft_theory.specs.Expressions.{Expression, bound, free, symbol, meta, Arguments, Terms, count, open_at}
use Rattle.ft_theory.specs.Statements.{Claim, is_type, has_type, equal_types, equal_terms, term_goal, type_equation_goal, term_equation_goal, Statement, plain, abstracted, act_statement, opened, domain_count, at, fill_goal, fill, equate_goal, equate, IsObjectGoal, IsEquationGoal, IsObject, boundary_of}
use Rattle.ft_theory.specs.Rules.{BoundaryMap, TypeMap, look_up, Rule, rule_at, instance_of, BoundaryAfter, FitsPremises, premises_at, equations_at, conclusion_at, term_typings, term_equations}
use Rattle.ft_theory.specs.Steps.{Sequent, sequent, sequents, IsVariableFree}

-- a type or a side of a claim or goal, as a claim
pub data SideOfClaim : Claim → Claim → Type 0 where
  type_of_term : (t A : Expression) → SideOfClaim (has_type t A) (is_type A)
  left_type : (A B : Expression) → SideOfClaim (equal_types A B) (is_type A)
  right_type : (A B : Expression) → SideOfClaim (equal_types A B) (is_type B)
  type_of_terms : (s t A : Expression) → SideOfClaim (equal_terms s t A) (is_type A)
  left_term : (s t A : Expression) → SideOfClaim (equal_terms s t A) (has_type s A)
  right_term : (s t A : Expression) → SideOfClaim (equal_terms s t A) (has_type t A)
  type_of_boundary : (A : Expression) → SideOfClaim (term_goal A) (is_type A)
  left_type_side : (A B : Expression) → SideOfClaim (type_equation_goal A B) (is_type A)
  right_type_side : (A B : Expression) → SideOfClaim (type_equation_goal A B) (is_type B)
  type_of_sides : (s t A : Expression) → SideOfClaim (term_equation_goal s t A) (is_type A)
  left_term_side : (s t A : Expression) → SideOfClaim (term_equation_goal s t A) (has_type s A)
  right_term_side : (s t A : Expression) → SideOfClaim (term_equation_goal s t A) (has_type t A)

-- a type or a side of a statement, as a thesis under the same domains
pub data Side : Statement → Statement → Type 0 where
  plain_side : (c d : Claim) → SideOfClaim c d → Side (plain c) (plain d)
  under_domain : (A : Expression) (x y : Statement) → Side x y → Side (abstracted A x) (abstracted A y)

-- the statement is one of the list
pub data Member : Statement → List Statement → Type 0 where
  here : (x : Statement) (xs : List Statement) → Member x (x ∷ xs)
  there : (x y : Statement) (xs : List Statement) → Member x xs → Member x (y ∷ xs)

-- WideStep T k premises conclusion: a wide step of kind k over the theory T.
pub data WideStep (T : List Rule) : ℕ → List Sequent → Sequent → Type 0 where
  -- 1, weakening: a statement holds over larger maps.
  weakening : {M N : BoundaryMap} {G H : TypeMap} (x : Statement)
      → ((m : ℕ) (b : Statement) → look_up M m ≡ Some b → look_up N m ≡ Some b)
      → ((v : ℕ) (A : Expression) → look_up G v ≡ Some A → look_up H v ≡ Some A)
      → WideStep T 1 (sequent M G x ∷ []) (sequent N H x)
  -- 2, substitution: a term of the first domain's type may be put for its variable.
  substitution : {M : BoundaryMap} {G : TypeMap} (A t : Expression) (x : Statement)
      → WideStep T 2 (sequents M G (abstracted A x ∷ plain (has_type t A) ∷ []))
      (sequent M G (opened t (abstracted A x)))
  -- 3, sides: the boundary of what holds is derivable.
  its_boundary : {M : BoundaryMap} {G : TypeMap} (x : Statement)
      → WideStep T 3 (sequent M G x ∷ []) (sequent M G (boundary_of x))
  -- 3: so is each side of it, and its type, under the same domains.
  a_side : {M : BoundaryMap} {G : TypeMap} (x y : Statement)
      → Side x y
      → WideStep T 3 (sequent M G x ∷ []) (sequent M G y)
  -- 3: so is its first domain, as a type.
  first_domain : {M : BoundaryMap} {G : TypeMap} (A : Expression) (x : Statement)
      → WideStep T 3 (sequent M G (abstracted A x) ∷ []) (sequent M G (plain (is_type A)))
  -- 4, equal substitution: at two equal terms of the first domain's type the head is equal to itself, at the boundary at the
  -- left one.
  equal_substitution : {M : BoundaryMap} {G : TypeMap} (A s t : Expression) (b : Statement)
      (h : Expression)
      → IsObject b
      → WideStep T 4 (sequents M G (abstracted A (fill b h) ∷ plain (equal_terms s t A) ∷ []))
      (sequent M G (equate (opened s (abstracted A b)) (open_at (domain_count b) s h)
      (open_at (domain_count b) t h)))
  -- 5, instances: at arguments for the first premises of a rule the boundary after them is derivable: the next premise's, or the
  -- conclusion's.
  boundary_at_arguments : {M : BoundaryMap} {G : TypeMap} (r : ℕ) (R : Rule) (ps : BoundaryMap)
      (b : Statement) (a : Arguments)
      → rule_at T r ≡ Some R → BoundaryAfter R ps b → FitsPremises ps a
      → WideStep T 5 (sequents M G (premises_at ps a))
      (sequent M G (act_statement free (instance_of ps a) b))
  -- 5: at arguments for all premises the symbol at them is, without its boundary as a premise.
  object_instance : {M : BoundaryMap} {G : TypeMap} (r : ℕ) (R : Rule) (a : Arguments)
      → rule_at T r ≡ Some R → FitsPremises R.premises a → IsObjectGoal R.conclusion
      → WideStep T 5 (sequents M G (premises_at R.premises a))
      (sequent M G (plain (fill_goal (conclusion_at R a) (symbol r a))))
  -- 5: or the equation.
  equation_instance : {M : BoundaryMap} {G : TypeMap} (r : ℕ) (R : Rule) (a : Arguments)
      → rule_at T r ≡ Some R → FitsPremises R.premises a → IsEquationGoal R.conclusion
      → WideStep T 5 (sequents M G (premises_at R.premises a))
      (sequent M G (plain (fill_goal (conclusion_at R a) (bound zero))))
  -- 6, equal instances: a symbol at equal arguments is equal to itself, by the left arguments and the equations alone.
  equal_instances : {M : BoundaryMap} {G : TypeMap} (r : ℕ) (R : Rule) (a b : Arguments)
      → rule_at T r ≡ Some R → FitsPremises R.premises a → FitsPremises R.premises b
      → IsObjectGoal R.conclusion
      → WideStep T 6 (sequents M G (premises_at R.premises a ++ equations_at R.premises a b))
      (sequent M G (plain (equate_goal (conclusion_at R a) (symbol r a) (symbol r b))))
  -- 6: a head at the boundary after these premises, at arguments for them, is one at that boundary at equal arguments.
  convert_premise : {M : BoundaryMap} {G : TypeMap} (r : ℕ) (R : Rule) (ps : BoundaryMap)
      (c : Statement) (a b : Arguments) (h : Expression)
      → rule_at T r ≡ Some R → BoundaryAfter R ps c → FitsPremises ps a → FitsPremises ps b
      → WideStep T 6
      (sequents M G (fill (act_statement free (instance_of ps a) c) h
      ∷ (premises_at ps a ++ equations_at ps a b)))
      (sequent M G (fill (act_statement free (instance_of ps b) c) h))
  -- 6: and back.
  convert_back : {M : BoundaryMap} {G : TypeMap} (r : ℕ) (R : Rule) (ps : BoundaryMap)
      (c : Statement) (a b : Arguments) (h : Expression)
      → rule_at T r ≡ Some R → BoundaryAfter R ps c → FitsPremises ps a → FitsPremises ps b
      → WideStep T 6
      (sequents M G (fill (act_statement free (instance_of ps b) c) h
      ∷ (premises_at ps a ++ equations_at ps a b)))
      (sequent M G (fill (act_statement free (instance_of ps a) c) h))
  -- 6: a metavariable at equal terms is equal to itself, by its boundary and the equations alone.
  metavariable_at_equal_terms : {M : BoundaryMap} {G : TypeMap} (m : ℕ) (b : Statement)
      (a c : Terms)
      → look_up M m ≡ Some b → IsVariableFree b → IsObject b → count a ≡ domain_count b
      → count c ≡ domain_count b
      → WideStep T 6 (sequents M G (b ∷ term_equations b a c))
      (sequent M G (equate (at b a) (meta m a) (meta m c)))
  -- 7, inversion: each argument of a derivable type that is a symbol's application is derivable at its premise's boundary.
  argument_in_type : {M : BoundaryMap} {G : TypeMap} (r : ℕ) (R : Rule) (a : Arguments)
      (x : Statement)
      → rule_at T r ≡ Some R → Member x (premises_at R.premises a)
      → WideStep T 7 (sequent M G (plain (is_type (symbol r a))) ∷ []) (sequent M G x)
  -- 7: the same for a term.
  argument_in_term : {M : BoundaryMap} {G : TypeMap} (r : ℕ) (R : Rule) (a : Arguments)
      (A : Expression) (x : Statement)
      → rule_at T r ≡ Some R → Member x (premises_at R.premises a)
      → WideStep T 7 (sequent M G (plain (has_type (symbol r a) A)) ∷ []) (sequent M G x)
  -- 7: each term of a derivable type that is a metavariable's application is derivable at its domain.
  term_in_type : {M : BoundaryMap} {G : TypeMap} (m : ℕ) (b : Statement) (a : Terms)
      (x : Statement)
      → look_up M m ≡ Some b → Member x (term_typings b a)
      → WideStep T 7 (sequent M G (plain (is_type (meta m a))) ∷ []) (sequent M G x)
  -- 7: the same for a term.
  term_in_term : {M : BoundaryMap} {G : TypeMap} (m : ℕ) (b : Statement) (a : Terms)
      (A : Expression) (x : Statement)
      → look_up M m ≡ Some b → Member x (term_typings b a)
      → WideStep T 7 (sequent M G (plain (has_type (meta m a) A)) ∷ []) (sequent M G x)
  -- 7: the type that the sequent gives a variable equals each type that the variable has.
  natural_variable : {M : BoundaryMap} {G : TypeMap} (v : ℕ) (N A : Expression)
      → look_up G v ≡ Some N
      → WideStep T 7 (sequent M G (plain (has_type (free v) A)) ∷ [])
      (sequent M G (plain (equal_types N A)))
  -- 7: the type in the conclusion of a symbol's rule at arguments equals each type that the application has.
  natural_symbol : {M : BoundaryMap} {G : TypeMap} (r : ℕ) (R : Rule) (a : Arguments)
      (N A : Expression)
      → rule_at T r ≡ Some R → conclusion_at R a ≡ term_goal N
      → WideStep T 7 (sequent M G (plain (has_type (symbol r a) A)) ∷ [])
      (sequent M G (plain (equal_types N A)))
  -- 7: the same for a metavariable, with the type in its boundary at the terms.
  natural_metavariable : {M : BoundaryMap} {G : TypeMap} (m : ℕ) (b : Statement) (a : Terms)
      (N A : Expression)
      → look_up M m ≡ Some b → at b a ≡ plain (term_goal N)
      → WideStep T 7 (sequent M G (plain (has_type (meta m a) A)) ∷ [])
      (sequent M G (plain (equal_types N A)))
