-- Patterns, the shapes of computation and extensionality rules with their faults in order, and principal arguments.
-- After Bauer and Petković Komel, "An extensible equality checking algorithm for dependent type theories".
use Rattle.std.specs.Prelude.{ℕ, zero, suc, Bool, true, false, nat_eq, not, ◌&&◌, ◌||◌, Option, Some, None, option_map, List, [], ◌∷◌, ◌++◌, filter, Result, Ok}
use Rattle.std.specs.List.{list_any}
use Rattle.ft_theory.specs.Expressions.{Expression, bound, free, symbol, meta, Arguments, no_arguments, with_body, dummy, Terms, no_terms, also}
use Rattle.ft_theory.specs.Statements.{Claim, type_equation_goal, term_equation_goal, term_goal, Statement, plain}
use Rattle.ft_theory.specs.Rules.{Rule}
use Rattle.ft_items.specs.Equal.{equal_expressions, equal_term_lists, equal_statements, is_object}
use Rattle.ft_items.specs.Rows.{bounds}
use Rattle.ft_equality.specs.Results.{◌>>=◌, ◌>>◌, ensure, some_or}

-- Patterns.

-- A pattern for an argument with n binders is a metavariable at exactly these, the outermost first; or, without binders, a
-- symbol at patterns. For a dummy it is a dummy.
abbrev mutual
  pub is_pattern : ℕ → Expression → Bool
  is_pattern n (bound i) = false
  is_pattern n (free v) = false
  is_pattern n (symbol s a) = nat_eq n zero && are_patterns a
  is_pattern n (meta m ts) = equal_term_lists ts (bounds n)

  pub are_patterns : Arguments → Bool
  are_patterns no_arguments = true
  are_patterns (with_body n e a) = is_pattern n e && are_patterns a
  are_patterns (dummy n a) = are_patterns a

-- the test for a symbol at arguments
abbrev pub is_symbol : Expression → Bool
is_symbol (symbol s a) = true
is_symbol e = false

-- the test for a symbol at patterns
abbrev pub is_symbol_pattern : Expression → Bool
is_symbol_pattern e = is_symbol e && is_pattern zero e

-- the metavariables of a pattern, from the left
abbrev mutual
  pub metavariables_of : Expression → List ℕ
  metavariables_of (bound i) = []
  metavariables_of (free v) = []
  metavariables_of (symbol s a) = metavariables_of_arguments a
  metavariables_of (meta m ts) = m ∷ []

  pub metavariables_of_arguments : Arguments → List ℕ
  metavariables_of_arguments no_arguments = []
  metavariables_of_arguments (with_body n e a) = metavariables_of e ++ metavariables_of_arguments a
  metavariables_of_arguments (dummy n a) = metavariables_of_arguments a

-- the test that a pattern determines a metavariable, which is to be one of its own
abbrev pub determines : Expression → ℕ → Bool
determines u m = list_any (nat_eq m) (metavariables_of u)

-- the symbols of a pattern at their arguments, an outer one first, and else from the left
abbrev mutual
  pub applications : Expression → List Expression
  applications (bound i) = []
  applications (free v) = []
  applications (symbol s a) = symbol s a ∷ argument_applications a
  applications (meta m ts) = []

  pub argument_applications : Arguments → List Expression
  argument_applications no_arguments = []
  argument_applications (with_body n e a) = applications e ++ argument_applications a
  argument_applications (dummy n a) = argument_applications a

-- the test that a metavariable stands in an expression
abbrev mutual
  pub mentions : ℕ → Expression → Bool
  mentions m (bound i) = false
  mentions m (free v) = false
  mentions m (symbol s a) = arguments_mention m a
  mentions m (meta n ts) = nat_eq m n || terms_mention m ts

  pub arguments_mention : ℕ → Arguments → Bool
  arguments_mention m no_arguments = false
  arguments_mention m (with_body n e a) = mentions m e || arguments_mention m a
  arguments_mention m (dummy n a) = arguments_mention m a

  pub terms_mention : ℕ → Terms → Bool
  terms_mention m no_terms = false
  terms_mention m (also t ts) = mentions m t || terms_mention m ts

-- Shapes.

-- Why a rule has not the shape that it was declared with. It is no equation, or for extensionality no equation of terms. A
-- premise, by its position from 1, is an equation where none may stand. The left side of a computation rule, or the sides and
-- the type of an extensionality rule, have not their form. A premise is not determined: its metavariable is not in the pattern.
pub data ShapeFault : Type 0 where
  NotEquation : ShapeFault
  EquationPremise : ℕ → ShapeFault
  BadLeft : ShapeFault
  Undetermined : ℕ → ShapeFault

-- the premises of a rule: metavariables with their boundaries
abbrev pub Premises : Type 0
Premises = List (ℕ × Statement)

-- A computation rule rewrites its left side, a pattern, to its right side; an equation of terms has a type.
pub record Computation : Type 0 where
  pub rule : ℕ
  pub premises : Premises
  pub left : Expression
  pub right : Expression
  pub type : Option Expression

-- An extensionality rule equates any two terms of its type, which is a pattern, where its equation premises hold. These speak of
-- the two terms by the metavariables `first` and `second`.
pub record Extensionality : Type 0 where
  pub rule : ℕ
  pub premises : Premises
  pub type : Expression
  pub first : ℕ
  pub second : ℕ
  pub equations : Premises

-- the declared rules, in the order of declaration
pub record EqualityRules : Type 0 where
  pub computations : List Computation
  pub extensionalities : List Extensionality

-- none is declared
abbrev pub no_rules : EqualityRules
no_rules = record { computations = []; extensionalities = [] }

-- the test for a premise of a type or a term
abbrev pub is_object_premise : ℕ × Statement → Bool
is_object_premise q = is_object q.1

-- the premises of types and terms
abbrev pub objects : Premises → Premises
objects qs = filter is_object_premise qs

-- the equation premises
abbrev pub equations : Premises → Premises
equations qs = filter (λ q. not (is_object_premise q)) qs

-- Each premise, counted on from i, passes the test; or the fault is that of the first that fails.
abbrev pub each_premise : (ℕ × Statement → Bool) → (ℕ → ShapeFault) → ℕ → Premises → Result (Unit {0}) ShapeFault
each_premise p fault i [] = Ok tt
each_premise p fault i (q ∷ qs) = ensure (p q) (fault i) >> each_premise p fault (suc i) qs

-- no equation premise stands before an object premise
abbrev pub equations_last : ℕ → Premises → Result (Unit {0}) ShapeFault
equations_last i [] = Ok tt
equations_last i (q ∷ qs) = ensure (is_object_premise q || not (list_any is_object_premise qs)) (EquationPremise i) >> equations_last (suc i) qs

-- the sides of an equation's goal, and its type where it has one
abbrev pub sides : Claim → Option (Expression × Expression × Option Expression)
sides (type_equation_goal A B) = Some (A, B, None)
sides (term_equation_goal s t A) = Some (s, t, Some A)
sides c = None

-- the sides and the type of a term equation's goal
abbrev pub term_sides : Claim → Option (Expression × Expression × Expression)
term_sides (term_equation_goal s t A) = Some (s, t, A)
term_sides c = None

-- The computation rule that a rule is, or the first fault: it is an equation, all premises are objects, the left side is a
-- symbol at patterns, and each premise's metavariable is one of that pattern.
abbrev pub computation_of : ℕ → Rule → Result Computation ShapeFault
computation_of r R = do
  (l, e, A) ← some_or (sides R.conclusion) NotEquation
  each_premise is_object_premise EquationPremise 1 R.premises
  ensure (is_symbol_pattern l) BadLeft
  each_premise (λ q. determines l q.0) Undetermined 1 R.premises
  Ok (record { rule = r; premises = R.premises; left = l; right = e; type = A })

-- the last two members of a list, after those before them
abbrev pub last_two : {A : Type 0} → List A → Option (List A × A × A)
last_two [] = None
last_two (x ∷ []) = None
last_two (x ∷ y ∷ []) = Some ([], x, y)
last_two (x ∷ y ∷ z ∷ zs) = option_map (λ r. (x ∷ r.0, r.1, r.2)) (last_two (y ∷ z ∷ zs))

-- the test that a side is the metavariable of the premise, whose boundary is that of a term of type P, and P has it not
abbrev pub is_side_of : Expression → Expression → ℕ × Statement → Bool
is_side_of P s q = equal_expressions s (meta q.0 no_terms) && equal_statements q.1 (plain (term_goal P)) && not (mentions q.0 P)

-- The extensionality rule that a rule is, or the first fault: it is a term equation, the equation premises stand last, the
-- sides are the last two object premises in their order, terms of the type P, a symbol at patterns without them, and each other
-- object premise's metavariable is one of that pattern.
abbrev pub extensionality_of : ℕ → Rule → Result Extensionality ShapeFault
extensionality_of r R = do
  (s, t, P) ← some_or (term_sides R.conclusion) NotEquation
  equations_last 1 R.premises
  (others, x, y) ← some_or (last_two (objects R.premises)) BadLeft
  ensure (is_side_of P s x && is_side_of P t y && is_symbol_pattern P) BadLeft
  each_premise (λ q. determines P q.0) Undetermined 1 others
  Ok (record { rule = r; premises = R.premises; type = P; first = x.0; second = y.0; equations = equations R.premises })

-- the rules with one more computation rule
abbrev pub add_computation : EqualityRules → ℕ → Rule → Result EqualityRules ShapeFault
add_computation E r R = do
  c ← computation_of r R
  Ok (record E { computations = E.computations ++ c ∷ [] })

-- the rules with one more extensionality rule
abbrev pub add_extensionality : EqualityRules → ℕ → Rule → Result EqualityRules ShapeFault
add_extensionality E r R = do
  x ← extensionality_of r R
  Ok (record E { extensionalities = E.extensionalities ++ x ∷ [] })

-- Principal arguments.

-- the test that the i-th argument, counted from 1, is a symbol at arguments
abbrev pub is_symbol_at : ℕ → Arguments → Bool
is_symbol_at zero a = false
is_symbol_at (suc i) no_arguments = false
is_symbol_at (suc zero) (with_body n e a) = is_symbol e
is_symbol_at (suc zero) (dummy n a) = false
is_symbol_at (suc (suc i)) (with_body n e a) = is_symbol_at (suc i) a
is_symbol_at (suc (suc i)) (dummy n a) = is_symbol_at (suc i) a

-- the test that an expression is the symbol s with a symbol as its i-th argument
abbrev pub looks_into : ℕ → ℕ → Expression → Bool
looks_into s i (symbol f a) = nat_eq s f && is_symbol_at i a
looks_into s i e = false

-- The i-th argument of the symbol s is principal where the left side of some computation rule is s with a symbol there.
abbrev pub is_principal : EqualityRules → ℕ → ℕ → Bool
is_principal E s i = list_any (λ c. looks_into s i c.left) E.computations
