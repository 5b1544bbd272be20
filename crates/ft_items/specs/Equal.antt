-- Tests on expressions and statements: equality, form and fit; and how a thesis is taken apart into head and sides.
use Rattle.std.specs.Prelude.{ℕ, zero, Bool, true, false, cond, nat_eq, ◌&&◌, List, [], ◌∷◌}
use Rattle.ft_theory.specs.Expressions.{Expression, bound, free, symbol, meta, Arguments, no_arguments, with_body, dummy, Terms, no_terms, also}
use Rattle.ft_theory.specs.Statements.{Claim, is_type, has_type, equal_types, equal_terms, type_goal, term_goal, type_equation_goal, term_equation_goal, Statement, plain, abstracted, opened, domain_count}

-- the test that two expressions are the same tree
abbrev mutual
  pub equal_expressions : Expression → Expression → Bool
  equal_expressions (bound i) (bound j) = nat_eq i j
  equal_expressions (free v) (free w) = nat_eq v w
  equal_expressions (symbol s a) (symbol r b) = nat_eq s r && equal_arguments a b
  equal_expressions (meta m a) (meta n b) = nat_eq m n && equal_term_lists a b
  equal_expressions e f = false

  pub equal_arguments : Arguments → Arguments → Bool
  equal_arguments no_arguments no_arguments = true
  equal_arguments (with_body n e a) (with_body k f b) = nat_eq n k && equal_expressions e f && equal_arguments a b
  equal_arguments (dummy n a) (dummy k b) = nat_eq n k && equal_arguments a b
  equal_arguments a b = false

  pub equal_term_lists : Terms → Terms → Bool
  equal_term_lists no_terms no_terms = true
  equal_term_lists (also t a) (also u b) = equal_expressions t u && equal_term_lists a b
  equal_term_lists a b = false

-- the test that two claims or goals are the same
abbrev pub equal_claims : Claim → Claim → Bool
equal_claims (is_type A) (is_type B) = equal_expressions A B
equal_claims (has_type t A) (has_type u B) = equal_expressions t u && equal_expressions A B
equal_claims (equal_types A B) (equal_types C D) = equal_expressions A C && equal_expressions B D
equal_claims (equal_terms s t A) (equal_terms u v B) = equal_expressions s u && equal_expressions t v && equal_expressions A B
equal_claims type_goal type_goal = true
equal_claims (term_goal A) (term_goal B) = equal_expressions A B
equal_claims (type_equation_goal A B) (type_equation_goal C D) = equal_expressions A C && equal_expressions B D
equal_claims (term_equation_goal s t A) (term_equation_goal u v B) = equal_expressions s u && equal_expressions t v && equal_expressions A B
equal_claims c d = false

-- the test that two statements have the same domains and the same claim or goal
abbrev pub equal_statements : Statement → Statement → Bool
equal_statements (plain c) (plain d) = equal_claims c d
equal_statements (plain c) (abstracted B y) = false
equal_statements (abstracted A x) (plain d) = false
equal_statements (abstracted A x) (abstracted B y) = equal_expressions A B && equal_statements x y

-- the test for a thesis's claim, and not a boundary's goal
abbrev pub is_thesis_claim : Claim → Bool
is_thesis_claim (is_type A) = true
is_thesis_claim (has_type t A) = true
is_thesis_claim (equal_types A B) = true
is_thesis_claim (equal_terms s t A) = true
is_thesis_claim type_goal = false
is_thesis_claim (term_goal A) = false
is_thesis_claim (type_equation_goal A B) = false
is_thesis_claim (term_equation_goal s t A) = false

-- the test for a thesis, and not a boundary
abbrev pub is_thesis : Statement → Bool
is_thesis (plain c) = is_thesis_claim c
is_thesis (abstracted A x) = is_thesis x

-- the test that a statement has no domain
abbrev pub is_plain : Statement → Bool
is_plain (plain c) = true
is_plain (abstracted A x) = false

-- the test for the goal of a type or of a term
abbrev pub is_object_goal : Claim → Bool
is_object_goal (is_type A) = false
is_object_goal (has_type t A) = false
is_object_goal (equal_types A B) = false
is_object_goal (equal_terms s t A) = false
is_object_goal type_goal = true
is_object_goal (term_goal A) = true
is_object_goal (type_equation_goal A B) = false
is_object_goal (term_equation_goal s t A) = false

-- the test for the boundary of a type or of a term
abbrev pub is_object : Statement → Bool
is_object (plain c) = is_object_goal c
is_object (abstracted A x) = is_object x

-- the test for the claim of a type or of a term, which are the claims that have a head
abbrev pub has_head_claim : Claim → Bool
has_head_claim (is_type A) = true
has_head_claim (has_type t A) = true
has_head_claim (equal_types A B) = false
has_head_claim (equal_terms s t A) = false
has_head_claim type_goal = false
has_head_claim (term_goal A) = false
has_head_claim (type_equation_goal A B) = false
has_head_claim (term_equation_goal s t A) = false

-- the test for the thesis of a type or of a term
abbrev pub has_head : Statement → Bool
has_head (plain c) = has_head_claim c
has_head (abstracted A x) = has_head x

-- the head of a claim: its type or term. For others, which have none, a dummy.
abbrev pub head_of_claim : Claim → Expression
head_of_claim (is_type A) = A
head_of_claim (has_type t A) = t
head_of_claim (equal_types A B) = bound zero
head_of_claim (equal_terms s t A) = bound zero
head_of_claim type_goal = bound zero
head_of_claim (term_goal A) = bound zero
head_of_claim (type_equation_goal A B) = bound zero
head_of_claim (term_equation_goal s t A) = bound zero

-- the head of a thesis, which stands under its domains
abbrev pub head : Statement → Expression
head (plain c) = head_of_claim c
head (abstracted A x) = head x

-- the right side of an equation's claim; for others a dummy
abbrev pub right_of_claim : Claim → Expression
right_of_claim (is_type A) = bound zero
right_of_claim (has_type t A) = bound zero
right_of_claim (equal_types A B) = B
right_of_claim (equal_terms s t A) = t
right_of_claim type_goal = bound zero
right_of_claim (term_goal A) = bound zero
right_of_claim (type_equation_goal A B) = bound zero
right_of_claim (term_equation_goal s t A) = bound zero

-- the right side of an equation, which stands under its domains
abbrev pub right_head : Statement → Expression
right_head (plain c) = right_of_claim c
right_head (abstracted A x) = right_head x

-- the test that the claim is the goal filled with the claim's head
abbrev pub fits_goal : Claim → Claim → Bool
fits_goal (is_type A) type_goal = true
fits_goal (has_type t A) (term_goal B) = equal_expressions A B
fits_goal (equal_types A B) (type_equation_goal C D) = equal_expressions A C && equal_expressions B D
fits_goal (equal_terms s t A) (term_equation_goal u v B) = equal_expressions A B && equal_expressions s u && equal_expressions t v
fits_goal c d = false

-- the test that a thesis fits a boundary: the same domains, then claim and goal
abbrev pub fits : Statement → Statement → Bool
fits (plain c) (plain d) = fits_goal c d
fits (plain c) (abstracted B b) = false
fits (abstracted A x) (plain d) = false
fits (abstracted A x) (abstracted B b) = equal_expressions A B && fits x b

-- the test that there is one thesis for each premise, which fits that premise's boundary at the instance i
abbrev pub fit_all : (Statement → Statement) → List (ℕ × Statement) → List Statement → Bool
fit_all i [] [] = true
fit_all i [] (x ∷ xs) = false
fit_all i (p ∷ ps) [] = false
fit_all i (p ∷ ps) (x ∷ xs) = fits x (i p.1) && fit_all i ps xs

-- the heads of theses as arguments, each under as many binders as its thesis has domains; a dummy for an equation
abbrev pub heads : List Statement → Arguments
heads [] = no_arguments
heads (x ∷ xs) = cond (has_head x) (with_body (domain_count x) (head x) (heads xs)) (dummy (domain_count x) (heads xs))

-- the test for an equation, at the type of the first claim, whose left side is the head of that claim
abbrev pub starts_claim : Claim → Claim → Bool
starts_claim (is_type A) (equal_types B C) = equal_expressions A B
starts_claim (has_type t A) (equal_terms s u B) = equal_expressions A B && equal_expressions t s
starts_claim c d = false

-- the test for an equation whose left side is the head of the thesis, at its type and under the same domains
abbrev pub starts : Statement → Statement → Bool
starts (plain c) (plain d) = starts_claim c d
starts (plain c) (abstracted B e) = false
starts (abstracted A x) (plain d) = false
starts (abstracted A x) (abstracted B e) = equal_expressions A B && starts x e

-- the test that there is one equation for each thesis with a head, which starts at that head
abbrev pub start_all : List Statement → List Statement → Bool
start_all [] [] = true
start_all [] (e ∷ es) = false
start_all (x ∷ xs) [] = cond (has_head x) false (start_all xs [])
start_all (x ∷ xs) (e ∷ es) = cond (has_head x) (starts x e && start_all xs es) (start_all xs (e ∷ es))

-- the right sides of the equations as arguments, in the places of the theses that have heads; in other places dummies
abbrev pub right_heads : List Statement → List Statement → Arguments
right_heads [] es = no_arguments
right_heads (x ∷ xs) [] = dummy (domain_count x) (right_heads xs [])
right_heads (x ∷ xs) (e ∷ es) = cond (has_head x) (with_body (domain_count x) (right_head e) (right_heads xs es)) (dummy (domain_count x) (right_heads xs (e ∷ es)))

-- the test that there is one plain term for each domain, whose type is that domain with the earlier terms in place
abbrev pub typed : Statement → List Statement → Bool
typed (plain c) [] = true
typed (abstracted A b) [] = false
typed (abstracted A b) (plain (has_type t B) ∷ xs) = equal_expressions A B && typed (opened t (abstracted A b)) xs
typed b (x ∷ xs) = false

-- the terms of these theses
abbrev pub terms : List Statement → Terms
terms [] = no_terms
terms (x ∷ xs) = also (head x) (terms xs)

-- the test that there is one plain equation of terms for each domain, at that domain with the earlier left sides in place
abbrev pub paired : Statement → List Statement → Bool
paired (plain c) [] = true
paired (abstracted A b) [] = false
paired (abstracted A b) (plain (equal_terms s t B) ∷ es) = equal_expressions A B && paired (opened s (abstracted A b)) es
paired b (e ∷ es) = false

-- the left side of an equation's claim; for others a dummy
abbrev pub left_of_claim : Claim → Expression
left_of_claim (is_type A) = bound zero
left_of_claim (has_type t A) = bound zero
left_of_claim (equal_types A B) = A
left_of_claim (equal_terms s t A) = s
left_of_claim type_goal = bound zero
left_of_claim (term_goal A) = bound zero
left_of_claim (type_equation_goal A B) = bound zero
left_of_claim (term_equation_goal s t A) = bound zero

-- the left side of an equation, which stands under its domains
abbrev pub left_head : Statement → Expression
left_head (plain c) = left_of_claim c
left_head (abstracted A x) = left_head x

-- the left sides of these equations
abbrev pub left_terms : List Statement → Terms
left_terms [] = no_terms
left_terms (e ∷ es) = also (left_head e) (left_terms es)

-- the right sides of these equations
abbrev pub right_terms : List Statement → Terms
right_terms [] = no_terms
right_terms (e ∷ es) = also (right_head e) (right_terms es)
