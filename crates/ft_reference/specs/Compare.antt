-- Comparison in order: a thesis against the boundary that it is to fit, an equation against the thesis that it starts at.
-- First form and number of domains; then the domains from the first; then the type; then left and right side.
use Rattle.std.specs.Prelude.{ℕ, zero, suc, Bool, true, false, cond, List, [], ◌∷◌, ◌++◌}
use Rattle.ft_theory.specs.Expressions.{Expression}
use Rattle.ft_theory.specs.Statements.{Claim, is_type, has_type, equal_types, equal_terms, type_goal, term_goal, type_equation_goal, term_equation_goal, Statement, plain, abstracted, opened, domain, boundary_of}
use Rattle.ft_items.specs.Equal.{equal_expressions, has_head}
use Rattle.ft_reference.specs.Refusals.{Differ, WrongForm, TypeDiffers, SidesDiffer, Check, asks, forms, forms_statement}

-- the two expressions, under so many domains
abbrev pub differ_at : ℕ → Expression → Expression → Differ
differ_at n found wanted = record { found = found; wanted = wanted; under = n }

-- the domain or type found is the one wanted
abbrev pub type_check : ℕ → Expression → Expression → Check
type_check n found wanted = asks (equal_expressions found wanted) (TypeDiffers (differ_at n found wanted))

-- the side found is the one wanted
abbrev pub side_check : ℕ → Expression → Expression → Check
side_check n found wanted = asks (equal_expressions found wanted) (SidesDiffer (differ_at n found wanted))

-- the test that two goals have one form
abbrev pub same_form : Claim → Claim → Bool
same_form type_goal type_goal = true
same_form (term_goal A) (term_goal B) = true
same_form (type_equation_goal A B) (type_equation_goal C D) = true
same_form (term_equation_goal s t A) (term_equation_goal u v B) = true
same_form c d = false

-- the test that two boundaries have one form and as many domains
abbrev pub is_alike : Statement → Statement → Bool
is_alike (plain c) (plain d) = same_form c d
is_alike (plain c) (abstracted B y) = false
is_alike (abstracted A x) (plain d) = false
is_alike (abstracted A x) (abstracted B y) = is_alike x y

-- two goals of one form, under n domains: the type, then the sides
abbrev pub goal_checks : ℕ → Claim → Claim → List Check
goal_checks n (term_goal A) (term_goal B) = type_check n A B ∷ []
goal_checks n (type_equation_goal A B) (type_equation_goal C D) = side_check n A C ∷ side_check n B D ∷ []
goal_checks n (term_equation_goal s t A) (term_equation_goal u v B) = type_check n A B ∷ side_check n s u ∷ side_check n t v ∷ []
goal_checks n c d = []

-- two boundaries that are alike, below n domains: the domains from the first, then the goals
abbrev pub domain_checks : ℕ → Statement → Statement → List Check
domain_checks n (plain c) (plain d) = goal_checks n c d
domain_checks n (plain c) (abstracted B y) = []
domain_checks n (abstracted A x) (plain d) = []
domain_checks n (abstracted A x) (abstracted B y) = type_check n A B ∷ domain_checks (suc n) x y

-- the boundary found is the one wanted
abbrev pub boundary_checks : Statement → Statement → List Check
boundary_checks b c = asks (is_alike b c) WrongForm ∷ domain_checks zero b c

-- the thesis fits the boundary
abbrev pub fit_checks : Statement → Statement → List Check
fit_checks x b = boundary_checks (boundary_of x) b

-- Theses for several premises: each premise's boundary is formed at the instance i, and the thesis in its place fits it.
abbrev pub argument_checks : (Statement → Statement) → List (ℕ × Statement) → List Statement → List Check
argument_checks i [] xs = []
argument_checks i (p ∷ ps) [] = []
argument_checks i (p ∷ ps) (x ∷ xs) = forms_statement (i p.1) ++ (fit_checks x (i p.1) ++ argument_checks i ps xs)

-- Equations that start at theses.

-- the test that a claim is an equation, of types for a type and of terms for a term
abbrev pub is_equation_for : Claim → Claim → Bool
is_equation_for (is_type A) (equal_types B C) = true
is_equation_for (has_type t A) (equal_terms s u B) = true
is_equation_for c d = false

-- the same for a thesis and an equation under as many domains
abbrev pub is_equation_of : Statement → Statement → Bool
is_equation_of (plain c) (plain d) = is_equation_for c d
is_equation_of (plain c) (abstracted B e) = false
is_equation_of (abstracted A x) (plain d) = false
is_equation_of (abstracted A x) (abstracted B e) = is_equation_of x e

-- the equation is at the type of the claim, and its left side is the claim's head; the equation is what is found
abbrev pub left_checks : ℕ → Claim → Claim → List Check
left_checks n (is_type A) (equal_types B C) = side_check n B A ∷ []
left_checks n (has_type t A) (equal_terms s u B) = type_check n B A ∷ side_check n s t ∷ []
left_checks n c d = []

-- the same under domains, which are compared first
abbrev pub left_checks_under : ℕ → Statement → Statement → List Check
left_checks_under n (plain c) (plain d) = left_checks n c d
left_checks_under n (plain c) (abstracted B e) = []
left_checks_under n (abstracted A x) (plain d) = []
left_checks_under n (abstracted A x) (abstracted B e) = type_check n B A ∷ left_checks_under (suc n) x e

-- the equation starts at the head of the thesis
abbrev pub start_checks : Statement → Statement → List Check
start_checks x e = asks (is_equation_of x e) WrongForm ∷ left_checks_under zero x e

-- how many of the theses have a head, which are those for object premises
abbrev pub head_count : List Statement → ℕ
head_count [] = zero
head_count (x ∷ xs) = cond (has_head x) (suc (head_count xs)) (head_count xs)

-- each equation starts at the head of its thesis; those without a head have none
abbrev pub equation_checks : List Statement → List Statement → List Check
equation_checks [] es = []
equation_checks (x ∷ xs) [] = []
equation_checks (x ∷ xs) (e ∷ es) = cond (has_head x) (start_checks x e ++ equation_checks xs es) (equation_checks xs (e ∷ es))

-- Terms and equations for the domains of a boundary.

-- each is a plain term of the type of its domain, which is formed with the earlier terms in place
abbrev pub term_checks : Statement → List Statement → List Check
term_checks b [] = []
term_checks b (plain (has_type t A) ∷ xs) = forms (domain b) ∷ type_check zero A (domain b) ∷ term_checks (opened t b) xs
term_checks b (x ∷ xs) = asks false WrongForm ∷ []

-- each is a plain term equation at its domain, which is formed with the earlier left sides in place
abbrev pub pair_checks : Statement → List Statement → List Check
pair_checks b [] = []
pair_checks b (plain (equal_terms s t A) ∷ es) = forms (domain b) ∷ type_check zero A (domain b) ∷ pair_checks (opened s b) es
pair_checks b (e ∷ es) = asks false WrongForm ∷ []
