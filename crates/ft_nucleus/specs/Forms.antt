-- What calls make of claims, and the checks of calls that have one test.
use Rattle.std.specs.Prelude.{◌≡◌, Bool, is_some, Result, List, [], ◌∷◌}
use Rattle.ft_theory.specs.Expressions.{Expression}
use Rattle.ft_theory.specs.Statements.{Claim, equate_goal, boundary_of_claim, Statement}
use Rattle.ft_items.specs.Equal.{has_head_claim, head_of_claim, has_head}
use Rattle.ft_items.specs.Rows.{symmetry, equation_conversion, term_boundary, type_equation_boundary}
use Rattle.ft_judge.specs.Meaning.{claim_in}
use Rattle.ft_reference.specs.Checks.{equation_conversion_checks}
use Rattle.ft_judge.specs.declared.judgement.Form.{Form}
use Rattle.ft_judge.specs.declared.fault.Refusal.{Refusal}
use Rattle.ft_calls.specs.Forming.{plain_in, FormsOne, FormsTwo}
use Rattle.ft_reference.specs.Refusals.{Check, WrongForm, asks}

-- the equation of a type or term with itself
abbrev pub equal_to_itself : Claim → Claim
equal_to_itself c = equate_goal (boundary_of_claim c) (head_of_claim c) (head_of_claim c)

-- whether a form has a head, over each table
abbrev pub HasHead : Form → Bool → Type 0
HasHead f b = (ts : List Expression) → has_head_claim (claim_in ts f) ≡ b

-- the second form is the equation of the first with itself, over each table
abbrev pub IsEqualToItself : Form → Form → Type 0
IsEqualToItself f g = (ts : List Expression) → claim_in ts g ≡ equal_to_itself (claim_in ts f)

-- a type or a term is equal to itself
abbrev pub reflexivity_checks : Statement → List Check
reflexivity_checks x = asks (has_head x) WrongForm ∷ []

-- an equation can be exchanged
abbrev pub symmetry_checks : Statement → List Check
symmetry_checks x = asks (is_some (symmetry x)) WrongForm ∷ []

-- a type gives the boundary of a term
abbrev pub term_boundary_checks : Statement → List Check
term_boundary_checks x = asks (is_some (term_boundary x)) WrongForm ∷ []

-- two types give the boundary of an equation
abbrev pub type_equation_boundary_checks : Statement → Statement → List Check
type_equation_boundary_checks x y = asks (is_some (type_equation_boundary x y)) WrongForm ∷ []

-- an equation with its sides exchanged, over each table
abbrev pub Swaps : Form → Result Form Refusal → Type 0
Swaps f r = (ts : List Expression) → FormsOne plain_in symmetry_checks symmetry ts f r

-- an equation of terms at the right side of an equation of types
abbrev pub ConvertsEquation : List Expression → Form → Form → Result Form Refusal → Type 0
ConvertsEquation ts x y r = FormsTwo plain_in equation_conversion_checks equation_conversion ts x y r
