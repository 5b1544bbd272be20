-- What is given for the domains of a metavariable's boundary: terms, or equations of terms.
use Rattle.std.specs.Prelude.{ℕ, zero, ◌≡◌, false, Option, Some, None, List, [], ◌∷◌, length}
use Rattle.ft_theory.specs.Expressions.{Expression, Terms}
use Rattle.ft_theory.specs.Statements.{has_type, equal_terms, Statement, plain, domain_count}
use Rattle.ft_items.specs.Equal.{head, left_head, terms, left_terms}
use Rattle.ft_reference.specs.Refusals.{Check, WrongForm, asks, forms, count_check}
use Rattle.ft_reference.specs.Compare.{type_check, term_checks, pair_checks}
use Rattle.ft_syntax.specs.Table.{tree}
use Rattle.ft_judge.specs.Meaning.{thesis_in}
use Rattle.ft_judge.specs.declared.judgement.Thesis.{Thesis}
use Rattle.ft_metas.specs.declared.operands.Given.{Given}
use Rattle.ft_metas.specs.declared.operands.Given.TheVariants as given

-- the term of a plain thesis with its type; or the left side of a plain equation, with its type
abbrev pub operand_in : Given → Statement → Option (Expression × Expression)
operand_in given.Terms (plain (has_type t A)) = Some (t, A)
operand_in given.Equations (plain (equal_terms s t A)) = Some (s, A)
operand_in g x = None

-- the same as an expression; for others a dummy
abbrev pub operand_of : Given → Statement → Expression
operand_of given.Terms x = head x
operand_of given.Equations x = left_head x

-- those of several
abbrev pub operands_of : Given → List Statement → Terms
operands_of given.Terms xs = terms xs
operands_of given.Equations xs = left_terms xs

-- the checks of what is given for the domains
abbrev pub operand_checks : Given → Statement → List Statement → List Check
operand_checks given.Terms b xs = term_checks b xs
operand_checks given.Equations b xs = pair_checks b xs

-- one for each domain is given, and they pass their checks
abbrev pub all_checks : Given → Statement → List Statement → List Check
all_checks g b xs = count_check (length xs) (domain_count b) ∷ operand_checks g b xs

-- the domain is formed, and is the type of what is given
abbrev pub type_checks : Expression → Option (Expression × Expression) → List Check
type_checks D None = asks false WrongForm ∷ []
type_checks D (Some p) = forms D ∷ type_check zero p.1 D ∷ []

-- the checks of one that is given for the domain
abbrev pub one_checks : Given → Expression → Statement → List Check
one_checks g D x = type_checks D (operand_in g x)

-- the thesis gives the term or the left side with its type, over each table
abbrev pub StatesOperand : Given → Thesis → ℕ → ℕ → Type 0
StatesOperand g y t A = (ts : List Expression) → operand_in g (thesis_in ts y) ≡ Some (tree ts t, tree ts A)

-- the thesis gives none, over each table
abbrev pub StatesNone : Given → Thesis → Type 0
StatesNone g y = (ts : List Expression) → operand_in g (thesis_in ts y) ≡ None

-- the statement is a plain equation of terms
abbrev pub IsPlainEquation : Statement → Type 0
IsPlainEquation x = (p : Expression × Expression) × (operand_in given.Equations x ≡ Some p)

-- each of them is
abbrev pub AreEquations : List Statement → Type 0
AreEquations [] = Unit {0}
AreEquations (x ∷ xs) = IsPlainEquation x × AreEquations xs
