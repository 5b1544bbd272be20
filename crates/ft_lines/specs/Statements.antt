-- Reading theses and boundaries.
use Rattle.std.specs.Prelude.{ℕ, zero, suc, ◌<◌, if◌then◌else◌, List, [], ◌∷◌, ◌++◌, length, map, Result}
use Rattle.ft_theory.specs.Expressions.{Expression}
use Rattle.ft_theory.specs.Statements.{Claim, is_type, has_type, equal_types, equal_terms, type_goal, term_goal, type_equation_goal, term_equation_goal, Statement, plain, abstracted}
use Rattle.ft_syntax.specs.Table.{tree, AllBelow}
use Rattle.ft_judge.specs.declared.judgement.Form.{Form}
use Rattle.ft_judge.specs.declared.judgement.Goal.{Goal}
use Rattle.ft_judge.specs.declared.judgement.Thesis.{Thesis}
use Rattle.ft_judge.specs.declared.judgement.Boundary.{Boundary}
use Rattle.ft_judge.specs.Meaning.{claim_in, goal_in, thesis_in, boundary_in, FormBelow, GoalBelow, ThesisBelow, BoundaryBelow}
use Rattle.ft_lines.specs.declared.fault.Fault.{Fault}
use Rattle.ft_lines.specs.Reading.{Outcome, Reader, ◌>>=◌, ◌>>◌, pure, refuse, skip, sees, passes, expect, ReadsAs}
use Rattle.ft_lines.specs.Expressions.{expression}

-- an expression with a space before it
unfoldable pub one : Reader Expression
one = do
  expect 32
  expression

-- two expressions
unfoldable pub two : Reader (Expression × Expression)
two = do
  a ← one
  b ← one
  pure (a, b)

-- three expressions
unfoldable pub three : Reader (Expression × Expression × Expression)
three = do
  a ← one
  p ← two
  pure (a, p.0, p.1)

unfoldable pub type_form : Reader Claim
type_form = do
  a ← one
  pure (is_type a)

unfoldable pub term_form : Reader Claim
term_form = do
  p ← two
  pure (has_type p.0 p.1)

unfoldable pub type_equation : (Expression → Expression → Claim) → Reader Claim
type_equation claim = do
  p ← two
  pure (claim p.0 p.1)

unfoldable pub term_equation : (Expression → Expression → Expression → Claim) → Reader Claim
term_equation claim = do
  p ← three
  pure (claim p.0 p.1 p.2)

-- an equation: `E` and two expressions, or `e` and three
unfoldable pub equation : (Expression → Expression → Claim) → (Expression → Expression → Expression → Claim) → Reader Claim
equation types terms = λ cs.
    if sees 69 cs then (do
      skip
      type_equation types) cs else
    if sees 101 cs then (do
      skip
      term_equation terms) cs else
    refuse cs

-- a claim: `T` and a type, `t`, a term and its type, or an equation
unfoldable pub form : Reader Claim
form = λ cs.
    if sees 84 cs then (do
      skip
      type_form) cs else
    if sees 116 cs then (do
      skip
      term_form) cs else
    equation equal_types equal_terms cs

unfoldable pub term_wanted : Reader Claim
term_wanted = do
  a ← one
  pure (term_goal a)

-- a goal: `T` alone, `t` and a type, or an equation
unfoldable pub goal : Reader Claim
goal = λ cs.
    if sees 84 cs then (do
      skip
      pure type_goal) cs else
    if sees 116 cs then (do
      skip
      term_wanted) cs else
    equation type_equation_goal term_equation_goal cs

-- a domain, after its brace
unfoldable pub domain : Reader Expression
domain = do
  a ← expression
  expect 125
  pure a

-- domains in braces; the number bounds the turns
unfoldable pub domains_from : ℕ → List Expression → Reader (List Expression)
domains_from zero found = refuse
domains_from (suc n) found = do
  more ← passes 123
  if more then (do
    a ← domain
    domains_from n (found ++ a ∷ [])) else pure found

-- the claim under domains
abbrev pub over : List Expression → Claim → Statement
over [] c = plain c
over (A ∷ As) c = abstracted A (over As c)

-- domains, and then a claim or goal
unfoldable pub statement : Reader Claim → Reader Statement
statement claim = do
  found ← (λ cs. domains_from (length cs) [] cs)
  c ← claim
  pure (over found c)

-- a thesis
abbrev pub thesis : Reader Statement
thesis = statement form

-- a boundary
abbrev pub boundary : Reader Statement
boundary = statement goal

-- What functions ensure that read into a table of expressions.

abbrev pub ReadsPair : Outcome (Expression × Expression) → List Expression → Result (ℕ × ℕ) Fault → List ℕ → Type 0
ReadsPair outcome table result new = ReadsAs (λ p. (p.0 < length table) × (p.1 < length table)) (λ p. (tree table p.0, tree table p.1)) outcome result new

abbrev pub ReadsTriple : Outcome (Expression × Expression × Expression) → List Expression → Result (ℕ × ℕ × ℕ) Fault → List ℕ → Type 0
ReadsTriple outcome table result new =
    ReadsAs (λ p. (p.0 < length table) × (p.1 < length table) × (p.2 < length table)) (λ p. (tree table p.0, tree table p.1, tree table p.2)) outcome result new

abbrev pub ReadsForm : Outcome Claim → List Expression → Result Form Fault → List ℕ → Type 0
ReadsForm outcome table result new = ReadsAs (FormBelow (length table)) (claim_in table) outcome result new

abbrev pub ReadsGoal : Outcome Claim → List Expression → Result Goal Fault → List ℕ → Type 0
ReadsGoal outcome table result new = ReadsAs (GoalBelow (length table)) (goal_in table) outcome result new

abbrev pub ReadsDomains : Outcome (List Expression) → List Expression → Result (List ℕ) Fault → List ℕ → Type 0
ReadsDomains outcome table result new = ReadsAs (AllBelow (length table)) (map (tree table)) outcome result new

abbrev pub ReadsThesis : Outcome Statement → List Expression → Result Thesis Fault → List ℕ → Type 0
ReadsThesis outcome table result new = ReadsAs (ThesisBelow (length table)) (thesis_in table) outcome result new

abbrev pub ReadsBoundary : Outcome Statement → List Expression → Result Boundary Fault → List ℕ → Type 0
ReadsBoundary outcome table result new = ReadsAs (BoundaryBelow (length table)) (boundary_in table) outcome result new
