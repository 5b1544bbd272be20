-- Expressions, goals and boundaries at the instance that pairs of metavariables and arguments are.
use Rattle.std.specs.Prelude.{ℕ, List}
use Rattle.ft_theory.specs.Expressions.{Expression, free, symbol, instantiate}
use Rattle.ft_theory.specs.Statements.{Claim, is_type, has_type, equal_types, equal_terms, Statement, map_claim, act_statement, fill_goal}
use Rattle.ft_syntax.specs.Table.{tree, arguments_in}
use Rattle.ft_syntax.specs.Instances.{instance_in}
use Rattle.ft_syntax.specs.declared.syntax.Arg.{Arg}
use Rattle.ft_judge.specs.Meaning.{claim_in, goal_in}
use Rattle.ft_judge.specs.declared.judgement.Form.{Form}
use Rattle.ft_judge.specs.declared.judgement.Goal.{Goal}

abbrev pub expression_at : List Expression → List (ℕ × Arg) → ℕ → Expression
expression_at ts ps e = instantiate (instance_in ts ps) (tree ts e)

abbrev pub goal_at : List Expression → List (ℕ × Arg) → Claim → Claim
goal_at ts ps c = map_claim (instantiate (instance_in ts ps)) c

abbrev pub boundary_at : List Expression → List (ℕ × Arg) → Statement → Statement
boundary_at ts ps b = act_statement free (instance_in ts ps) b

-- the goal filled with the symbol of rule r at arguments
abbrev pub filled_at : List Expression → Goal → ℕ → List Arg → Claim
filled_at ts g r xs = fill_goal (goal_in ts g) (symbol r (arguments_in ts xs))

-- the equation of a type or term with another head; an equation stays as it is
abbrev pub equal_to : Claim → Expression → Claim
equal_to (is_type A) e = equal_types A e
equal_to (has_type t A) e = equal_terms t e A
equal_to c e = c

-- the equation of a type or term with the symbol of rule r at arguments
abbrev pub equated_at : List Expression → Form → ℕ → List Arg → Claim
equated_at ts f r xs = equal_to (claim_in ts f) (symbol r (arguments_in ts xs))
