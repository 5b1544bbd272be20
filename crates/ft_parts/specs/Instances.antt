-- Expressions, goals and boundaries at the instance that pairs of metavariables and arguments are.
use Rattle.std.specs.Prelude.{ℕ, List, Result, Ok, Err}
use Rattle.ft_theory.specs.Expressions.{Expression, free, instantiate}
use Rattle.ft_theory.specs.Statements.{Claim, Statement, map_claim, act_statement}
use Rattle.ft_syntax.specs.Table.{tree}
use Rattle.ft_syntax.specs.Instances.{instance_in}
use Rattle.ft_syntax.specs.declared.syntax.Arg.{Arg}
use Rattle.ft_syntax.specs.declared.syntax.SynFault.{SynFault}
use Rattle.ft_syntax.specs.declared.syntax.SynFault.TheVariants as syntax

abbrev pub expression_at : List Expression → List (ℕ × Arg) → ℕ → Expression
expression_at ts ps e = instantiate (instance_in ts ps) (tree ts e)

abbrev pub goal_at : List Expression → List (ℕ × Arg) → Claim → Claim
goal_at ts ps c = map_claim (instantiate (instance_in ts ps)) c

abbrev pub boundary_at : List Expression → List (ℕ × Arg) → Statement → Statement
boundary_at ts ps b = act_statement free (instance_in ts ps) b

-- What is formed is too big, or memory was refused.
abbrev pub BigOr : Type 0 → SynFault → Type 0
BigOr P syntax.TooBig = P → ⊥
BigOr P syntax.Memory = Unit {0}

-- What is formed is small; it is too big only where it is not small.
abbrev pub SmallOr : {A : Type 0} → Type 0 → Result A SynFault → Type 0
SmallOr P (Ok x) = P
SmallOr P (Err f) = BigOr P f
