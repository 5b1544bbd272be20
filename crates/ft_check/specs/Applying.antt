-- The rule that a step applies, as the program reads it.
use Rattle.std.specs.Prelude.{◌≡◌, ℕ, Some, List}
use Rattle.ft_theory.specs.Expressions.{Expression}
use Rattle.ft_theory.specs.Rules.{Rule}
use Rattle.ft_items.specs.Store.{Declared, each, metavariable_named, premises_of, Declarations}
use Rattle.ft_judge.specs.Meaning.{goal_in}
use Rattle.ft_check.specs.declared.applied.RuleAt.{RuleAt}

-- What is read is the rule R: its number is that of R, the boundaries of its metavariables are the premises of R, and its goal
-- is the conclusion of R.
pub record IsRule (ts : List Expression) (W : Declarations) (x : RuleAt) (R : ℕ × Rule) : Type 0 where
  pub number : x.symbol ≡ R.0
  pub declared : List (ℕ × Declared)
  pub are : each (metavariable_named W) x.metavariables.now ≡ Some declared
  pub premises : R.1.premises ≡ premises_of declared
  pub conclusion : goal_in ts x.goal ≡ R.1.conclusion
