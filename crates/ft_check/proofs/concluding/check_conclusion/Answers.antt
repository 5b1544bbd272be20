use Rattle.std.proofs.Common.{rules, ◌≡◌, true, ap, ap₂, ◌∙◌}
use Rattle.ft_theory.specs.Expressions.{symbol, instantiate}
use Rattle.ft_theory.specs.Statements.{fill_goal, map_claim, plain}
use Rattle.ft_items.specs.Equal.{equal_statements}
use Rattle.ft_items.specs.Sets.{same_set}
use Rattle.ft_judge.specs.Meaning.{goal_in}
use Rattle.ft_check.specs.Entries.{entry_in, with_step}
use Rattle.ft_check.proofs.Concludes.{reasons}
use Rattle.ft_check.proofs.concluding.check_conclusion.Goals as goal

pub returns : goal.returns
returns c =
    let T = c.args.terms.now in
    let yes : c.in_ok-are_instances.field-0 ≡ true = search rules in
    λ t. reasons _ _ _ _ _ _ (with_step (entry_in T c.args.found) t) _ yes c.in_ok-are_instances.ensures.are
    (c.in_ok-is_concluded.ensures ∙ ap₂ (λ i a. equal_statements (plain (fill_goal (map_claim (instantiate i) (goal_in T c.args.rule.now.goal)) (symbol c.args.rule.now.symbol a))) (entry_in T c.args.found).statement) c.in_ok-are_instances.ensures.instance c.in_ok-are_instances.ensures.arguments)
    (c.is_same_set.ensures ∙ ap (same_set c.args.set.now) (c.set.ensures T)) c.against_result.ensures
