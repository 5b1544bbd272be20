use Rattle.std.proofs.Common.{ap, ◌∙◌}
use Rattle.std.specs.Prelude.{option_map}
use Rattle.ft_items.specs.Levels.{rule_level}
use Rattle.ft_check.proofs.Applies.{not_read}
use Rattle.ft_check.proofs.counts.rule_level.Goals as goal

pub returns-in-None : goal.returns-in-None
returns-in-None c = λ R g e. not_read _ _ (c.rule_at_hand.ensures.is (c.args.r, R) g (ap (option_map (λ Q. (c.args.r, Q))) e)) c.in-None.is

pub returns-in-Some : goal.returns-in-Some
returns-in-Some c = λ R g e.
    let k = c.in-Some.ensures.is (c.args.r, R) g (ap (option_map (λ Q. (c.args.r, Q))) e) in
    c.goal_level.ensures c.args.items.now.trees ∙ ap rule_level k.conclusion
