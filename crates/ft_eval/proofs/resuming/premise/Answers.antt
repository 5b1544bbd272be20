use Rattle.std.proofs.Common.{rules, sym, subst}
use Rattle.ft_apply.specs.Named.{AreThesesOf}
use Rattle.ft_running.specs.Evaluation.{environment_of, value_over}
use Rattle.ft_running.proofs.Further.{environment_further, further_both}
use Rattle.ft_running.proofs.Declared.{rule_further, theses_further}
use Rattle.ft_eval.specs.Frames.{TurnsInto}
use Rattle.ft_eval.proofs.Resumed.{argued_is, theses_more}
use Rattle.ft_eval.proofs.resuming.premise.Goals as goal

pub apply-requires-clause-rule : goal.apply-requires-clause-rule
apply-requires-clause-rule c = rule_further c.args.state.now c.next_argument.new.self c.args.arguments.rule c.next_argument.ensures.further c.requires.rule

pub apply-requires-clause-given : goal.apply-requires-clause-given
apply-requires-clause-given c =
    subst (AreThesesOf c.next_argument.new.self.list) (sym c.in_ok-push-in-Ok.ensures)
    (theses_more c.next_argument.new.self c.args.arguments.given.items c.in-Ok.j
    (theses_further c.args.state.now c.next_argument.new.self c.args.arguments.given.items c.next_argument.ensures.further c.requires.given)
    c.in-Ok.ensures.tells.1)

pub returns-in-Ok-clause-turns : goal.returns-in-Ok-clause-turns
returns-in-Ok-clause-turns c =
    subst (λ o. TurnsInto o c.apply.result c.apply.new.state)
    (sym (argued_is c.args.state.now c.next_argument.new.self c.args.arguments (value_over c.args.state.now c.args.v)
    (environment_of c.args.state.now c.args.scope) (environment_of c.next_argument.new.self c.args.scope) c.in-Ok.j c.push.new.given.items
    (search rules)
    (environment_further c.args.state.now c.next_argument.new.self c.args.scope c.holds.ensures c.next_argument.ensures.further c.requires.scope)
    c.next_argument.ensures.further c.requires.rule c.requires.given c.in_ok-push-in-Ok.ensures))
    c.apply.ensures.turns

pub returns-in-Ok-clause-further : goal.returns-in-Ok-clause-further
returns-in-Ok-clause-further c =
    further_both c.args.state.now c.next_argument.new.self c.apply.new.state c.next_argument.ensures.further c.apply.ensures.further
