use Rattle.std.proofs.Common.{◌∙◌, sym}
use Rattle.ft_run.proofs.Keeping.{keeps_then}
use Rattle.ft_run.proofs.Premises.{built_rule}
use Rattle.ft_run.proofs.session.Session.is_built.Goals as goal

pub returns-in_err-_goal-clause-keeps : goal.returns-in_err-_goal-clause-keeps
returns-in_err-_goal-clause-keeps c = keeps_then c.args.self.now c.ask.new.self c.concluded.new.self c.ask.ensures.keeps c.concluded.ensures.keeps

pub returns-clause-some : goal.returns-clause-some
returns-clause-some c =
    built_rule c.args.self.now.rules c.ask.new.self.rules c.args.premises.now c.args.conclusion.now _ c.in_ok-ask.ensures.some c.ask.ensures.keeps.rules c.in_ok-_goal.ensures.goal (sym c.has_room.ensures ∙ c.if-not-has_room.false)

pub returns-clause-keeps : goal.returns-clause-keeps
returns-clause-keeps c = keeps_then c.args.self.now c.ask.new.self c.concluded.new.self c.ask.ensures.keeps c.concluded.ensures.keeps
