use Rattle.std.proofs.Common.{◌≡◌, ◌<◌, ◌≤◌, None, length, take, rules}
use Rattle.ft_applications_meaning.specs.Building.{premise_names}
use Rattle.ft_run.specs.Asking.{goal_of_new}
use Rattle.ft_run.proofs.Keeping.{keeps_then}
use Rattle.ft_run.proofs.Premises.{wanted_next, wanted_none, wanted_all}
use Rattle.ft_run.proofs.session.Session.ask.Goals as goal

pub returns-in_err-_goal-clause-none : goal.returns-in_err-_goal-clause-none
returns-in_err-_goal-clause-none c = λ h m.
    let below : c.loop-i.i < length c.args.premises.now = search rules in
    let none : goal_of_new c.loop-i.self.rules (premise_names (take c.loop-i.i c.args.premises.now)) c.index-premises-i.result ≡ None = search rules in
    wanted_none c.args.self.now.rules c.loop-i.self.rules c.args.premises.now c.loop-i.i c.index-premises-i.result m c.loop-i.invariant.keeps.rules below c.index-premises-i.is none c.loop-i.invariant.wanted

pub returns-in_err-_goal-clause-keeps : goal.returns-in_err-_goal-clause-keeps
returns-in_err-_goal-clause-keeps c = keeps_then c.args.self.now c.loop-i.self c.wanted.new.self c.loop-i.invariant.keeps c.wanted.ensures.keeps

pub loop-i-preserved : goal.loop-i-preserved
loop-i-preserved c =
    let below : c.loop-i.i < length c.args.premises.now = search rules in
    record {
      wanted = wanted_next c.args.self.now.rules c.loop-i.self.rules c.args.premises.now c.loop-i.i c.index-premises-i.result _ c.loop-i.invariant.keeps.rules below c.index-premises-i.is c.in_ok-_goal.ensures.goal c.loop-i.invariant.wanted;
      keeps = keeps_then c.args.self.now c.loop-i.self c.wanted.new.self c.loop-i.invariant.keeps c.wanted.ensures.keeps;
    }

pub returns-clause-some : goal.returns-clause-some
returns-clause-some c = λ m.
    let ended : length c.args.premises.now ≤ c.loop-i.i = search rules in
    wanted_all c.args.self.now.rules c.args.premises.now c.loop-i.i m ended c.loop-i.invariant.wanted
