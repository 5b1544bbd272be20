use Rattle.std.proofs.Common.{◌<◌, length, rules}
use Rattle.ft_run.proofs.Fitting.{goal_at}
use Rattle.ft_run.proofs.given.all_fit.Goals as goal

pub fits-requires-clause-goal : goal.fits-requires-clause-goal
fits-requires-clause-goal c =
    let below : c.loop-i.i < length c.args.goals.now = search rules in
    goal_at c.args.terms.now c.args.goals.now c.loop-i.i c.index-goals-i.result c.requires.goals below c.index-goals-i.is
