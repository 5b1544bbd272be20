use Rattle.std.proofs.Common.{◌<◌, ◌++◌, ◌∷◌, [], length, rules}
use Rattle.ft_run.proofs.Lines.{left_next}
use Rattle.ft_run.proofs.session.Session.judge.Goals as goal

pub loop-command-preserved : goal.loop-command-preserved
loop-command-preserved c =
    let below : c.loop-command.command-index < length c.args.commands.now = search rules in
    record {
      left = (
        c.loop-command.invariant.left.0 ++ c.in_ok-build.ensures.done.0 ∷ [],
        left_next c.args.self.now.rules c.loop-command.self.rules c.build.new.self.rules c.args.commands.now c.loop-command.command-index c.command-item.result c.loop-command.invariant.left.0 c.in_ok-build.ensures.done.0
            below c.command-item.is c.in_ok-build.ensures.done.1 c.loop-command.invariant.left.1,
      );
      counted = c.in_ok-build.ensures.counted;
    }
