use Rattle.std.proofs.Common.{◌<◌, ◌++◌, ◌∷◌, [], length, subst, rules}
use Rattle.ft_run.specs.Running.{WasRun}
use Rattle.ft_run.specs.declared.session.Ending.TheVariants as ending
use Rattle.ft_run.proofs.Lines.{left_next, does_then, run_cut}
use Rattle.ft_run.proofs.session.Session.run_until.Goals as goal

pub returns-in-Twice-clause-were : goal.returns-in-Twice-clause-were
returns-in-Twice-clause-were c =
    let below : c.loop-command.command-index < length c.args.commands.now = search rules in
    let was : WasRun c.loop-command.self c.command.new.self c.loop-command.out c.command.new.out c.command-item.result ending.Twice =
    subst (WasRun c.loop-command.self c.command.new.self c.loop-command.out c.command.new.out c.command-item.result) c.in-Twice.is c.in_ok-ending.ensures.was in
    run_cut c.args.self.now c.loop-command.self c.command.new.self c.args.out.now c.loop-command.out c.command.new.out c.args.commands.now c.loop-command.command-index c.command-item.result c.loop-command.invariant.done.0
    below c.command-item.is c.loop-command.invariant.done.1 c.loop-command.invariant.done.2 was

pub loop-command-preserved : goal.loop-command-preserved
loop-command-preserved c =
    let below : c.loop-command.command-index < length c.args.commands.now = search rules in
    let was : WasRun c.loop-command.self c.command.new.self c.loop-command.out c.command.new.out c.command-item.result ending.Done =
    subst (WasRun c.loop-command.self c.command.new.self c.loop-command.out c.command.new.out c.command-item.result) c.in-Done.is c.in_ok-ending.ensures.was in
    record {
      done = (
        c.loop-command.invariant.done.0 ++ was.0 ∷ [],
        left_next c.args.self.now.rules c.loop-command.self.rules c.command.new.self.rules c.args.commands.now c.loop-command.command-index c.command-item.result c.loop-command.invariant.done.0 was.0
            below c.command-item.is was.1 c.loop-command.invariant.done.1,
        does_then c.args.self.now c.loop-command.self c.command.new.self c.args.out.now c.loop-command.out c.command.new.out c.loop-command.invariant.done.0 (was.0 ∷ []) c.loop-command.invariant.done.2 was.2,
      );
      counted = was.2.counted;
    }
