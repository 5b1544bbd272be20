use Rattle.std.proofs.Common.{List, drop}
use Rattle.ft_applications_meaning.specs.Events.{Event}
use Rattle.ft_run.specs.Session.{IsCounted}
use Rattle.ft_run.proofs.Left.{AreLeft}
use Rattle.ft_run.specs.Running.{Does}
use Rattle.ft_run.proofs.session.Session.run_until.Given as goal

abbrev pub invariant-loop-command : goal.invariant-loop-command
invariant-loop-command l = record {
  done : (es : List Event) × AreLeft l.fn.self.rules l.commands es l.self.rules (drop l.command-index l.commands) × Does l.fn.self l.self l.fn.out l.out es;
  counted : IsCounted l.self;
}
