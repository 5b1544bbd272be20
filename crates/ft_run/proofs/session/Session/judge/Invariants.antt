use Rattle.std.proofs.Common.{List, drop}
use Rattle.ft_applications_meaning.specs.Events.{Event}
use Rattle.ft_run.specs.Session.{IsCounted}
use Rattle.ft_run.proofs.Left.{AreLeft}
use Rattle.ft_run.proofs.session.Session.judge.Given as goal

abbrev pub invariant-loop-command : goal.invariant-loop-command
invariant-loop-command l = record {
  left : (es : List Event) × AreLeft l.fn.self.rules l.commands es l.self.rules (drop l.command-index l.commands);
  counted : IsCounted l.self;
}
