use Rattle.ft_run.specs.Session.{Keeps}
use Rattle.ft_run.proofs.Premises.{AreWanted}
use Rattle.ft_run.proofs.session.Session.ask.Given as goal

abbrev pub invariant-loop-i : goal.invariant-loop-i
invariant-loop-i l = record {
  wanted : AreWanted l.fn.self.rules l.premises l.i;
  keeps : Keeps l.fn.self l.self;
}
