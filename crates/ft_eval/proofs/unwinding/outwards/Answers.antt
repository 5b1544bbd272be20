use Rattle.std.proofs.Common.{subst}
use Rattle.ft_running.specs.Telling.{TellsEnd}
use Rattle.ft_eval.specs.Frames.{passed_all}
use Rattle.ft_eval.proofs.Outwards.{halt_told}
use Rattle.ft_eval.proofs.unwinding.outwards.Goals as goal

pub returns-in-Err-Halts-clause-steps : goal.returns-in-Err-Halts-clause-steps
returns-in-Err-Halts-clause-steps c = λ o told.
    halt_told c.args.state.now c.args.stack.now.items o c.in-Err-Halts.halt
    (subst (λ e. TellsEnd o e c.args.state.now) c.in-Err-Halts.field-0-is
    (subst (λ r. Rattle.ft_eval.specs.Frames.TurnsInto o r c.args.state.now) c.in-Err-Halts.is told))
