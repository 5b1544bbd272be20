use Rattle.ft_program.proofs.Wholes.{fault_written}
use Rattle.ft_program.proofs.whole.told.Goals as goal

pub returns : goal.returns
returns c = λ budget.
    fault_written c.args.bytes.now budget c.args.fault (record { text = c.in_ok-text.text; status = c.fault_status.result }) c.requires.known c.requires.has
    c.in_ok-text.ensures c.fault_status.ensures.told
