use Rattle.ft_top.proofs.Going.{run_text}
use Rattle.ft_top.proofs.running.transcript.Goals as goal

pub returns-clause-text : goal.returns-clause-text
returns-clause-text g c = run_text _ _ _ _ _ c.status_for.ensures.number c.in_ok-ran.ensures.run
