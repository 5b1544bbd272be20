use Rattle.ft_top.proofs.Going.{exported}
use Rattle.ft_top.proofs.exporting.export.Goals as goal

pub returns-in-Ok-clause-called : goal.returns-in-Ok-clause-called
returns-in-Ok-clause-called g c = exported c.verdict_is_exact.ensures.good _ _ _ _ _ _ _ _ _ _ _ _ c.in-Ok.ensures.end c.in-Ok.ensures.run c.write_run.ensures.file
