use Rattle.ft_answers.specs.declared.words.Job.TheVariants as job
use Rattle.ft_top.proofs.Going.{finished, begins_check}
use Rattle.ft_top.proofs.checking.check.Goals as goal

pub returns-in-Ok-clause-called : goal.returns-in-Ok-clause-called
returns-in-Ok-clause-called g c =
    finished job.Check _ _ _ _ _ _ _ _ _ _ _ _ (begins_check _ _) c.in-Ok.ensures.status c.in-Ok.ensures.end c.in-Ok.ensures.text c.bytes.ensures c.finish.ensures.ended
