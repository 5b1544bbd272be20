use Rattle.ft_lines.proofs.StepTexts.{step_back, step_is}
use Rattle.ft_lines.proofs.laws.steps.Goals as goal

pub returns-clause-complete : goal.returns-clause-complete
returns-clause-complete c = step_back

pub returns-clause-sound : goal.returns-clause-sound
returns-clause-sound c = step_is
