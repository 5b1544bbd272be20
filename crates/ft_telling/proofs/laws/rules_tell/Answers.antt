use Rattle.ft_telling.proofs.RulesTold.{conclusion_tells, premise_tells}
use Rattle.ft_telling.proofs.laws.rules_tell.Goals as goal

pub returns : goal.returns
returns c = record { conclusion = conclusion_tells; premise = premise_tells }
