use Rattle.ft_telling.proofs.Calls.{goes_on}
use Rattle.ft_telling.proofs.Variables.{declared_goes_on}
use Rattle.ft_telling.proofs.laws.list_goes_on.Goals as goal

pub returns : goal.returns
returns c = record { calls = goes_on; declarations = declared_goes_on }
