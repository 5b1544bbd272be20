use Rattle.ft_stages_laws.proofs.Asking.{form_asks, command_asks, source_asks}
use Rattle.ft_stages_laws.proofs.built_asks_nothing.Goals as goal

pub returns : goal.returns
returns c = record { form = form_asks; command = command_asks; source = source_asks }
