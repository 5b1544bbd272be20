use Rattle.ft_values.proofs.Layers.{names_stay, scope_stays}
use Rattle.ft_values.proofs.laws.scopes_stay.Goals as goal

pub returns : goal.returns
returns c = record { names = names_stay; scope = scope_stays }
