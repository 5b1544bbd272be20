use Rattle.ft_values.proofs.Staying.{value_stays, over_stays, rows_stay}
use Rattle.ft_values.proofs.laws.values_stay.Goals as goal

pub returns : goal.returns
returns c = record { items = value_stays; over = over_stays; rows = rows_stay }
