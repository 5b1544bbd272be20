use Rattle.ft_laws.proofs.NotDerivable.{nought_is_no_type, nought_is_not_in_nought}
use Rattle.ft_laws.proofs.example_ill_typed.Goals as goal

pub returns : goal.returns
returns c = record { no_type = nought_is_no_type; not_in_itself = nought_is_not_in_nought }
