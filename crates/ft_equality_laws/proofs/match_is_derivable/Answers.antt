use Rattle.ft_equality_laws.proofs.GoodLists as proved
use Rattle.ft_equality_laws.proofs.match_is_derivable.Goals as goal

pub returns : goal.returns
returns c = record { types = proved.matched_types_are_derivable; terms = proved.matched_terms_are_derivable }
