use Rattle.ft_telling.proofs.WordsTold.{boundary_left_tells, boundary_right_tells, boundary_typeof_tells, boundary_domain_tells}
use Rattle.ft_telling.proofs.laws.boundary_words_tell.Goals as goal

pub returns : goal.returns
returns c = record { left = boundary_left_tells; right = boundary_right_tells; type_of = boundary_typeof_tells; domain = boundary_domain_tells }
