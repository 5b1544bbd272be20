use Rattle.ft_telling.proofs.WordsTold.{refl_tells, sym_tells, left_tells, right_tells, typeof_tells, domain_tells, boundaryof_tells}
use Rattle.ft_telling.proofs.laws.words_tell.Goals as goal

pub returns : goal.returns
returns c = record { refl = refl_tells; sym = sym_tells; left = left_tells; right = right_tells; type_of = typeof_tells; domain = domain_tells; boundaryof = boundaryof_tells }
