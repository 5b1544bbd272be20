use Rattle.ft_telling.proofs.WordsTold.{trans_tells, widen_tells, convert_equation_tells, convert_tells}
use Rattle.ft_telling.proofs.laws.pair_words_tell.Goals as goal

pub returns : goal.returns
returns c = record { trans = trans_tells; widen = widen_tells; convert_equation = convert_equation_tells; convert = convert_tells }
