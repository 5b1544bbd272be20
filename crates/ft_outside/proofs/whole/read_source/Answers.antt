use Rattle.std.proofs.Common.{rules}
use Rattle.ft_outside.proofs.Pieces.{gives_at_most, on_err-gives}
use Rattle.ft_outside.proofs.whole.read_source.Goals as goal

pub returns-then-n-max-clause-front : goal.returns-then-n-max-clause-front
returns-then-n-max-clause-front g c =
    gives_at_most _ _ _ _ _ _ _ c.reading.invariant.bytes c.in_ok-n.ensures.bytes (search rules)

pub returns-in_err-extend_from_slice-clause-front : goal.returns-in_err-extend_from_slice-clause-front
returns-in_err-extend_from_slice-clause-front g c =
    on_err-gives _ _ _ _ _ _ _ _ c.reading.invariant.bytes c.in_ok-n.ensures.bytes (search rules)
