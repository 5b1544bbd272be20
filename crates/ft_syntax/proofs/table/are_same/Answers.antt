use Rattle.std.proofs.lemmas.Slice.Eq.{slice_eq-Decides}
use Rattle.ft_syntax.proofs.Sameness.{decides}
use Rattle.ft_syntax.proofs.table.are_same.Goals as goal

pub returns : goal.returns
returns c = slice_eq-Decides decides c.args.x.now c.args.y.now c.eq.result c.eq.ensures
