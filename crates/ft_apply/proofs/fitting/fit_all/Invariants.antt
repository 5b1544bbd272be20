use Rattle.ft_apply.proofs.Asking.{Fitting}
use Rattle.ft_apply.proofs.fitting.fit_all.Given as goal

abbrev pub invariant-loop-n : goal.invariant-loop-n
invariant-loop-n l = Fitting l.fn.k l.k l.i.pairs l.premises l.args l.n
