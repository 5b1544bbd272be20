use Rattle.std.proofs.Common.{◌≡◌, drop}
use Rattle.ft_run.specs.Given.{fits_goals}
use Rattle.ft_run.proofs.given.all_fit.Given as goal

abbrev pub invariant-loop-i : goal.invariant-loop-i
invariant-loop-i l = fits_goals l.fn.terms l.fn.goals l.fn.given ≡ fits_goals l.terms (drop l.i l.goals) (drop l.i l.given)
