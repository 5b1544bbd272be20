use Rattle.std.proofs.Common.{◌≡◌, ◌++◌}
use Rattle.ft_meaning.specs.Texts.{binders_text}
use Rattle.ft_print.proofs.expressions.push_binders.Given as goal

abbrev pub invariant-loop-i : goal.invariant-loop-i
invariant-loop-i l = l.out ≡ l.fn.out ++ binders_text l.n l.i
