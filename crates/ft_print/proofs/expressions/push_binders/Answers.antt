use Rattle.std.proofs.Common.{◌∙◌, ap, ℕ, suc, ◌+◌, ◌++◌, codes, decimal, add-one}
use Rattle.ft_meaning.specs.Texts.{binders_text}
use Rattle.ft_print.proofs.Joining.{written_next}
use Rattle.ft_print.proofs.ByArguments.{binders_next}
use Rattle.ft_print.proofs.expressions.push_binders.Goals as goal

pub loop-i-preserved : goal.loop-i-preserved
loop-i-preserved c =
    let n = c.args.n in
    let i : ℕ = c.loop-i.i in
    rw add-one (written_next c.args.out.now (binders_text n i) (codes "{@" ++ decimal (n + i) ++ codes "} ") c.loop-i.out c.push_binder.new.out (binders_text n (suc i)) (binders_next n i) c.loop-i.invariant
    (c.in_ok-push_binder.ensures.ok ∙ ap (λ m. c.loop-i.out ++ (codes "{@" ++ decimal (n + m) ++ codes "} ")) c.from.ensures))
