use Rattle.std.proofs.Common.{sym, subst, take}
use Rattle.ft_kernel.specs.State.{IsThesisOf}
use Rattle.ft_running.specs.Evaluation.{Evaluation}
use Rattle.ft_commands.proofs.Marks.{thesis_at, thesis_marked}
use Rattle.ft_commands.proofs.marking.mark_all.Goals as goal

pub mark_one-requires : goal.mark_one-requires
mark_one-requires c =
    let S = c.args.state.now in
    let j = c.j-item.result in
    subst (λ (e : Evaluation). IsThesisOf e.list j) (sym c.loop-j.invariant)
    (thesis_marked (take c.loop-j.j-index c.args.js.now) S j
    (subst (λ n. IsThesisOf S.list n) (sym c.j-item.is) (thesis_at S.list c.args.js.now c.loop-j.j-index j c.requires c.loop-j-test.true)))
