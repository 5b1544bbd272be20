use Rattle.ft_syntax.specs.Table.{tree}
use Rattle.ft_steps.specs.Moving.{moved}
use Rattle.ft_steps.proofs.Moves.{formed_same}
use Rattle.ft_steps.proofs.moving.is_moved.Goals as goal

pub returns-in_ok-copied-in-Ok : goal.returns-in_ok-copied-in-Ok
returns-in_ok-copied-in-Ok c =
    let T = c.args.terms.now in
    formed_same c.form.new.own c.copy_from.new.self c.in-Ok.formed c.in_ok-copied-in-Ok.copied (moved T c.args.work.now c.args.under (tree T c.args.e)) (tree T c.args.found) c.equal_expr.result
    c.in-Ok.ensures.within c.in-Ok.ensures.tree c.in_ok-copied-in-Ok.ensures.goes_on c.in_ok-copied-in-Ok.ensures.tree c.equal_expr.ensures
