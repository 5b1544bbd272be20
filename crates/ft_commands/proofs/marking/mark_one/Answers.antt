use Rattle.std.proofs.Common.{sym, subst}
use Rattle.ft_kernel.specs.State.{IsThesisOf}
use Rattle.ft_calls.proofs.Answering.{entry_in}
use Rattle.ft_running.specs.Evaluation.{Evaluation}
use Rattle.ft_commands.proofs.Marks.{mark_leaves}
use Rattle.ft_commands.proofs.marking.mark_one.Goals as goal

pub push_shown-requires : goal.push_shown-requires
push_shown-requires c =
    let t : IsThesisOf c.state.inside.kernel c.args.j = subst (λ (e : Evaluation). IsThesisOf e.list c.args.j) (sym c.state.view_is) c.requires in
    (t.0, entry_in c.state.inside.kernel c.args.j t.0 t.1, t.2)

pub invariant_of-state : goal.invariant_of-state
invariant_of-state c =
    mark_leaves (record { list = c.state.inside.kernel; values = c.state.inside.values; scopes = c.state.inside.scopes; top = c.state.inside.top; units = c.state.inside.units })
    c.push_shown.new.self c.args.j c.push_shown.result c.state.invariant c.push_shown.ensures.list c.push_shown.ensures.err
