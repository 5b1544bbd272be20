use Rattle.std.proofs.Common.{subst}
use Rattle.ft_running.specs.Evaluation.{Evaluation, GoesFurther, with_list}
use Rattle.ft_running.proofs.Called.{leaves_evaluation, leaves_goes}
use Rattle.ft_running.proofs.Further.{further_both}
use Rattle.ft_drafting.proofs.binding.generic.Goals as goal

pub invariant_of-state : goal.invariant_of-state
invariant_of-state c = leaves_evaluation (record { list = c.state.inside.kernel; values = c.state.inside.values; scopes = c.state.inside.scopes; top = c.state.inside.top; units = c.state.inside.units }) c.generic-answer.new.k c.state.invariant c.generic-answer.ensures.told.leaves

pub returns-clause-further : goal.returns-clause-further
returns-clause-further c =
    let e : Evaluation = record { list = c.state.inside.kernel; values = c.state.inside.values; scopes = c.state.inside.scopes; top = c.state.inside.top; units = c.state.inside.units } in
    let t = c.generic-answer.new.k in
    subst (λ (e : Evaluation). GoesFurther e c.concluded.new.state) c.state.view_is
    (further_both e (with_list t e) c.concluded.new.state (leaves_goes e t c.generic-answer.ensures.told.leaves) c.concluded.ensures.further)
