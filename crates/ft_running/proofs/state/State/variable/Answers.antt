use Rattle.std.proofs.Common.{subst}
use Rattle.ft_running.specs.Evaluation.{Evaluation, GoesFurther}
use Rattle.ft_running.proofs.Called.{leaves_evaluation, leaves_further}
use Rattle.ft_running.proofs.state.State.variable.Goals as goal

pub invariant_of-self : goal.invariant_of-self
invariant_of-self c = leaves_evaluation (record { list = c.self.inside.kernel; values = c.self.inside.values; scopes = c.self.inside.scopes; top = c.self.inside.top; units = c.self.inside.units }) c.variable-answer.new.k c.self.invariant c.variable-answer.ensures.told.leaves

pub returns-clause-further : goal.returns-clause-further
returns-clause-further c =
    subst (λ (e : Evaluation). GoesFurther e c.entry.new.self) c.self.view_is
    (leaves_further (record { list = c.self.inside.kernel; values = c.self.inside.values; scopes = c.self.inside.scopes; top = c.self.inside.top; units = c.self.inside.units }) c.entry.new.self
    c.variable-answer.new.k c.variable-answer.ensures.told.leaves c.entry.ensures.further)
