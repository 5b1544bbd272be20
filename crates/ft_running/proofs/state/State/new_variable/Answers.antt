use Rattle.std.proofs.Common.{arith, subst}
use Rattle.ft_running.specs.Evaluation.{Evaluation, GoesFurther}
use Rattle.ft_running.proofs.Further.{list_evaluation}
use Rattle.ft_running.proofs.Called.{variables_are, declared_further}
use Rattle.ft_running.proofs.state.State.new_variable.Goals as goal

pub invariant_of-self : goal.invariant_of-self
invariant_of-self c =
    list_evaluation (record { list = c.self.inside.kernel; values = c.self.inside.values; scopes = c.self.inside.scopes; top = c.self.inside.top; units = c.self.inside.units }) c.new_variable-answer.new.k c.new_variable-answer.new.units c.self.invariant
    (c.new_variable-answer.ensures.told.goes_on.0, c.new_variable-answer.ensures.told.goes_on.1) c.new_variable-answer.ensures.told.below
    (omega (arith, c.used-used.ensures.value, c.used-used.ensures.within))

pub declared-requires : goal.declared-requires
declared-requires c =
    variables_are (record { list = c.new_variable-answer.new.k; values = c.self.inside.values; scopes = c.self.inside.scopes; top = c.self.inside.top; units = c.new_variable-answer.new.units })
    c.new_variable-answer.result c.len-items.ensures.good c.new_variable-answer.ensures.told.kind

pub returns-clause-further : goal.returns-clause-further
returns-clause-further c =
    subst (λ (e : Evaluation). GoesFurther e c.declared.new.self) c.self.view_is
    (declared_further (record { list = c.self.inside.kernel; values = c.self.inside.values; scopes = c.self.inside.scopes; top = c.self.inside.top; units = c.self.inside.units }) c.declared.new.self c.new_variable-answer.new.k c.new_variable-answer.new.units
    c.new_variable-answer.ensures.told.goes_on c.new_variable-answer.ensures.more c.new_variable-answer.ensures.total c.declared.ensures.further)
