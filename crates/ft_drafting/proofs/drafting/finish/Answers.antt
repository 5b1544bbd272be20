use Rattle.ft_drafting.proofs.Drafted.{rule_evaluation}
use Rattle.ft_drafting.proofs.drafting.finish.Goals as goal

pub invariant_of-state : goal.invariant_of-state
invariant_of-state c = rule_evaluation (record { list = c.state.inside.kernel; values = c.state.inside.values; scopes = c.state.inside.scopes; top = c.state.inside.top; units = c.state.inside.units }) c.finish-answer.new.k c.args.draft.now c.args.conclusion c.finish-answer.result c.state.invariant c.finish-answer.ensures.finishes
