use Rattle.ft_drafting.proofs.Drafted.{premise_evaluation}
use Rattle.ft_drafting.proofs.drafting.add_premise.Goals as goal

pub invariant_of-state : goal.invariant_of-state
invariant_of-state c = premise_evaluation (record { list = c.state.inside.kernel; values = c.state.inside.values; scopes = c.state.inside.scopes; top = c.state.inside.top; units = c.state.inside.units }) c.premise-answer.new.k c.args.draft.now c.premise-answer.new.self c.args.name.now c.args.b c.premise-answer.result c.state.invariant c.premise-answer.ensures.premise
