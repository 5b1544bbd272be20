use Rattle.ft_running.specs.Evaluation.{value_over}
use Rattle.ft_running.proofs.AtPairs.{filled_ends}
use Rattle.ft_running.proofs.state.State.fill.Goals as goal

pub returns-in-Err-clause-tells : goal.returns-in-Err-clause-tells
returns-in-Err-clause-tells c =
    filled_ends c.args.self.now c.fitted.new.self c.args.at c.args.second c.in-Some-judgement.j c.in-Some.b (value_over c.args.self.now c.args.v) (value_over c.args.self.now c.args.w) c.in-Err.end
    c.in-Some.ensures.means c.in-Some-judgement.ensures.means c.in-Err.ensures.tells
