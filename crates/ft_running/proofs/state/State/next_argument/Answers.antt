use Rattle.ft_running.proofs.Further.{thesis_further, further_both}
use Rattle.ft_running.proofs.state.State.next_argument.Goals as goal

pub fitted-requires-clause-judgement : goal.fitted-requires-clause-judgement
fitted-requires-clause-judgement c =
    thesis_further c.args.self.now c.next_boundary.new.self c.in-Some.j c.next_boundary.ensures.further c.in-Some.ensures.thesis

pub returns-in-Ok-clause-further : goal.returns-in-Ok-clause-further
returns-in-Ok-clause-further c =
    further_both c.args.self.now c.next_boundary.new.self c.fitted.new.self c.next_boundary.ensures.further c.fitted.ensures.further
