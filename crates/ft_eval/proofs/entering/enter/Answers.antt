use Rattle.std.proofs.Common.{◌∙◌, ap, sym}
use Rattle.ft_meaning.specs.Trees.{form}
use Rattle.ft_meaning.specs.Values.{spend}
use Rattle.ft_running.specs.Evaluation.{run_of, environment_of}
use Rattle.ft_running.proofs.Further.{environment_further, further_both}
use Rattle.ft_eval.proofs.Entered.{entered}
use Rattle.ft_eval.proofs.entering.enter.Goals as goal

pub returns-in-Ok-clause-turns : goal.returns-in-Ok-clause-turns
returns-in-Ok-clause-turns c =
    entered c.args.state.now c.spend.new.self c.begin.new.state (form c.args.e.now)
    (environment_of c.args.state.now c.args.scope) (environment_of c.spend.new.self c.args.scope) c.begin.result
    (ap (λ at. spend at (run_of c.args.state.now)) (sym c.place_of.ensures) ∙ c.in-Ok.ensures.tells)
    (environment_further c.args.state.now c.spend.new.self c.args.scope c.holds.ensures c.spend.ensures.further c.requires.scope)
    c.begin.ensures.turns

pub returns-in-Ok-clause-further : goal.returns-in-Ok-clause-further
returns-in-Ok-clause-further c =
    further_both c.args.state.now c.spend.new.self c.begin.new.state c.spend.ensures.further c.begin.ensures.further
