use Rattle.std.proofs.Common.{map}
use Rattle.ft_meaning.specs.Trees.{premise, rule_command}
use Rattle.ft_meaning.specs.Commands.{done}
use Rattle.ft_running.specs.Evaluation.{run_of}
use Rattle.ft_commands.specs.Doing.{named_in}
use Rattle.ft_commands.specs.Parts.{conclusion_of, conclusion_place}
use Rattle.ft_commands.proofs.Doing.{accepted, rule_stops, memory_stops}
use Rattle.ft_commands.proofs.running.accept.Goals as goal

pub returns-in-Err-clause-tells : goal.returns-in-Err-clause-tells
returns-in-Err-clause-tells c = λ at.
    memory_stops (done (rule_command at c.args.name.now (map premise c.args.premises.now) (conclusion_place c.args.conclusion.now) (conclusion_of c.args.conclusion.now)) (named_in c.args.state.now) (run_of c.args.state.now))
    c.args.state.now c.args.state.now c.from.result c.from.ensures

pub returns-in-Ok-declare_rule-clause-tells : goal.returns-in-Ok-declare_rule-clause-tells
returns-in-Ok-declare_rule-clause-tells c = λ at.
    accepted c.args.state.now c.declare_rule.new.state at (conclusion_place c.args.conclusion.now) c.args.name.now (map premise c.args.premises.now) (conclusion_of c.args.conclusion.now)
    c.in-Ok.accepted c.in-Ok.ensures c.in-Ok-declare_rule.ensures.tells

pub returns-in-Err-declare_rule-clause-tells : goal.returns-in-Err-declare_rule-clause-tells
returns-in-Err-declare_rule-clause-tells c = λ at.
    rule_stops c.args.state.now c.declare_rule.new.state at (conclusion_place c.args.conclusion.now) c.args.name.now (map premise c.args.premises.now) (conclusion_of c.args.conclusion.now)
    c.in-Err-declare_rule.stop c.in-Err-declare_rule.ensures.tells
