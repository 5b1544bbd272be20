use Rattle.std.proofs.Common.{map, sym, subst}
use Rattle.ft_meaning.specs.Trees.{command_of, premise, rule_command}
use Rattle.ft_meaning.specs.Commands.{done}
use Rattle.ft_running.specs.Evaluation.{run_of}
use Rattle.ft_commands.specs.Parts.{conclusion_of, conclusion_place}
use Rattle.ft_commands.specs.Doing.{named_in, TellsDoing}
use Rattle.ft_commands.proofs.Doing.{rule_is_done}
use Rattle.ft_commands.proofs.running.perform.Goals as goal

pub returns-in-Rule-clause-tells : goal.returns-in-Rule-clause-tells
returns-in-Rule-clause-tells c =
    subst (λ x. TellsDoing (done (command_of x) (named_in c.args.state.now) (run_of c.args.state.now)) c.args.state.now c.accept.result c.accept.new.state) (sym c.in-Rule.is)
    (rule_is_done c.args.state.now c.accept.new.state c.in-Rule.field-0 c.in-Rule.name (map premise c.in-Rule.premises) c.in-Rule.conclusion c.accept.result
    (subst (λ (ps : _). (at : _) → TellsDoing (done (rule_command at c.in-Rule.name (map premise ps) (conclusion_place c.in-Rule.conclusion) (conclusion_of c.in-Rule.conclusion)) (named_in c.args.state.now) (run_of c.args.state.now)) c.args.state.now c.accept.result c.accept.new.state)
    c.as_slice.ensures c.accept.ensures.tells))

pub returns-in-Let-clause-tells : goal.returns-in-Let-clause-tells
returns-in-Let-clause-tells c =
    subst (λ x. TellsDoing (done (command_of x) (named_in c.args.state.now) (run_of c.args.state.now)) c.args.state.now c.name_value.result c.name_value.new.state) (sym c.in-Let.is)
    (c.name_value.ensures.tells c.in-Let.field-0)

pub returns-in-Show-clause-tells : goal.returns-in-Show-clause-tells
returns-in-Show-clause-tells c =
    subst (λ x. TellsDoing (done (command_of x) (named_in c.args.state.now) (run_of c.args.state.now)) c.args.state.now c.show.result c.show.new.state) (sym c.in-Show.is)
    (c.show.ensures.tells c.in-Show.field-0)
