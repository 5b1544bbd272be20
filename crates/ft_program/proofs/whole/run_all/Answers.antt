use Rattle.std.proofs.Common.{subst, [], map, Ok}
use Rattle.ft_meaning.specs.Trees.{command_of}
use Rattle.ft_meaning.specs.Typing.{first_scope}
use Rattle.ft_meaning.specs.Transcript.{transcript_from, start}
use Rattle.ft_program.specs.Running.{StepsFrom, ahead}
use Rattle.ft_program.proofs.Wholes.{goes_first, goes_step}
use Rattle.ft_program.proofs.whole.run_all.Goals as goal

pub running-init : goal.running-init
running-init c =
    goes_first c.args.source.now (transcript_from c.args.source.now (map command_of c.args.commands.items) first_scope [] (start c.args.budget)) c.new-text.result c.in_ok-run.run'
    c.in_ok-run.ensures.ready (c.in_ok-run.ensures.ahead c.args.source.now) c.new-text.ensures

pub running-preserved : goal.running-preserved
running-preserved c =
    goes_step c.args.source.now (transcript_from c.args.source.now (map command_of c.args.commands.items) first_scope [] (start c.args.budget)) c.running.text c.append.new.text c.in-Lines.lines
    c.running.run c.next.new.self c.running.invariant
    (subst (λ s. StepsFrom c.args.source.now (ahead c.args.source.now c.running.run) c.running.run.state.list (Ok s) c.next.new.self) c.in-Lines.is c.in_ok-lines.ensures.steps)
    c.in_ok-append-in-Lines.ensures
