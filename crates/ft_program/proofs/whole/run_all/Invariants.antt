use Rattle.std.proofs.Common.{length, map, []}
use Rattle.ft_meaning.specs.Trees.{command_of}
use Rattle.ft_meaning.specs.Typing.{first_scope}
use Rattle.ft_meaning.specs.Transcript.{transcript_from, start}
use Rattle.ft_program.proofs.Wholes.{Goes}
use Rattle.ft_program.proofs.whole.run_all.Given as goal

-- what was written and what is still to come are the transcript of the commands
abbrev pub invariant-running : goal.invariant-running
invariant-running l =
    Goes l.fn.source (transcript_from l.fn.source (map command_of l.fn.commands.items) first_scope [] (start l.fn.budget)) l.text l.run

abbrev pub decreases-running : goal.decreases-running
decreases-running l = length l.run.rest.items
