-- By computation.
use Rattle.std.proofs.Common.{refl}
use Rattle.ft_meaning.specs.Sources.{source_tokens}
use Rattle.ft_meaning.specs.Sources as source
use Rattle.ft_meaning.specs.Stages.{all_built}
use Rattle.ft_meaning.specs.Transcript.{transcript_of}
use Rattle.ft_meaning_rows.specs.Written.{lines, plenty, Holds, AllHold}
use Rattle.ft_meaning_rows.specs.Deep as row
use Rattle.ft_meaning_rows.proofs.Reader.{commands_in}
use Rattle.ft_meaning_rows.proofs.Running.{has_commands, holds, running}

deep : Holds row.deep
unfolding running
deep = holds row.deep refl

too_deep : Holds row.too_deep
unfolding running
too_deep = holds row.too_deep refl

pub deepest : row.ShowsDeepest
unfolding running
deepest =
    let content : source.Content = source.commands (commands_in (source_tokens (lines row.deepest))) in
    (transcript_of all_built (lines row.deepest) plenty content, (content, has_commands (lines row.deepest) refl refl refl, refl), refl, refl)

pub each_holds : AllHold row.depth
each_holds = (deep, (too_deep, tt))
