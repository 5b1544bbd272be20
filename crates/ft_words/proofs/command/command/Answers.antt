use Rattle.std.proofs.Common.{◌∙◌, ap, ap₂}
use Rattle.std.proofs.lemmas.Result.{IfOk-weaker}
use Rattle.clap.specs.Words.{App, with_subcommand}
use Rattle.ft_words.proofs.command.command.Goals as goal

pub returns : goal.returns
returns c =
    let top = λ (a : App). a.top in
    let one = c.in_ok-subcommand.ensures.shape c.in_ok-budgeted.ensures.local
    ∙ ap₂ with_subcommand c.without_words.ensures.app (ap top c.in_ok-budgeted.ensures.app) in
    let two = c.in_ok-subcommand-2.ensures.shape c.in_ok-budgeted-2.ensures.local
    ∙ ap₂ with_subcommand one (ap top c.in_ok-budgeted-2.ensures.app) in
    IfOk-weaker c.subcommand-3.result _ _ (λ r h. h.shape c.in_ok-checking.ensures.local
    ∙ ap₂ with_subcommand two (ap top c.in_ok-checking.ensures.app)) c.subcommand-3.ensures
