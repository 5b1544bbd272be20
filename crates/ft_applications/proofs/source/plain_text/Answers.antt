use Rattle.std.proofs.Common.{◌∙◌, sym}
use Rattle.ft_applications.proofs.Plain.{plain_utf8}
use Rattle.ft_applications.proofs.source.plain_text.Goals as goal

pub returns-in-Err-clause-none : goal.returns-in-Err-clause-none
returns-in-Err-clause-none c = absurd (c.in-Err.ensures.cases.0 (plain_utf8 c.args.bytes.now (sym c.are_plain.ensures ∙ c.if-not-are_plain.false)))
