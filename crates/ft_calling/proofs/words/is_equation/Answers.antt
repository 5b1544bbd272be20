use Rattle.std.proofs.Common.{◌∙◌, ap, sym, length}
use Rattle.ft_calling.proofs.Fitting.{no_plain_equation}
use Rattle.ft_calling.proofs.words.is_equation.Goals as goal

pub returns-else-is_empty : goal.returns-else-is_empty
returns-else-is_empty c =
    c.if-is_empty.false
    ∙ sym (no_plain_equation c.args.k.now c.args.j c.thesis_of-thesis.result.now c.requires c.thesis_of-thesis.ensures.thesis
    (ap length c.items.ensures) (sym c.is_empty.ensures ∙ c.if-is_empty.false))
