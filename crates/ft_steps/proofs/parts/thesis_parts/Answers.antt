use Rattle.ft_steps.proofs.Stating.{parts_below}
use Rattle.ft_steps.proofs.parts.thesis_parts.Goals as goal

pub returns-clause-below : goal.returns-clause-below
returns-clause-below c = λ n h. parts_below n c.items.result.now c.args.x.now.domains c.form_claim.result c.items.ensures h.0 (c.form_claim.ensures.below n h.1)
