use Rattle.std.proofs.Common.{subst}
use Rattle.ft_items.specs.Texts.{PartsFit}
use Rattle.ft_export.specs.Parts.{numbers}
use Rattle.std.proofs.lemmas.Result.{on_ok_weaker}
use Rattle.ft_export.proofs.steps.push_applied.Goals as goal

pub returns-clause-fits : goal.returns-clause-fits
returns-clause-fits c = on_ok_weaker c.push_numbers.result (λ h. (c.push_two.ensures.fits.0, (c.push_two.ensures.fits.1.0, subst (λ ns. PartsFit (numbers ns)) c.items.ensures h))) c.push_numbers.ensures.fits
