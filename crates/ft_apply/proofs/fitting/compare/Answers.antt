use Rattle.ft_apply.proofs.Comparing.{fit_tested}
use Rattle.ft_apply.proofs.fitting.compare.Goals as goal

pub returns : goal.returns
returns c = fit_tested c.args.t.now c.args.x.now c.args.b.now c.fits.result c.requires.thesis c.requires.boundary c.fits.ensures.form c.fits.ensures.first
