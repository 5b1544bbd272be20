use Rattle.std.proofs.Common.{◌∷◌, [], subst}
use Rattle.ft_items.specs.Texts.{number, PartsFit}
use Rattle.ft_common.proofs.Results.{ok_any}
use Rattle.ft_export.proofs.Numbers.{moved_fits}
use Rattle.ft_export.proofs.steps.push_moved.Goals as goal

pub returns-clause-fits : goal.returns-clause-fits
returns-clause-fits c =
    ok_any c.push_number.result (moved_fits c.args.a c.args.ps.now c.args.es.now c.args.q c.in_ok-push_lists.ensures.fits
    (subst (λ q. PartsFit (number q ∷ [])) c.number.ensures c.push_number.ensures.fits))
