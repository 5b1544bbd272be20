use Rattle.std.proofs.Common.{refl}
use Rattle.ft_rules.proofs.Finishing.{stays_finitary}
use Rattle.ft_rules.proofs.drafts.Draft.finish.Goals as goal

pub returns-in-Err-clause-finitary : goal.returns-in-Err-clause-finitary
returns-in-Err-clause-finitary c = stays_finitary c.args.k.now c.args.k.now c.terms-terms.ensures.good refl
