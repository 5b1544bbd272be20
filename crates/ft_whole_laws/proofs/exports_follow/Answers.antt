use Rattle.ft_whole_laws.proofs.Exported.{exports}
use Rattle.ft_whole_laws.proofs.exports_follow.Goals as goal

pub returns : goal.returns
returns c = record { law = exports c.verdict_is_exact.ensures.good }
