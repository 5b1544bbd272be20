use Rattle.ft_top.proofs.Bridge.{headline}
use Rattle.ft_top.proofs.laws.headline.Goals as goal

pub returns : goal.returns
returns c = record { law = headline c.at_most_one_tree.ensures.law c.verdict_is_exact.ensures.good c.entries_derivable.ensures.law }
