use Rattle.ft_whole_laws.proofs.Checked.{checks}
use Rattle.ft_whole_laws.proofs.checks_follow.Goals as goal

pub returns : goal.returns
returns c = record { law = checks c.accepted_derivable.ensures.law }
