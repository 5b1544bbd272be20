use Rattle.ft_top.proofs.Bridge.{one_verdict}
use Rattle.ft_top.proofs.laws.one_verdict.Goals as goal

pub returns : goal.returns
returns c = record { law = one_verdict c.names_are_visible.ensures c.at_most_one_list.ensures.law c.text_has_no_fault.ensures.law c.at_most_one_fault.ensures.law }
