use Rattle.ft_lines.proofs.Reading.{boundary_read}
use Rattle.ft_lines.proofs.statements.boundary.Goals as goal

pub returns-clause-reads : goal.returns-clause-reads
returns-clause-reads c =
    boundary_read c.domains.new.terms c.goal.new.terms c.in_ok-domains.domains c.in_ok-goal.goal c.args.text.now c.domains.new.text c.goal.new.text
    c.in_ok-goal.ensures.goes_on c.in_ok-domains.ensures.reads c.in_ok-goal.ensures.reads
