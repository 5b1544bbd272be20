use Rattle.ft_lines.proofs.Reading.{thesis_read}
use Rattle.ft_lines.proofs.statements.thesis.Goals as goal

pub returns-clause-reads : goal.returns-clause-reads
returns-clause-reads c =
    thesis_read c.domains.new.terms c.form.new.terms c.in_ok-domains.domains c.in_ok-form.form c.args.text.now c.domains.new.text c.form.new.text
    c.in_ok-form.ensures.goes_on c.in_ok-domains.ensures.reads c.in_ok-form.ensures.reads
