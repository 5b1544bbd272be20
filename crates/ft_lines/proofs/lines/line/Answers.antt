use Rattle.ft_lines.proofs.ItemTexts.{line_some, line_none}
use Rattle.ft_lines.proofs.lines.line.Goals as goal

pub returns-clause-item : goal.returns-clause-item
returns-clause-item c = line_some c.whole.new.terms c.new-text.result c.args.bytes.now c.whole.new.text c.whole.result c.new-text.ensures c.whole.ensures.reads

pub returns-clause-form : goal.returns-clause-form
returns-clause-form c = line_none c.whole.new.terms c.new-text.result c.args.bytes.now c.whole.new.text c.whole.result c.new-text.ensures c.whole.ensures.reads
