use Rattle.ft_lines.proofs.NameTexts.{named_text, no_text}
use Rattle.ft_lines.proofs.cursor.name_in.Goals as goal

pub returns-in-Ok : goal.returns-in-Ok
returns-in-Ok c = named_text c.args.bytes.now c.in-Ok.text.now c.new.result c.in-Ok.ensures.cases c.new.ensures

pub returns-in-Err : goal.returns-in-Err
returns-in-Err c = no_text c.args.bytes.now c.in-Err.ensures.cases.0
