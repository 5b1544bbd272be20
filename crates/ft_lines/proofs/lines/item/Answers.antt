use Rattle.ft_lines.specs.Lines.{declared, item}
use Rattle.ft_lines.proofs.FirstLetters.{reads_same, chosen_declared}
use Rattle.ft_lines.proofs.lines.item.Goals as goal

pub returns-else-sees-2-clause-reads : goal.returns-else-sees-2-clause-reads
returns-else-sees-2-clause-reads c =
    let cs = c.args.text.now in
    reads_same (item cs) (declared cs) c.args.terms.now c.declared.result c.declared.new.text
    (chosen_declared c.sees.result c.sees-else-sees.result cs c.sees.ensures c.if-sees.false c.sees-else-sees.ensures c.if-sees-2.false) (c.declared.ensures c.args.terms.now)
