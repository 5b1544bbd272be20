use Rattle.ft_lines.specs.Lines.{variable, metavariable, rule, mark, declared}
use Rattle.ft_lines.proofs.FirstLetters.{reads_same, chosen_variable, chosen_metavariable, chosen_rule, chosen_mark}
use Rattle.ft_lines.proofs.lines.declared.Goals as goal

pub returns-then-sees : goal.returns-then-sees
returns-then-sees c = λ ts.
    let cs = c.args.text.now in
    reads_same (declared cs) (variable cs) ts c.variable.result c.variable.new.text (chosen_variable c.sees.result cs c.sees.ensures c.if-sees.true) (c.variable.ensures ts)

pub returns-then-sees-2 : goal.returns-then-sees-2
returns-then-sees-2 c = λ ts.
    let cs = c.args.text.now in
    reads_same (declared cs) (metavariable cs) ts c.metavariable.result c.metavariable.new.text
    (chosen_metavariable c.sees.result c.sees-else-sees.result cs c.sees.ensures c.if-sees.false c.sees-else-sees.ensures c.if-sees-2.true) (c.metavariable.ensures ts)

pub returns-then-sees-3 : goal.returns-then-sees-3
returns-then-sees-3 c = λ ts.
    let cs = c.args.text.now in
    reads_same (declared cs) (rule cs) ts c.rule.result c.rule.new.text
    (chosen_rule c.sees.result c.sees-else-sees.result c.sees-else-sees-2.result cs c.sees.ensures c.if-sees.false c.sees-else-sees.ensures c.if-sees-2.false c.sees-else-sees-2.ensures c.if-sees-3.true)
    (c.rule.ensures ts)

pub returns-else-sees-3 : goal.returns-else-sees-3
returns-else-sees-3 c = λ ts.
    let cs = c.args.text.now in
    reads_same (declared cs) (mark cs) ts c.mark.result c.mark.new.text
    (chosen_mark c.sees.result c.sees-else-sees.result c.sees-else-sees-2.result cs c.sees.ensures c.if-sees.false c.sees-else-sees.ensures c.if-sees-2.false c.sees-else-sees-2.ensures c.if-sees-3.false)
    (c.mark.ensures ts)
