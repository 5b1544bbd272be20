use Rattle.std.proofs.Common.{◌∙◌, ap, sym}
use Rattle.ft_applications_meaning.specs.declared.syntax.Command.TheVariants as command
use Rattle.ft_run.proofs.Lines.{rule_was_run}
use Rattle.ft_run.proofs.session.Session.command.Goals as goal

pub returns-in-Rule-clause-was : goal.returns-in-Rule-clause-was
returns-in-Rule-clause-was c =
    rule_was_run c.rule_command.result c.args.self.now c.rule_command.new.self c.args.out.now c.rule_command.new.out c.args.command.now c.in-Rule.name c.as_slice.result.now c.in-Rule.conclusion
    (c.in-Rule.is ∙ ap (λ ps. command.Rule c.in-Rule.name ps c.in-Rule.conclusion) (sym c.as_slice.ensures)) c.rule_command.ensures.was
