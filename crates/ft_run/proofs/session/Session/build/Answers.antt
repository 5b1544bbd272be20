use Rattle.std.proofs.Common.{◌∙◌, ap, sym}
use Rattle.ft_applications_meaning.specs.declared.syntax.Command.TheVariants as command
use Rattle.ft_run.proofs.Lines.{counted_kept, rule_built, show_built}
use Rattle.ft_run.proofs.session.Session.build.Goals as goal

pub returns-in_ok-_form-in-Show-clause-done : goal.returns-in_ok-_form-in-Show-clause-done
returns-in_ok-_form-in-Show-clause-done c =
    show_built c.args.self.now.rules c.claim.new.self.rules c.args.command.now c.in-Show.a _ c.in-Show.is c.in_ok-_form-in-Show.ensures.claim c.claim.ensures.keeps.rules

pub returns-in_ok-_form-in-Show-clause-counted : goal.returns-in_ok-_form-in-Show-clause-counted
returns-in_ok-_form-in-Show-clause-counted c = counted_kept c.args.self.now c.claim.new.self c.claim.ensures.keeps c.requires.counted

pub returns-in-Rule-clause-done : goal.returns-in-Rule-clause-done
returns-in-Rule-clause-done c =
    rule_built c.build_rule.result c.args.self.now c.build_rule.new.self c.args.command.now c.in-Rule.name c.as_slice.result.now c.in-Rule.conclusion
    (c.in-Rule.is ∙ ap (λ ps. command.Rule c.in-Rule.name ps c.in-Rule.conclusion) (sym c.as_slice.ensures)) c.build_rule.ensures.done
