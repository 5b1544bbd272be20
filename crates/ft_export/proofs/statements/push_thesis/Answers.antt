use Rattle.std.proofs.Common.{◌≡◌, ◌++◌, subst}
use Rattle.ft_judge.specs.Meaning.{claim_in}
use Rattle.ft_export.specs.Statements.{domains_text, EachFits}
use Rattle.std.proofs.lemmas.Result.{on_ok_weaker}
use Rattle.ft_export.proofs.Domains.{under_written, under_fits}
use Rattle.ft_export.proofs.statements.push_thesis.Goals as goal

pub returns-clause-ok : goal.returns-clause-ok
returns-clause-ok c =
    on_ok_weaker c.push_form.result (under_written c.args.terms.now c.args.x.now.domains (claim_in c.args.terms.now c.args.x.now.form) c.args.out.now c.push_domains.new.out c.push_form.new.out (subst (λ ds. c.push_domains.new.out ≡ c.args.out.now ++ domains_text c.args.terms.now ds) c.items.ensures c.in_ok-push_domains.ensures.ok)) c.push_form.ensures.ok

pub returns-clause-fits : goal.returns-clause-fits
returns-clause-fits c =
    on_ok_weaker c.push_form.result (under_fits c.args.terms.now c.args.x.now.domains (claim_in c.args.terms.now c.args.x.now.form) (subst (λ ds. EachFits c.args.terms.now ds) c.items.ensures c.in_ok-push_domains.ensures.fits)) c.push_form.ensures.fits
