use Rattle.std.proofs.Common.{subst, sym, codes}
use Rattle.ft_syntax.specs.Table.{tree}
use Rattle.ft_judge.specs.Meaning.{claim_in}
use Rattle.ft_applications_meaning.specs.Texts.{expression_text, claim_text}
use Rattle.ft_run.specs.Claiming.{names_known}
use Rattle.ft_run.specs.Printing.{HasBeginning}
use Rattle.ft_run.proofs.Printing.{begins_first, any_err}
use Rattle.ft_run.proofs.texts.push_claim.Goals as goal

pub returns-in_err-push_expression-in-Ty-clause-err : goal.returns-in_err-push_expression-in-Ty-clause-err
returns-in_err-push_expression-in-Ty-clause-err c =
    let ns = names_known c.args.known.now in
    let new = c.push_expression.new.out in
    any_err c.from_residual.result
    (subst (λ f. HasBeginning c.args.out.now (claim_text ns (claim_in c.args.terms.now f)) new) (sym c.in-Ty.is)
    (begins_first c.args.out.now (expression_text ns (tree c.args.terms.now c.in-Ty.ty)) (codes " type") new c.in_err-push_expression-in-Ty.ensures.err))
