use Rattle.std.proofs.Common.{◌∙◌, ap, ◌++◌, codes, append_assoc}
use Rattle.ft_syntax.specs.Table.{tree}
use Rattle.ft_applications_meaning.specs.Texts.{expression_text}
use Rattle.ft_run.specs.Claiming.{names_known}
use Rattle.ft_run.proofs.Printing.{begins_first, later_err, any_err}
use Rattle.ft_run.proofs.texts.push_term.Goals as goal

pub returns-in_err-push_expression-clause-err : goal.returns-in_err-push_expression-clause-err
returns-in_err-push_expression-clause-err c =
    let out = c.args.out.now in
    let new = c.push_expression.new.out in
    let t = expression_text (names_known c.args.known.now) (tree c.args.terms.now c.args.term) in
    let A = expression_text (names_known c.args.known.now) (tree c.args.terms.now c.args.ty) in
    any_err c.from_residual.result (begins_first out (t ++ codes " : ") A new (begins_first out t (codes " : ") new c.in_err-push_expression.ensures.err))

pub returns-clause-err : goal.returns-clause-err
returns-clause-err c =
    let out = c.args.out.now in
    let t = expression_text (names_known c.args.known.now) (tree c.args.terms.now c.args.term) in
    let A = expression_text (names_known c.args.known.now) (tree c.args.terms.now c.args.ty) in
    later_err c.push_expression-2.result out (t ++ codes " : ") A c.push_str.new.self c.push_expression-2.new.out
    (c.in_ok-push_str.ensures.ok ∙ ap (λ m. m ++ codes " : ") c.in_ok-push_expression.ensures.ok ∙ append_assoc out t (codes " : "))
    c.push_expression-2.ensures.err
