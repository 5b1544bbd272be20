use Rattle.std.proofs.Common.{ap, ◌∙◌}
use Rattle.std.proofs.lemmas.Result.{IfOk-weaker}
use Rattle.ft_syntax.specs.Table.{tree, arguments_in}
use Rattle.ft_check.proofs.AtSymbols.{symbol_put}
use Rattle.ft_check.proofs.applications.put_application.Goals as goal

pub returns-clause-put : goal.returns-clause-put
returns-clause-put c = λ qs s a h e.
    let T = c.args.terms.now in
    IfOk-weaker c.put_all.result _ _
    (λ x k. symbol_put x qs _ a (tree T c.args.e) s (ap (arguments_in T) c.deref.ensures.value ∙ c.in_ok-arguments.ensures.are) e k) (c.put_all.ensures.put qs h)
