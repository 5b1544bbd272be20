use Rattle.std.proofs.Common.{◌∙◌, sym, ap}
use Rattle.ft_theory.specs.Statements.{term_goal}
use Rattle.ft_items.specs.Equal.{fits_goal}
use Rattle.ft_syntax.specs.Table.{tree}
use Rattle.ft_judge.specs.Meaning.{claim_in}
use Rattle.ft_run.proofs.Fitting.{by_equal}
use Rattle.ft_run.proofs.given.is_term.Goals as goal

pub returns-in-Tm : goal.returns-in-Tm
returns-in-Tm c =
    by_equal (tree c.args.terms.now c.in-Tm.found) (tree c.args.terms.now c.args.ty) c.equal_expr.result c.equal_expr.ensures
    ∙ ap (λ f. fits_goal (claim_in c.args.terms.now f) (term_goal (tree c.args.terms.now c.args.ty))) (sym c.in-Tm.is)
