use Rattle.std.proofs.Common.{◌≡◌, IfOk, subst}
use Rattle.std.specs.Prelude.{option_map}
use Rattle.ft_theory.specs.Expressions.{meta}
use Rattle.ft_theory.specs.Statements.{at}
use Rattle.ft_items.specs.Rows.{type_of_boundary}
use Rattle.ft_items.specs.Store.{nth}
use Rattle.ft_syntax.specs.Table.{tree}
use Rattle.ft_judge.specs.Meaning.{boundary_in}
use Rattle.ft_placing.specs.Applied.{is_left}
use Rattle.ft_check.specs.AtHand.{IsMetavariable}
use Rattle.ft_check.specs.Earlier.{declared_before}
use Rattle.ft_check.proofs.Telling.{found_there, meta_natural}
use Rattle.ft_check.proofs.naturals.is_natural_of_meta.Goals as goal

pub returns-in-Some : goal.returns-in-Some
returns-in-Some c = λ a g e.
    let T = c.args.items.now.trees in
    let o = nth (declared_before c.args.i c.args.items.now.items).metavariables c.args.m in
    let X = c.in-Some.declared in
    let k = found_there c.args.m o X (λ d x. IsMetavariable T c.args.m x d) (λ d h. c.in-Some.ensures.is d g h) (λ h. c.in-Some.ensures.none g h) in
    meta_natural T c.args.m X k.0 a (λ N. is_left T N c.args.left) c.is_type_of_meta.result o k.1 k.2
    (subst (λ ts. tree ts c.args.e ≡ meta c.args.m a → IfOk c.is_type_of_meta.result (λ o. o ≡ option_map (λ N. is_left ts N c.args.left) (type_of_boundary (at (boundary_in ts X.boundary.now) a)))) c.terms.ensures (c.is_type_of_meta.ensures c.args.m a) e)
