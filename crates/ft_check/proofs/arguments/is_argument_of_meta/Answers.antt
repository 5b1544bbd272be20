use Rattle.std.proofs.Common.{◌≡◌, IfOk, length, sym, subst}
use Rattle.std.specs.Prelude.{option_map}
use Rattle.ft_theory.specs.Expressions.{meta}
use Rattle.ft_theory.specs.Rules.{term_typings}
use Rattle.ft_items.specs.Equal.{equal_statements}
use Rattle.ft_items.specs.Store.{nth}
use Rattle.ft_syntax.specs.Table.{tree}
use Rattle.ft_judge.specs.Meaning.{boundary_in}
use Rattle.ft_steps.specs.Parts.{statement_in, PartsBelow}
use Rattle.ft_check.specs.AtHand.{IsMetavariable}
use Rattle.ft_check.specs.Earlier.{declared_before}
use Rattle.ft_check.specs.Entries.{entry_in}
use Rattle.ft_check.proofs.Telling.{found_there, meta_argument}
use Rattle.ft_check.proofs.arguments.is_argument_of_meta.Goals as goal

pub is_term_of_meta-requires-clause-y : goal.is_term_of_meta-requires-clause-y
is_term_of_meta-requires-clause-y c = subst (λ ts. PartsBelow (length ts) c.parts-claimed.result) (sym c.terms.ensures) (c.parts-claimed.ensures.below (length c.args.items.now.trees) c.requires.found)

pub returns-in-Some : goal.returns-in-Some
returns-in-Some c = λ a g e.
    let T = c.args.items.now.trees in
    let o = nth (declared_before c.args.i c.args.items.now.items).metavariables c.args.m in
    let X = c.in-Some.declared in
    let k = found_there c.args.m o X (λ d x. IsMetavariable T c.args.m x d) (λ d h. c.in-Some.ensures.is d g h) (λ h. c.in-Some.ensures.none g h) in
    meta_argument T c.args.m c.args.k X k.0 a (λ z. equal_statements z (entry_in T c.args.found).statement) c.is_term_of_meta.result o k.1 k.2
    (subst (λ y. IfOk c.is_term_of_meta.result (λ o. o ≡ option_map (λ z. equal_statements z y) (nth (term_typings (boundary_in T X.boundary.now) a) c.args.k))) (c.parts-claimed.ensures.is T)
    (subst (λ ts. tree ts c.args.e ≡ meta c.args.m a → IfOk c.is_term_of_meta.result (λ o. o ≡ option_map (λ z. equal_statements z (statement_in ts c.parts-claimed.result)) (nth (term_typings (boundary_in ts X.boundary.now) a) c.args.k))) c.terms.ensures (c.is_term_of_meta.ensures c.args.m a) e))
