use Rattle.std.proofs.Common.{◌≡◌, ◌∙◌, Some, length, sym, ap, subst}
use Rattle.ft_items.specs.Equal.{equal_statements}
use Rattle.ft_items.specs.Good.{reason_of_result}
use Rattle.ft_items.specs.Sets.{union}
use Rattle.ft_judge.specs.Meaning.{boundary_in, BoundaryBelow}
use Rattle.ft_steps.specs.Parts.{statement_in, PartsBelow}
use Rattle.ft_check.specs.AtHand.{generic, IsMetavariable}
use Rattle.ft_check.specs.Judging.{stated}
use Rattle.ft_check.proofs.Bindings.{as_some}
use Rattle.ft_check.proofs.MetavariableRead.{generic_reason}
use Rattle.ft_check.proofs.metas.check_generic.Goals as goal

pub is_generic_thesis-is_concluded-requires-clause-b : goal.is_generic_thesis-is_concluded-requires-clause-b
is_generic_thesis-is_concluded-requires-clause-b c = subst (λ ts. BoundaryBelow (length ts) c.in-Some.declared.boundary.now) (sym c.terms.ensures) c.in-Some.ensures.below

pub is_generic_thesis-is_concluded-requires-clause-y : goal.is_generic_thesis-is_concluded-requires-clause-y
is_generic_thesis-is_concluded-requires-clause-y c = subst (λ ts. PartsBelow (length ts) c.parts-claimed.result) (sym c.terms.ensures) (c.parts-claimed.ensures.below (length c.args.items.now.trees) c.requires)

pub returns : goal.returns
returns c = λ d t g h.
    let T = c.args.items.now.trees in
    let E = stated T c.args.found t in
    let x = generic c.args.m (boundary_in T c.in-Some.declared.boundary.now) in
    let k : IsMetavariable T c.args.m c.in-Some.declared d = as_some (λ x. IsMetavariable T c.args.m x d) c.metavariable_at_hand.result c.in-Some.declared (c.metavariable_at_hand.ensures.is d g h) c.in-Some.is in
    generic_reason T c.args.m d c.in-Some.declared E _ k
    (c.against_test.ensures T x t
    (subst (λ ts. c.is_generic_thesis-is_concluded.result ≡ equal_statements (generic c.args.m (boundary_in ts c.in-Some.declared.boundary.now)) (statement_in ts c.parts-claimed.result)) c.terms.ensures c.is_generic_thesis-is_concluded.ensures
    ∙ ap (equal_statements x) (c.parts-claimed.ensures.is T))
    ∙ ap (λ S. reason_of_result (Some x) S E) (c.in_ok-set.ensures ∙ ap (λ R. union R c.in-Some.declared.set.now) c.in_ok-single.ensures))
