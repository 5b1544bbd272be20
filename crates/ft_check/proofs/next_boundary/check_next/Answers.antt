use Rattle.std.proofs.Common.{take, zero, ◌≡◌, false, is_some, ap, ◌∙◌, subst, IfSome}
use Rattle.ft_theory.specs.Expressions.{instantiate}
use Rattle.ft_theory.specs.Statements.{map_statement}
use Rattle.ft_items.specs.Equal.{equal_statements, heads, is_thesis}
use Rattle.ft_items.specs.Rows.{statements}
use Rattle.ft_items.specs.Sets.{same_set}
use Rattle.ft_items.specs.Store.{premises_of}
use Rattle.ft_syntax.specs.Instances.{instance_in}
use Rattle.ft_check.specs.Arguing.{IsPut}
use Rattle.ft_check.specs.Entries.{entry_in}
use Rattle.ft_check.proofs.NextBoundaries.{next_judged, no_arguments}
use Rattle.ft_check.proofs.next_boundary.check_next.Goals as goal

pub returns-in_default : goal.returns-in_default
returns-in_default c = λ R xs t k q f.
    no_arguments c.args.items.now.trees (take c.args.i c.args.items.now.items) c.args.after.now R c.args.ps.now xs (entry_in c.args.items.now.trees c.args.found) t _ k q
    (c.in_ok-put.ensures.are k.declared xs k.are q) (ap is_some c.in_default.is)

pub returns : goal.returns
returns c = λ R xs t k q f.
    let T = c.args.items.now.trees in
    let P = c.in-Some.put in
    let put : IsPut P (premises_of k.declared) (heads (statements xs)) =
    subst (λ o. IfSome o (λ x. IsPut x (premises_of k.declared) (heads (statements xs)))) c.in-Some.is (c.in_ok-put.ensures.put k.declared xs k.are q) in
    let concluded = subst (λ ts. is_thesis (entry_in ts c.args.found).statement ≡ false → is_thesis (entry_in ts c.args.after.now.boundary).statement ≡ false
    → c.in_ok-is_concluded.is_concluded ≡ equal_statements (entry_in ts c.args.found).statement (map_statement (λ k. instantiate (instance_in P.terms P.instance.pairs)) zero (entry_in ts c.args.after.now.boundary).statement))
    c.terms.ensures c.in_ok-is_concluded.ensures f k.boundary.kind in
    next_judged T (take c.args.i c.args.items.now.items) c.args.after.now R c.args.ps.now xs (entry_in T c.args.found) t _ _ _ (instance_in P.terms P.instance.pairs) _ _ k q
    (c.in_ok-put.ensures.are k.declared xs k.are q) (ap is_some c.in-Some.is) put.instance concluded
    (c.in_ok-whole.ensures xs q.are) (c.is_same_set.ensures ∙ ap (same_set _) (c.set-stated.ensures T)) c.against_result.ensures
