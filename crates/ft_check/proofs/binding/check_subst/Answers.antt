use Rattle.std.proofs.Common.{◌≡◌, ◌∙◌, Some, length, sym, ap, ap₂, subst, take}
use Rattle.std.specs.Prelude.{option_map}
use Rattle.ft_items.specs.Equal.{equal_statements}
use Rattle.ft_items.specs.Good.{reason_of_result}
use Rattle.ft_check.specs.Substituting.{put}
use Rattle.ft_items.specs.Sets.{union}
use Rattle.ft_items.specs.Store.{Assertion, entry_named, store_of}
use Rattle.ft_steps.specs.Parts.{statement_in, PartsBelow}
use Rattle.ft_check.specs.Entries.{entry_in, with_step}
use Rattle.ft_check.specs.Rejects.{reason_of}
use Rattle.ft_check.proofs.Concluded.{two_entries, tested_reason}
use Rattle.ft_check.proofs.binding.check_subst.Goals as goal

pub is_put-requires-clause-x : goal.is_put-requires-clause-x
is_put-requires-clause-x c = subst (λ ts. PartsBelow (length ts) c.parts-first.result) (sym c.terms.ensures) (c.parts-first.ensures.below (length c.args.items.now.trees) c.in-Some.ensures.below)

pub is_put-requires-clause-t : goal.is_put-requires-clause-t
is_put-requires-clause-t c = subst (λ ts. PartsBelow (length ts) c.parts-second.result) (sym c.terms.ensures) (c.parts-second.ensures.below (length c.args.items.now.trees) c.in-Some-entry_before.ensures.below)

pub is_put-requires-clause-y : goal.is_put-requires-clause-y
is_put-requires-clause-y c = subst (λ ts. PartsBelow (length ts) c.parts-stated.result) (sym c.terms.ensures) (c.parts-stated.ensures.below (length c.args.items.now.trees) c.requires)

pub returns : goal.returns
returns c = λ a b n f h.
    let T = c.args.items.now.trees in
    let W = store_of (take c.args.i c.args.items.now.items) in
    let E = with_step (entry_in T c.args.found) n in
    let p = entry_in T c.in-Some.named in
    let q = entry_in T c.in-Some-entry_before.other in
    two_entries (λ (a b : Assertion). option_map reason_of c.against_test.result ≡ reason_of_result (put c.args.by a.statement b.statement) (union a.set b.set) E) p a q b (entry_named W c.args.p) (entry_named W c.args.q)
    c.in-Some.ensures.entry f c.in-Some-entry_before.ensures.entry h
    (tested_reason (put c.args.by p.statement q.statement) (entry_in T c.args.found).statement (union p.set q.set) E c.in-Some-2.is_concluded c.in_ok-is_put.field-0 _
    (subst (λ ts. c.in_ok-is_put.field-0 ≡ option_map (λ z. equal_statements z (statement_in ts c.parts-stated.result)) (put c.args.by (statement_in ts c.parts-first.result) (statement_in ts c.parts-second.result))) c.terms.ensures c.in_ok-is_put.ensures
    ∙ ap₂ (λ y o. option_map (λ z. equal_statements z y) o) (c.parts-stated.ensures.is T) (ap₂ (put c.args.by) (c.parts-first.ensures.is T) (c.parts-second.ensures.is T)))
    c.in-Some-2.is
    (λ x k. c.against_test.ensures T x n k ∙ ap (λ S. reason_of_result (Some x) S E) (c.in_ok-set.ensures ∙ ap₂ union (c.set.ensures T) (c.set-2.ensures T))))
