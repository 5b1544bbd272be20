use Rattle.std.proofs.Common.{◌≡◌, ◌∙◌, Some, length, sym, ap₂, subst}
use Rattle.std.specs.Prelude.{option_map}
use Rattle.ft_items.specs.Sets.{union}
use Rattle.ft_items.specs.Store.{entry_named, store_of}
use Rattle.std.proofs.Common.{take}
use Rattle.ft_items.specs.Good.{reason_of_result}
use Rattle.ft_steps.specs.Parts.{statement_in, PartsBelow}
use Rattle.ft_items.specs.Rows.{term_equation_boundary}
use Rattle.ft_check.specs.Entries.{entry_in, with_step}
use Rattle.ft_check.specs.Rejects.{reason_of}
use Rattle.ft_check.proofs.Concluded.{against_three}
use Rattle.ft_check.proofs.parted.check_from_three.Goals as goal

pub from_three-requires-clause-x : goal.from_three-requires-clause-x
from_three-requires-clause-x c = subst (λ ts. PartsBelow (length ts) c.parts.result) (sym c.terms.ensures) (c.parts.ensures.below (length c.args.items.now.trees) c.in-Some.ensures.below)

pub from_three-requires-clause-y : goal.from_three-requires-clause-y
from_three-requires-clause-y c = subst (λ ts. PartsBelow (length ts) c.parts-2.result) (sym c.terms.ensures) (c.parts-2.ensures.below (length c.args.items.now.trees) c.in-Some-entry_before.ensures.below)

pub from_three-requires-clause-z : goal.from_three-requires-clause-z
from_three-requires-clause-z c = subst (λ ts. PartsBelow (length ts) c.parts-3.result) (sym c.terms.ensures) (c.parts-3.ensures.below (length c.args.items.now.trees) c.in-Some-entry_before-2.ensures.below)

pub returns : goal.returns
returns c =
    let T = c.args.items.now.trees in
    let W = store_of (take c.args.i c.args.items.now.items) in
    λ a b d t f h k. against_three (entry_in T c.in-Some.first) a (entry_in T c.in-Some-entry_before.second) b (entry_in T c.in-Some-entry_before-2.third) d (entry_named W c.args.p) (entry_named W c.args.s) (entry_named W c.args.t)
    (statement_in T c.in-Some-from_three.concluded) (statement_in T c.parts.result) (statement_in T c.parts-2.result) (statement_in T c.parts-3.result)
    c.in_ok-set.set (with_step (entry_in T c.args.found) t) _ c.in-Some.ensures.entry f c.in-Some-entry_before.ensures.entry h c.in-Some-entry_before-2.ensures.entry k
    (subst (λ ts. Some (statement_in ts c.in-Some-from_three.concluded) ≡ term_equation_boundary (statement_in ts c.parts.result) (statement_in ts c.parts-2.result) (statement_in ts c.parts-3.result)) c.terms.ensures c.in-Some-from_three.ensures.is)
    (c.parts.ensures.is T) (c.parts-2.ensures.is T) (c.parts-3.ensures.is T) (c.in_ok-set.ensures ∙ ap₂ union (c.set-3.ensures T) (c.in_ok-later.ensures ∙ ap₂ union (c.set.ensures T) (c.set-2.ensures T)))
    (subst (λ ts. option_map reason_of c.against.result ≡ reason_of_result (Some (statement_in ts c.in-Some-from_three.concluded)) c.in_ok-set.set (with_step (entry_in ts c.args.found) t)) c.terms-in-Some-from_three.ensures (c.against.ensures t))
