use Rattle.std.proofs.Common.{◌≡◌, ◌∙◌, Some, length, sym, ap₂, subst}
use Rattle.std.specs.Prelude.{option_map}
use Rattle.ft_items.specs.Sets.{union}
use Rattle.ft_items.specs.Store.{entry_named, store_of}
use Rattle.std.proofs.Common.{take}
use Rattle.ft_items.specs.Good.{reason_of_result}
use Rattle.ft_steps.specs.Parts.{statement_in, PartsBelow}
use Rattle.ft_steps.specs.Rows.{from_two}
use Rattle.ft_check.specs.Entries.{entry_in, with_step}
use Rattle.ft_check.specs.Rejects.{reason_of}
use Rattle.ft_check.proofs.Concluded.{against_two}
use Rattle.ft_check.proofs.parted.check_from_two.Goals as goal

pub from_two-requires-clause-x : goal.from_two-requires-clause-x
from_two-requires-clause-x c = subst (λ ts. PartsBelow (length ts) c.parts.result) (sym c.terms.ensures) (c.parts.ensures.below (length c.args.items.now.trees) c.in-Some.ensures.below)

pub from_two-requires-clause-y : goal.from_two-requires-clause-y
from_two-requires-clause-y c = subst (λ ts. PartsBelow (length ts) c.parts-2.result) (sym c.terms.ensures) (c.parts-2.ensures.below (length c.args.items.now.trees) c.in-Some-entry_before.ensures.below)

pub returns : goal.returns
returns c =
    let T = c.args.items.now.trees in
    let W = store_of (take c.args.i c.args.items.now.items) in
    λ a b t f h. against_two (from_two c.args.row) (entry_in T c.in-Some.first) a (entry_in T c.in-Some-entry_before.second) b (entry_named W c.args.p) (entry_named W c.args.q) (statement_in T c.in-Some-from_two.concluded) (statement_in T c.parts.result) (statement_in T c.parts-2.result)
    c.in_ok-set.set (with_step (entry_in T c.args.found) t) _ c.in-Some.ensures.entry f c.in-Some-entry_before.ensures.entry h
    (subst (λ ts. Some (statement_in ts c.in-Some-from_two.concluded) ≡ from_two c.args.row (statement_in ts c.parts.result) (statement_in ts c.parts-2.result)) c.terms.ensures c.in-Some-from_two.ensures.is)
    (c.parts.ensures.is T) (c.parts-2.ensures.is T) (c.in_ok-set.ensures ∙ ap₂ union (c.set.ensures T) (c.set-2.ensures T))
    (subst (λ ts. option_map reason_of c.against.result ≡ reason_of_result (Some (statement_in ts c.in-Some-from_two.concluded)) c.in_ok-set.set (with_step (entry_in ts c.args.found) t)) c.terms-in-Some-from_two.ensures (c.against.ensures t))
