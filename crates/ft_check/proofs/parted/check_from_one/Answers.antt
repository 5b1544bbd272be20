use Rattle.std.proofs.Common.{◌≡◌, Some, length, sym, subst}
use Rattle.std.specs.Prelude.{option_map}
use Rattle.ft_items.specs.Store.{entry_named, store_of}
use Rattle.std.proofs.Common.{take}
use Rattle.ft_items.specs.Good.{reason_of_result}
use Rattle.ft_steps.specs.Parts.{statement_in, PartsBelow}
use Rattle.ft_steps.specs.Rows.{from_one}
use Rattle.ft_check.specs.Entries.{entry_in, with_step}
use Rattle.ft_check.specs.Rejects.{reason_of}
use Rattle.ft_check.proofs.Concluded.{against_one}
use Rattle.ft_check.proofs.parted.check_from_one.Goals as goal

pub against-requires-clause-concluded : goal.against-requires-clause-concluded
against-requires-clause-concluded c = subst (λ ts. PartsBelow (length ts) c.in-Some-from_one.concluded) (sym c.terms.ensures) (c.in-Some-from_one.ensures.below (length c.args.items.now.trees) (c.parts.ensures.below (length c.args.items.now.trees) c.in-Some.ensures.below))

pub returns-in-Some-from_one : goal.returns-in-Some-from_one
returns-in-Some-from_one c =
    let T = c.args.items.now.trees in
    λ a t f. against_one (from_one c.args.row) (entry_in T c.in-Some.named) a (entry_named (store_of (take c.args.i c.args.items.now.items)) c.args.p) (statement_in T c.in-Some-from_one.concluded) (statement_in T c.parts.result) c.set.result.now
    (with_step (entry_in T c.args.found) t) _ c.in-Some.ensures.entry f (c.in-Some-from_one.ensures.is T) (c.parts.ensures.is T) (c.set.ensures T)
    (subst (λ ts. option_map reason_of c.against.result ≡ reason_of_result (Some (statement_in ts c.in-Some-from_one.concluded)) c.set.result.now (with_step (entry_in ts c.args.found) t)) c.terms.ensures (c.against.ensures t))
