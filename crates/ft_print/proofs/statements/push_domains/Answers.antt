use Rattle.std.proofs.Common.{◌≡◌, ◌<◌, ℕ, Some, length, slice_get, refl, add-one, rules}
use Rattle.std.proofs.lemmas.Option.{slice_get_read}
use Rattle.ft_items.specs.Store.{declared_by}
use Rattle.ft_print.proofs.Below.{below_at, domain_written}
use Rattle.ft_print.proofs.statements.push_domains.Goals as goal

pub push_domain-requires-clause-below : goal.push_domain-requires-clause-below
push_domain-requires-clause-below c =
    let ds = c.args.domains.now in
    let i : ℕ = c.loop-i.i in
    let l : i < length ds = search rules in
    below_at (length c.args.k.now.trees) ds i c.index-domains-i.result c.requires.below (slice_get_read ds (length ds) i c.index-domains-i.result refl l c.index-domains-i.is)

pub loop-i-preserved : goal.loop-i-preserved
loop-i-preserved c =
    let ds = c.args.domains.now in
    let i : ℕ = c.loop-i.i in
    let d = c.index-domains-i.result in
    let l : i < length ds = search rules in
    let g : slice_get ds i ≡ Some d = slice_get_read ds (length ds) i d refl l c.index-domains-i.is in
    rw add-one (domain_written (declared_by c.args.k.now.items) c.args.variables.now c.args.k.now.trees ds i d c.args.out.now c.loop-i.out c.push_domain.new.out g c.loop-i.invariant c.in_ok-push_domain.ensures.ok)
