use Rattle.std.proofs.Common.{◌≡◌, ◌∙◌, ◌-◌, ap}
use Rattle.std.specs.Prelude.{option_map, slice_get}
use Rattle.ft_syntax.specs.Table.{tree}
use Rattle.ft_parts.proofs.Lines.{IsMet, met_there, met_boundary}
use Rattle.ft_parts.proofs.Premises.{item_got, got_below, domain_is}
use Rattle.ft_parts.proofs.reading.domain_of.Goals as goal

pub boundary_at-requires : goal.boundary_at-requires
boundary_at-requires c =
    let x = c.met.result.now in
    met_boundary c.args.k.now c.args.m x.boundary (met_there c.args.k.now c.args.m (x.name, x.boundary) c.met.ensures.good c.met.ensures.metavariable)

pub returns-clause-domain : goal.returns-clause-domain
returns-clause-domain c =
    let s = c.args.k.now in
    let x = c.met.result.now in
    let n = c.args.i - 1 in
    let M : IsMet s c.args.m x.boundary = met_there s c.args.m (x.name, x.boundary) c.met.ensures.good c.met.ensures.metavariable in
    let got : c.copied.result ≡ slice_get c.items-domains.result.now n = c.copied.ensures ∙ item_got c.items-domains.result.now n c.get.result c.get.ensures.lookup in
    ap (option_map (tree s.trees)) (got ∙ ap (λ ds. slice_get ds n) c.items-domains.ensures) ∙ domain_is s c.args.m x.boundary n c.boundary_at.result.now M c.boundary_at.ensures.boundary

pub returns-clause-below : goal.returns-clause-below
returns-clause-below c =
    let n = c.args.i - 1 in
    let got : c.copied.result ≡ slice_get c.items-domains.result.now n = c.copied.ensures ∙ item_got c.items-domains.result.now n c.get.result c.get.ensures.lookup in
    got_below _ n c.boundary_at.result.now.domains c.copied.result (got ∙ ap (λ ds. slice_get ds n) c.items-domains.ensures) c.boundary_at.ensures.below.0
