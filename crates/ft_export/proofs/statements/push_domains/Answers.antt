use Rattle.std.proofs.Common.{◌≡◌, ◌<◌, length, ℕ, Some, slice_get, add-one, rules}
use Rattle.ft_export.proofs.Joining.{read_at}
use Rattle.ft_export.proofs.Domains.{below_at, each_next, domain_next}
use Rattle.ft_export.proofs.statements.push_domains.Goals as goal

pub push_expression-requires : goal.push_expression-requires
push_expression-requires c =
    let i : ℕ = c.loop-e.e-index in
    let es = c.args.domains.now in
    let l : i < length es = search rules in
    record { within = below_at (length c.args.terms.now) es i c.e-item.result c.requires.below (read_at es i c.e-item.result l c.e-item.is) }

pub loop-e-preserved : goal.loop-e-preserved
loop-e-preserved c =
    let i : ℕ = c.loop-e.e-index in
    let es = c.args.domains.now in
    let l : i < length es = search rules in
    let g : slice_get es i ≡ Some c.e-item.result = read_at es i c.e-item.result l c.e-item.is in
    rw add-one (record {
      out = domain_next c.args.terms.now es i c.e-item.result c.args.out.now c.loop-e.out c.push_str.new.self c.push_expression.new.out c.push_str-in-loop-e.new.self
          g c.loop-e.invariant.out c.in_ok-push_str.ensures.ok c.in_ok-push_expression.ensures.ok c.in_ok-push_str-2.ensures.ok;
      fits = each_next c.args.terms.now es i c.e-item.result c.loop-e.invariant.fits g c.push_expression.ensures.small c.in_ok-push_expression.ensures.fits;
    })
