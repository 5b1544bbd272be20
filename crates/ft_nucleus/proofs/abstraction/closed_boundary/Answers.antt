use Rattle.std.proofs.Common.{◌<◌, ◌^◌, rules, subst, length}
use Rattle.ft_judge.specs.Meaning.{goal_in}
use Rattle.ft_calls.proofs.Later.{AreSmallTrees, boundary_small}
use Rattle.ft_nucleus.proofs.Abstracting.{closed_small}
use Rattle.ft_nucleus.proofs.abstraction.closed_boundary.Goals as goal

pub unreachable-requires : goal.unreachable-requires
unreachable-requires c =
    let x = c.args.x.now in
    let ts = c.args.k.now.trees in
    let short : length c.items-domains.result.now < 2 ^ 63 = search rules in
    c.in-Err-TooBig.ensures.too_big c.in-Err-TooBig.field-0-is
    (closed_small ts x.domains (goal_in ts x.goal) c.args.v (subst (λ ds. length ds < 2 ^ 63) c.items-domains.ensures short)
    (boundary_small ts x (subst AreSmallTrees c.terms.ensures.terms c.are_small.ensures) c.requires.boundary))
