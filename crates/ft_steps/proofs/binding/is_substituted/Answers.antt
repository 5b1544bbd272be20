use Rattle.std.proofs.Common.{rules, ◌<◌, length}
use Rattle.ft_syntax.specs.Laws.{one_below}
use Rattle.ft_steps.proofs.binding.is_substituted.Goals as goal

pub same-requires : goal.same-requires
same-requires c =
    let n = length c.args.terms.now in
    let some : 0 < length c.args.x.now.domains.now = search rules in
    (one_below n 0 c.index-domains-0.result c.args.x.now.domains.now c.requires.x.0 some c.index-domains-0.is, (c.in-Some.ensures.below n c.requires.t).1)

pub is_statement_moved-requires-clause-work : goal.is_statement_moved-requires-clause-work
is_statement_moved-requires-clause-work c = (c.in-Some.ensures.below (length c.args.terms.now) c.requires.t).0
