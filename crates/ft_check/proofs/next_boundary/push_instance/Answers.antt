use Rattle.std.proofs.Common.{rules, ◌≢◌, length, subst, sym}
use Rattle.std.proofs.lemmas.Result.{IfOk-weaker}
use Rattle.ft_syntax.specs.Table.{AllBelow}
use Rattle.ft_check.proofs.NextBoundaries.{boundary_same, other_boundary}
use Rattle.ft_check.proofs.next_boundary.push_instance.Goals as goal

pub returns-then-first-second-clause-same : goal.returns-then-first-second-clause-same
returns-then-first-second-clause-same c =
    let other : length c.args.found.now.domains ≢ length c.args.wanted.now.domains = search rules in
    λ ts j. other_boundary ts j c.args.found.now c.args.wanted.now _ other

pub returns-clause-same : goal.returns-clause-same
returns-clause-same c =
    λ ts j. IfOk-weaker c.push_goal.result _ _ (λ yes h. boundary_same ts j c.args.found.now c.args.wanted.now c.items-first.result.now c.items-second.result.now _ _ _ c.items-first.ensures c.items-second.ensures (c.in_ok-push_domains.ensures.same ts j) h) (c.push_goal.ensures.same ts j)

pub returns-clause-below : goal.returns-clause-below
returns-clause-below c =
    λ n h f g. c.push_goal.ensures.below n (c.in_ok-push_domains.ensures.below n h (subst (AllBelow n) (sym c.items-first.ensures) f.0) (subst (AllBelow n) (sym c.items-second.ensures) g.0)) f.1 g.1
