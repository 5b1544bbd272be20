use Rattle.std.proofs.Common.{◌∙◌, map, subst, sym, ap}
use Rattle.ft_reference.specs.Refusals.{AllSmall, claim_expressions, expressions}
use Rattle.ft_syntax.specs.Laws.{pairs_below_extends, all_below_extends, trees_extend}
use Rattle.ft_judge.specs.Meaning.{goal_in, boundary_in}
use Rattle.ft_parts.specs.Instances.{expression_at, goal_at, boundary_at}
use Rattle.ft_parts.proofs.AtInstances.{big_weaker, goal_at_extends, boundary_put, boundary_small, small_boundary}
use Rattle.ft_parts.proofs.putting.put_boundary.Goals as goal

pub put_goal-requires-clause-pairs : goal.put_goal-requires-clause-pairs
put_goal-requires-clause-pairs c = pairs_below_extends c.args.k.now.trees c.put_all.new.k.trees c.args.i.now.pairs c.in-Ok.ensures.stays.1 c.requires.pairs

pub returns-in-Err-clause-small : goal.returns-in-Err-clause-small
returns-in-Err-clause-small c =
    let ts = c.args.k.now.trees in
    let ps = c.args.i.now.pairs in
    big_weaker (AllSmall (map (expression_at ts ps) c.items.result.now)) (AllSmall (expressions (boundary_at ts ps (boundary_in ts c.args.b.now)))) c.in-Err.fault c.in-Err.ensures.small
    (λ q. subst (λ es. AllSmall (map (expression_at ts ps) es)) (sym c.items.ensures) (small_boundary ts ps c.args.b.now q).0)

pub returns-in-Ok-put_goal-clause-within : goal.returns-in-Ok-put_goal-clause-within
returns-in-Ok-put_goal-clause-within c = (all_below_extends c.put_all.new.k.trees c.put_goal.new.k.trees c.in-Ok.domains c.in-Ok-put_goal.ensures.stays.1 c.in-Ok.ensures.within, c.in-Ok-put_goal.ensures.within)

pub returns-in-Ok-put_goal-clause-boundary : goal.returns-in-Ok-put_goal-clause-boundary
returns-in-Ok-put_goal-clause-boundary c =
    let ts = c.args.k.now.trees in
    let us = c.put_all.new.k.trees in
    let vs = c.put_goal.new.k.trees in
    let ps = c.args.i.now.pairs in
    boundary_put ts vs ps c.args.b.now (record { domains = c.in-Ok.domains; goal = c.in-Ok-put_goal.goal })
    (trees_extend us vs c.in-Ok.domains c.in-Ok-put_goal.ensures.stays.1 c.in-Ok.ensures.within ∙ c.in-Ok.ensures.trees ∙ ap (map (expression_at ts ps)) c.items.ensures)
    (c.in-Ok-put_goal.ensures.goal ∙ goal_at_extends ts us ps c.args.b.now.goal c.in-Ok.ensures.stays.1 c.requires.pairs c.requires.below.1)

pub returns-in-Ok-put_goal-clause-small : goal.returns-in-Ok-put_goal-clause-small
returns-in-Ok-put_goal-clause-small c =
    let ts = c.args.k.now.trees in
    let us = c.put_all.new.k.trees in
    let ps = c.args.i.now.pairs in
    boundary_small ts ps c.args.b.now (subst (λ es. AllSmall (map (expression_at ts ps) es)) c.items.ensures c.in-Ok.ensures.small)
    (subst (λ g. AllSmall (claim_expressions g)) (goal_at_extends ts us ps c.args.b.now.goal c.in-Ok.ensures.stays.1 c.requires.pairs c.requires.below.1) c.in-Ok-put_goal.ensures.small)

pub returns-in-Err-put_goal-clause-small : goal.returns-in-Err-put_goal-clause-small
returns-in-Err-put_goal-clause-small c =
    let ts = c.args.k.now.trees in
    let us = c.put_all.new.k.trees in
    let ps = c.args.i.now.pairs in
    big_weaker (AllSmall (claim_expressions (goal_at us ps (goal_in us c.args.b.now.goal)))) (AllSmall (expressions (boundary_at ts ps (boundary_in ts c.args.b.now)))) c.in-Err-put_goal.fault c.in-Err-put_goal.ensures.small
    (λ q. subst (λ g. AllSmall (claim_expressions g)) (sym (goal_at_extends ts us ps c.args.b.now.goal c.in-Ok.ensures.stays.1 c.requires.pairs c.requires.below.1)) (small_boundary ts ps c.args.b.now q).1)
