use Rattle.std.proofs.Common.{◌∙◌, length, ap₂, subst, sym}
use Rattle.ft_theory.specs.Statements.{fill}
use Rattle.ft_reference.specs.Refusals.{AllSmall, expressions}
use Rattle.ft_syntax.specs.Laws.{below_extends, tree_extends, pairs_below_extends}
use Rattle.ft_judge.specs.Meaning.{BoundaryBelow}
use Rattle.ft_judge.specs.Laws.{boundary_below_extends}
use Rattle.ft_parts.specs.Instances.{BigOr}
use Rattle.ft_parts.proofs.Lines.{IsMet, met_there, met_boundary}
use Rattle.ft_parts.proofs.Premises.{instance_boundary, thesis_filled}
use Rattle.ft_parts.proofs.arguments.argument_for.Goals as goal

pub boundary_at-requires : goal.boundary_at-requires
boundary_at-requires c =
    let x = c.met.result.now in
    met_boundary c.args.k.now c.args.m x.boundary (met_there c.args.k.now c.args.m (x.name, x.boundary) c.met.ensures.good c.met.ensures.metavariable)

pub put_boundary-requires-clause-below : goal.put_boundary-requires-clause-below
put_boundary-requires-clause-below c =
    subst (BoundaryBelow (length c.head_of.new.k.trees)) (sym c.in_ok-boundary.ensures)
    (boundary_below_extends c.args.k.now.trees c.head_of.new.k.trees c.boundary_at.result.now c.in-Ok.ensures.stays.1 c.boundary_at.ensures.below)

pub put_boundary-requires-clause-pairs : goal.put_boundary-requires-clause-pairs
put_boundary-requires-clause-pairs c = pairs_below_extends c.args.k.now.trees c.head_of.new.k.trees c.in_ok-instance.instance.pairs c.in-Ok.ensures.stays.1 c.in_ok-instance.ensures.pairs

pub returns-in-Ok-put_boundary-clause-within : goal.returns-in-Ok-put_boundary-clause-within
returns-in-Ok-put_boundary-clause-within c =
    let u = c.head_of.new.k in
    let v = c.put_boundary.new.k in
    (c.in-Ok-put_boundary.ensures.within.0, c.filled.ensures.below (length v.trees) c.in-Ok-put_boundary.ensures.within.1 (below_extends u.trees v.trees c.in-Ok.head c.in-Ok-put_boundary.ensures.stays.1 c.in-Ok.ensures.within))

pub returns-in-Ok-put_boundary-clause-thesis : goal.returns-in-Ok-put_boundary-clause-thesis
returns-in-Ok-put_boundary-clause-thesis c =
    let s = c.args.k.now in
    let u = c.head_of.new.k in
    let v = c.put_boundary.new.k in
    let x = c.met.result.now in
    let M : IsMet s c.args.m x.boundary = met_there s c.args.m (x.name, x.boundary) c.met.ensures.good c.met.ensures.metavariable in
    thesis_filled v.trees c.in-Ok-put_boundary.boundary c.filled.result c.in-Ok.head (c.filled.ensures.claim v.trees)
    ∙ ap₂ fill
    (c.in-Ok-put_boundary.ensures.boundary ∙ instance_boundary s u c.args.r c.args.m x.boundary c.args.e c.in_ok-instance.instance.pairs c.boundary_at.result.now c.in_ok-boundary.boundary M c.boundary_at.ensures.boundary
    c.boundary_at.ensures.below c.in_ok-instance.ensures.pairs c.in_ok-instance.ensures.instance c.in_ok-boundary.ensures c.in-Ok.ensures.stays.1)
    (tree_extends u.trees v.trees c.in-Ok.head c.in-Ok-put_boundary.ensures.stays.1 c.in-Ok.ensures.within ∙ c.in-Ok.ensures.head)

pub returns-in-Ok-put_boundary-clause-small : goal.returns-in-Ok-put_boundary-clause-small
returns-in-Ok-put_boundary-clause-small c =
    let s = c.args.k.now in
    let x = c.met.result.now in
    let M : IsMet s c.args.m x.boundary = met_there s c.args.m (x.name, x.boundary) c.met.ensures.good c.met.ensures.metavariable in
    subst (λ b. AllSmall (expressions b))
    (instance_boundary s c.head_of.new.k c.args.r c.args.m x.boundary c.args.e c.in_ok-instance.instance.pairs c.boundary_at.result.now c.in_ok-boundary.boundary M c.boundary_at.ensures.boundary c.boundary_at.ensures.below
    c.in_ok-instance.ensures.pairs c.in_ok-instance.ensures.instance c.in_ok-boundary.ensures c.in-Ok.ensures.stays.1) c.in-Ok-put_boundary.ensures.small

pub returns-clause-small : goal.returns-clause-small
returns-clause-small c =
    let s = c.args.k.now in
    let x = c.met.result.now in
    let M : IsMet s c.args.m x.boundary = met_there s c.args.m (x.name, x.boundary) c.met.ensures.good c.met.ensures.metavariable in
    subst (λ b. BigOr (AllSmall (expressions b)) c.in-Err-put_boundary.fault)
    (instance_boundary s c.head_of.new.k c.args.r c.args.m x.boundary c.args.e c.in_ok-instance.instance.pairs c.boundary_at.result.now c.in_ok-boundary.boundary M c.boundary_at.ensures.boundary c.boundary_at.ensures.below
    c.in_ok-instance.ensures.pairs c.in_ok-instance.ensures.instance c.in_ok-boundary.ensures c.in-Ok.ensures.stays.1) c.in-Err-put_boundary.ensures.small
