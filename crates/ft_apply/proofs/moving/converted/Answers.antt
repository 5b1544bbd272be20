use Rattle.std.proofs.Common.{true, false, subst, sym}
use Rattle.ft_judge.specs.Meaning.{thesis_in}
use Rattle.ft_apply.specs.Outcomes.{Formed}
use Rattle.ft_apply.specs.Equations.{conversion_checks_in, conversion_in}
use Rattle.ft_apply.proofs.Moved.{thesis_stays, conversion_misfit, conversion_formed}
use Rattle.ft_apply.proofs.moving.converted.Goals as goal

pub returns-in-Err-clause-formed : goal.returns-in-Err-clause-formed
returns-in-Err-clause-formed c = conversion_misfit c.args.back c.equal_arguments.new.k.trees c.args.k.now.items c.args.r c.args.args.now c.args.equations.now c.args.arg c.in-Err.fault c.in-Err.ensures.checks

pub moved-requires-clause-thesis : goal.moved-requires-clause-thesis
moved-requires-clause-thesis c = thesis_stays c.args.k.now c.equal_arguments.new.k c.args.arg c.in-Ok.ensures.stays.0 c.requires.argument

pub moved-requires-2-clause-thesis : goal.moved-requires-2-clause-thesis
moved-requires-2-clause-thesis c = thesis_stays c.args.k.now c.equal_arguments.new.k c.args.arg c.in-Ok.ensures.stays.0 c.requires.argument

pub returns-then-back-clause-formed : goal.returns-then-back-clause-formed
returns-then-back-clause-formed c =
    let s = c.args.k.now in
    let t = c.equal_arguments.new.k in
    let us = c.moved.new.k.trees in
    let js = c.args.args.now in
    let ks = c.args.equations.now in
    subst (λ b. Formed (thesis_in us) us (conversion_checks_in b s.items c.args.r js ks c.args.arg) (conversion_in b s.items c.args.r js ks c.args.arg) c.moved.result) (sym c.if-back.true)
    (conversion_formed true s t us c.args.r js ks c.args.arg c.in-Ok.sides.right.pairs c.in-Ok.sides.left.pairs c.in_ok-next.next c.moved.result c.requires.arguments c.requires.argument c.in-Ok.ensures.stays.0 c.in-Ok.ensures.checks
    c.in-Ok.ensures.right c.in-Ok.ensures.left c.in_ok-next.ensures.boundary c.moved.ensures.checks c.moved.ensures.thesis)

pub returns-clause-formed : goal.returns-clause-formed
returns-clause-formed c =
    let s = c.args.k.now in
    let t = c.equal_arguments.new.k in
    let us = c.moved-2.new.k.trees in
    let js = c.args.args.now in
    let ks = c.args.equations.now in
    subst (λ b. Formed (thesis_in us) us (conversion_checks_in b s.items c.args.r js ks c.args.arg) (conversion_in b s.items c.args.r js ks c.args.arg) c.moved-2.result) (sym c.if-back.false)
    (conversion_formed false s t us c.args.r js ks c.args.arg c.in-Ok.sides.left.pairs c.in-Ok.sides.right.pairs c.in_ok-next.next c.moved-2.result c.requires.arguments c.requires.argument c.in-Ok.ensures.stays.0 c.in-Ok.ensures.checks
    c.in-Ok.ensures.left c.in-Ok.ensures.right c.in_ok-next.ensures.boundary c.moved-2.ensures.checks c.moved-2.ensures.thesis)
