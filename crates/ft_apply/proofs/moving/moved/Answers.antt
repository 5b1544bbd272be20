use Rattle.std.proofs.Common.{◌≡◌, ◌∙◌, subst, sym, ap, ap₂}
use Rattle.ft_theory.specs.Statements.{fill}
use Rattle.ft_reference.specs.Refusals.{AllSmall, expressions}
use Rattle.ft_syntax.specs.Laws.{pairs_below_extends}
use Rattle.ft_syntax.specs.declared.syntax.Arg.{Arg}
use Rattle.ft_judge.specs.Laws.{boundary_below_extends}
use Rattle.ft_judge.specs.Meaning.{thesis_in, boundary_in, IsHeadFor, head_in}
use Rattle.ft_apply.specs.Named.{entry_of}
use Rattle.ft_apply.specs.Outcomes.{Stops, BigOr, moved_between}
use Rattle.ft_apply.specs.Instances.{boundary_at}
use Rattle.ft_apply.proofs.Naming.{statement_found}
use Rattle.ft_apply.proofs.Moved.{at_later, moved_head, head_filled, moved_misfit, moved_big, moved_passed}
use Rattle.ft_apply.proofs.moving.moved.Goals as goal

pub put_boundary-requires-clause-below : goal.put_boundary-requires-clause-below
put_boundary-requires-clause-below c = boundary_below_extends c.args.k.now.trees c.fit_at.new.k.trees c.args.next.now c.in-Ok.ensures.stays.1 c.requires.next

pub put_boundary-requires-clause-pairs : goal.put_boundary-requires-clause-pairs
put_boundary-requires-clause-pairs c = pairs_below_extends c.args.k.now.trees c.fit_at.new.k.trees c.args.to.now.pairs c.in-Ok.ensures.stays.1 c.requires.to

pub returns-in-Err-clause-checks : goal.returns-in-Err-clause-checks
returns-in-Err-clause-checks c =
    let s = c.args.k.now in
    let n = boundary_in s.trees c.args.next.now in
    moved_misfit c.fit_at.new.k.trees (boundary_at s.trees c.args.from.now.pairs n) (boundary_at s.trees c.args.to.now.pairs n) (entry_of s.items c.args.j).statement c.in-Err.fault c.in-Err.ensures.checks

pub returns-in-Err-put_boundary-clause-checks : goal.returns-in-Err-put_boundary-clause-checks
returns-in-Err-put_boundary-clause-checks c =
    let s = c.args.k.now in
    let u = c.fit_at.new.k in
    let v = c.put_boundary.new.k in
    let n = boundary_in s.trees c.args.next.now in
    let B = boundary_at s.trees c.args.from.now.pairs n in
    let C = boundary_at s.trees c.args.to.now.pairs n in
    let Y = (entry_of s.items c.args.j).statement in
    subst (Stops v.trees (moved_between B C Y)) (sym c.from.ensures)
    (moved_big v.trees B C Y c.in-Err-put_boundary.fault c.in-Ok.ensures.checks
    (subst (λ z. BigOr (AllSmall (expressions z)) c.in-Err-put_boundary.fault) (at_later s.trees u.trees c.args.to.now.pairs c.args.next.now c.in-Ok.ensures.stays.1 c.requires.to c.requires.next) c.in-Err-put_boundary.ensures.small))

pub fill-requires : goal.fill-requires
fill-requires c =
    let s = c.args.k.now in
    let u = c.fit_at.new.k in
    let v = c.put_boundary.new.k in
    let x = c.thesis_of.result.now in
    let b = c.in-Ok-put_boundary.boundary in
    subst (IsHeadFor b.goal) (sym (ap (λ (a : Arg). a.body) c.head_of-head.ensures.head))
    (moved_head s v.trees c.args.from.now.pairs c.args.to.now.pairs c.args.next.now x b c.args.j c.requires.thesis c.in-Ok.ensures.checks
    (sym (statement_found v c.args.j (thesis_in v.trees x) c.thesis_of.ensures.thesis) ∙ ap (λ items. (entry_of items c.args.j).statement) (c.in-Ok-put_boundary.ensures.stays.0 ∙ c.in-Ok.ensures.stays.0))
    (c.in-Ok-put_boundary.ensures.boundary ∙ at_later s.trees u.trees c.args.to.now.pairs c.args.next.now c.in-Ok.ensures.stays.1 c.requires.to c.requires.next))

pub returns-clause-thesis : goal.returns-clause-thesis
returns-clause-thesis c =
    let s = c.args.k.now in
    let u = c.fit_at.new.k in
    let v = c.put_boundary.new.k in
    let x = c.thesis_of.result.now in
    let b = c.in-Ok-put_boundary.boundary in
    let h = c.head_of-head.result.body in
    subst (λ ts. thesis_in ts c.in_ok-fill.field-0 ≡ fill (boundary_in ts b) (head_in ts h)) c.terms.ensures.terms c.in_ok-fill.ensures.meaning
    ∙ ap₂ fill (c.in-Ok-put_boundary.ensures.boundary ∙ at_later s.trees u.trees c.args.to.now.pairs c.args.next.now c.in-Ok.ensures.stays.1 c.requires.to c.requires.next)
    (ap (λ (a : Arg). head_in v.trees a.body) c.head_of-head.ensures.head
    ∙ head_filled v.trees x (entry_of s.items c.args.j).statement
    (sym (statement_found v c.args.j (thesis_in v.trees x) c.thesis_of.ensures.thesis) ∙ ap (λ items. (entry_of items c.args.j).statement) (c.in-Ok-put_boundary.ensures.stays.0 ∙ c.in-Ok.ensures.stays.0)))

pub returns-clause-checks : goal.returns-clause-checks
returns-clause-checks c =
    let s = c.args.k.now in
    let u = c.fit_at.new.k in
    let n = boundary_in s.trees c.args.next.now in
    moved_passed (boundary_at s.trees c.args.from.now.pairs n) (boundary_at s.trees c.args.to.now.pairs n) (entry_of s.items c.args.j).statement c.in-Ok.ensures.checks
    (subst (λ z. AllSmall (expressions z)) (at_later s.trees u.trees c.args.to.now.pairs c.args.next.now c.in-Ok.ensures.stays.1 c.requires.to c.requires.next) c.in-Ok-put_boundary.ensures.small)
