use Rattle.std.proofs.Common.{subst, sym, Ok, Err}
use Rattle.std.specs.Prelude.{⊤}
use Rattle.ft_reference.specs.Refusals.{AllSmall, expressions}
use Rattle.ft_reference.specs.Compare.{fit_checks}
use Rattle.ft_judge.specs.Meaning.{thesis_in, boundary_in}
use Rattle.ft_apply.specs.Named.{entry_of}
use Rattle.ft_apply.specs.Outcomes.{Stops, Tests, one_argument_checks}
use Rattle.ft_apply.specs.Instances.{boundary_at}
use Rattle.ft_apply.proofs.Asking.{forming_refused}
use Rattle.ft_apply.proofs.Fits.{fit_result}
use Rattle.ft_apply.proofs.fitting.fit_at.Goals as goal

pub returns-in-Err-clause-checks : goal.returns-in-Err-clause-checks
returns-in-Err-clause-checks c =
    let us = c.put_boundary.new.k.trees in
    let B = boundary_at c.args.k.now.trees c.args.i.now.pairs (boundary_in c.args.k.now.trees c.args.b.now) in
    let X = (entry_of c.args.k.now.items c.args.j).statement in
    subst (Stops us (one_argument_checks B X)) (sym c.from.ensures) (forming_refused us (AllSmall (expressions B)) (expressions B) (fit_checks X B) c.in-Err.fault (λ h. h) c.in-Err.ensures.small)

pub returns-in-Ok-compare-clause-checks : goal.returns-in-Ok-compare-clause-checks
returns-in-Ok-compare-clause-checks c =
    let B = boundary_at c.args.k.now.trees c.args.i.now.pairs (boundary_in c.args.k.now.trees c.args.b.now) in
    fit_result c.args.k.now c.put_boundary.new.k c.args.j c.thesis_of.result.now c.in-Ok.wanted B (Ok c.in-Ok-compare.field-0) c.in-Ok.ensures.stays.0 c.thesis_of.ensures.thesis c.in-Ok.ensures.boundary c.in-Ok.ensures.small
    (subst (λ ts. Tests {A = ⊤} ts (fit_checks (thesis_in ts c.thesis_of.result.now) (boundary_in ts c.in-Ok.wanted)) (Ok c.in-Ok-compare.field-0)) c.terms.ensures.terms c.in-Ok-compare.ensures)

pub returns-clause-checks : goal.returns-clause-checks
returns-clause-checks c =
    let B = boundary_at c.args.k.now.trees c.args.i.now.pairs (boundary_in c.args.k.now.trees c.args.b.now) in
    fit_result c.args.k.now c.put_boundary.new.k c.args.j c.thesis_of.result.now c.in-Ok.wanted B (Err c.in-Err-compare.refusal) c.in-Ok.ensures.stays.0 c.thesis_of.ensures.thesis c.in-Ok.ensures.boundary c.in-Ok.ensures.small
    (subst (λ ts. Tests {A = ⊤} ts (fit_checks (thesis_in ts c.thesis_of.result.now) (boundary_in ts c.in-Ok.wanted)) (Err c.in-Err-compare.refusal)) c.terms.ensures.terms c.in-Err-compare.ensures)
