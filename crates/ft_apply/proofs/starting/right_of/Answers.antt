use Rattle.std.proofs.Common.{◌∙◌, length, subst, sym, ap, Ok, Err}
use Rattle.std.specs.Prelude.{⊤}
use Rattle.ft_reference.specs.Compare.{fit_checks}
use Rattle.ft_judge.specs.Meaning.{thesis_in, boundary_in}
use Rattle.ft_judge.specs.declared.judgement.Boundary.{Boundary}
use Rattle.ft_apply.specs.Outcomes.{Tests}
use Rattle.ft_apply.proofs.Starts.{start_wrong, start_tested, right_is}
use Rattle.ft_apply.proofs.starting.right_of.Goals as goal

pub returns-in-None-clause-checks : goal.returns-in-None-clause-checks
returns-in-None-clause-checks c =
    start_wrong c.args.k.now c.args.j c.args.e c.thesis_of-x.result.now c.thesis_of-y.result.now c.thesis_of-x.ensures.thesis c.thesis_of-y.ensures.thesis (sym c.start.ensures ∙ c.in-None.is)

pub returns-in-Ok-clause-right : goal.returns-in-Ok-clause-right
returns-in-Ok-clause-right c =
    right_is c.args.k.now c.args.j c.args.e c.thesis_of-x.result.now c.thesis_of-y.result.now c.in-Some.start.0 c.in-Some.start.1 (length c.items.result.now) c.thesis_of-x.ensures.thesis c.thesis_of-y.ensures.thesis
    (sym c.start.ensures ∙ c.in-Some.is) (ap length c.items.ensures)

pub returns-in-Ok-clause-checks : goal.returns-in-Ok-clause-checks
returns-in-Ok-clause-checks c =
    let b : Boundary = record { domains = c.in_ok-domains.domains; goal = c.in-Some.start.0 } in
    start_tested c.args.k.now c.args.j c.args.e c.thesis_of-x.result.now c.thesis_of-y.result.now b c.in-Some.start.1 (Ok c.in-Ok.field-0) c.thesis_of-x.ensures.thesis c.thesis_of-y.ensures.thesis
    (sym c.start.ensures ∙ c.in-Some.is) c.in_ok-domains.ensures
    (subst (λ ts. Tests {A = ⊤} ts (fit_checks (thesis_in ts c.thesis_of-y.result.now) (boundary_in ts b)) (Ok c.in-Ok.field-0)) c.terms.ensures.terms c.in-Ok.ensures)

pub returns-clause-checks : goal.returns-clause-checks
returns-clause-checks c =
    let b : Boundary = record { domains = c.in_ok-domains.domains; goal = c.in-Some.start.0 } in
    start_tested c.args.k.now c.args.j c.args.e c.thesis_of-x.result.now c.thesis_of-y.result.now b c.in-Some.start.1 (Err c.in-Err.refusal) c.thesis_of-x.ensures.thesis c.thesis_of-y.ensures.thesis
    (sym c.start.ensures ∙ c.in-Some.is) c.in_ok-domains.ensures
    (subst (λ ts. Tests {A = ⊤} ts (fit_checks (thesis_in ts c.thesis_of-y.result.now) (boundary_in ts b)) (Err c.in-Err.refusal)) c.terms.ensures.terms c.in-Err.ensures)
