use Rattle.std.proofs.Common.{◌≡◌, ◌<◌, ◌∙◌, length, subst, sym, ap}
use Rattle.std.specs.Prelude.{Ok, Err, ⊤}
use Rattle.ft_items.specs.Equal.{heads}
use Rattle.ft_items.specs.Store.{rules_in}
use Rattle.ft_reference.specs.Refusals.{AllSmall, claim_expressions}
use Rattle.ft_reference.specs.Compare.{boundary_checks}
use Rattle.ft_reference.specs.Checks.{rule_with_checks}
use Rattle.ft_syntax.specs.Table.{arguments_in, ArgumentsBelow}
use Rattle.ft_syntax.specs.Laws.{arguments_below_extends}
use Rattle.ft_judge.specs.Meaning.{boundary_in}
use Rattle.ft_calls.specs.Forming.{plain_goal_in}
use Rattle.ft_apply.specs.Named.{entry_of, statements_of, rule_of}
use Rattle.ft_apply.specs.Outcomes.{Stops, BigOr, Tests}
use Rattle.ft_apply.specs.Instances.{filled_at}
use Rattle.ft_apply.proofs.Naming.{theses_are}
use Rattle.ft_apply.proofs.Fitted.{boundary_stays}
use Rattle.ft_apply.proofs.Concluded.{with_misfit, with_big, with_other, with_filled_big, with_formed, concluded, conclusion_there, filled_there, boundary_there, compared}
use Rattle.ft_apply.proofs.applying.applied_with_formed.Goals as goal

pub returns-in-Err-clause-formed : goal.returns-in-Err-clause-formed
returns-in-Err-clause-formed c =
    let s = c.args.k.now in
    with_misfit c.all_arguments.new.k.trees c.args.r (rule_of s.items c.args.r) (entry_of s.items c.args.b).statement (statements_of s.items c.args.args.now) c.in-Err.fault c.in-Err.ensures.checks

pub conclusion-requires-clause-rule : goal.conclusion-requires-clause-rule
conclusion-requires-clause-rule c = subst (λ items. c.args.r < length (rules_in items)) (sym c.in-Ok.ensures.stays.0) c.requires.rule

pub returns-in-Err-conclusion-clause-formed : goal.returns-in-Err-conclusion-clause-formed
returns-in-Err-conclusion-clause-formed c =
    let s = c.args.k.now in
    let t = c.all_arguments.new.k in
    let u = c.conclusion.new.k in
    let R = rule_of s.items c.args.r in
    let b = (entry_of s.items c.args.b).statement in
    let xs = statements_of s.items c.args.args.now in
    let there = conclusion_there s t c.args.r c.in-Ok.given.instance.pairs xs c.in-Ok.ensures.stays.0 c.in-Ok.ensures.instance in
    subst (Stops u.trees (rule_with_checks c.args.r R b xs)) (sym c.from.ensures)
    (with_big u.trees c.args.r R b xs c.in-Err-conclusion.fault c.in-Ok.ensures.checks
    (subst (λ g. BigOr (AllSmall (claim_expressions g)) c.in-Err-conclusion.fault) there c.in-Err-conclusion.ensures.small))

pub boundary_at-requires : goal.boundary_at-requires
boundary_at-requires c =
    boundary_stays c.args.k.now c.conclusion.new.k c.args.b (c.in-Ok-conclusion.ensures.stays.0 ∙ c.in-Ok.ensures.stays.0) c.requires.boundary

pub filled-requires-clause-heads : goal.filled-requires-clause-heads
filled-requires-clause-heads c =
    let t = c.all_arguments.new.k in
    let u = c.conclusion.new.k in
    subst (ArgumentsBelow (length u.trees)) (sym c.items.ensures) (arguments_below_extends t.trees u.trees c.in-Ok.given.heads c.in-Ok-conclusion.ensures.stays.1 c.in-Ok.ensures.below)

pub filled-requires-clause-small : goal.filled-requires-clause-small
filled-requires-clause-small c = subst (λ g. AllSmall (claim_expressions g)) (sym c.in-Ok-conclusion.ensures.goal) c.in-Ok-conclusion.ensures.small

pub returns-in-Err-same_goal-clause-formed : goal.returns-in-Err-same_goal-clause-formed
returns-in-Err-same_goal-clause-formed c =
    let s = c.args.k.now in
    let t = c.all_arguments.new.k in
    let u = c.conclusion.new.k in
    let R = rule_of s.items c.args.r in
    let b = (entry_of s.items c.args.b).statement in
    let xs = statements_of s.items c.args.args.now in
    let ps = c.in-Ok.given.instance.pairs in
    let there = conclusion_there s t c.args.r ps xs c.in-Ok.ensures.stays.0 c.in-Ok.ensures.instance in
    with_other u.trees c.args.r R b xs c.in-Err-same_goal.refusal c.in-Ok.ensures.checks
    (subst (λ g. AllSmall (claim_expressions g)) there c.in-Ok-conclusion.ensures.small)
    (compared s t u c.args.r c.args.b ps c.in-Ok-conclusion.goal c.boundary_at.result.now xs (Err c.in-Err-same_goal.refusal) c.in-Ok.ensures.stays.0 c.in-Ok-conclusion.ensures.stays.0 c.in-Ok.ensures.instance c.in-Ok-conclusion.ensures.goal c.boundary_at.ensures.boundary
    (subst (λ ts. Tests {A = ⊤} ts (boundary_checks (boundary_in ts c.boundary_at.result.now) (plain_goal_in ts c.in-Ok-conclusion.goal)) (Err c.in-Err-same_goal.refusal)) c.terms.ensures.terms c.in-Err-same_goal.ensures))

pub returns-in-Ok-filled-clause-formed : goal.returns-in-Ok-filled-clause-formed
returns-in-Ok-filled-clause-formed c =
    let s = c.args.k.now in
    let t = c.all_arguments.new.k in
    let u = c.conclusion.new.k in
    let v = c.filled.new.k in
    let R = rule_of s.items c.args.r in
    let b = (entry_of s.items c.args.b).statement in
    let xs = statements_of s.items c.args.args.now in
    let ps = c.in-Ok.given.instance.pairs in
    let hs = c.items.result.now in
    let there = conclusion_there s t c.args.r ps xs c.in-Ok.ensures.stays.0 c.in-Ok.ensures.instance in
    let q : filled_at u.trees c.in-Ok-conclusion.goal c.args.r hs ≡ concluded R c.args.r xs =
    filled_there s t u c.args.r ps hs c.in-Ok-conclusion.goal xs c.in-Ok.ensures.stays.0 c.in-Ok-conclusion.ensures.stays.1 c.in-Ok.ensures.instance
    (ap (arguments_in t.trees) c.items.ensures ∙ c.in-Ok.ensures.heads) (subst (ArgumentsBelow (length t.trees)) (sym c.items.ensures) c.in-Ok.ensures.below) c.in-Ok-conclusion.ensures.goal in
    with_formed v.trees c.args.r R b xs c.in-Ok-filled.form (theses_are s c.args.args.now c.requires.arguments) (boundary_there s c.args.b c.requires.boundary) c.in-Ok.ensures.checks
    (subst (λ g. AllSmall (claim_expressions g)) there c.in-Ok-conclusion.ensures.small)
    (compared s t u c.args.r c.args.b ps c.in-Ok-conclusion.goal c.boundary_at.result.now xs (Ok c.in-Ok-same_goal.field-0) c.in-Ok.ensures.stays.0 c.in-Ok-conclusion.ensures.stays.0 c.in-Ok.ensures.instance c.in-Ok-conclusion.ensures.goal c.boundary_at.ensures.boundary
    (subst (λ ts. Tests {A = ⊤} ts (boundary_checks (boundary_in ts c.boundary_at.result.now) (plain_goal_in ts c.in-Ok-conclusion.goal)) (Ok c.in-Ok-same_goal.field-0)) c.terms.ensures.terms c.in-Ok-same_goal.ensures))
    (c.in-Ok-filled.ensures.form ∙ q) (subst (λ g. AllSmall (claim_expressions g)) q c.in-Ok-filled.ensures.small)

pub returns-clause-formed : goal.returns-clause-formed
returns-clause-formed c =
    let s = c.args.k.now in
    let t = c.all_arguments.new.k in
    let u = c.conclusion.new.k in
    let v = c.filled.new.k in
    let R = rule_of s.items c.args.r in
    let b = (entry_of s.items c.args.b).statement in
    let xs = statements_of s.items c.args.args.now in
    let ps = c.in-Ok.given.instance.pairs in
    let hs = c.items.result.now in
    let there = conclusion_there s t c.args.r ps xs c.in-Ok.ensures.stays.0 c.in-Ok.ensures.instance in
    let q : filled_at u.trees c.in-Ok-conclusion.goal c.args.r hs ≡ concluded R c.args.r xs =
    filled_there s t u c.args.r ps hs c.in-Ok-conclusion.goal xs c.in-Ok.ensures.stays.0 c.in-Ok-conclusion.ensures.stays.1 c.in-Ok.ensures.instance
    (ap (arguments_in t.trees) c.items.ensures ∙ c.in-Ok.ensures.heads) (subst (ArgumentsBelow (length t.trees)) (sym c.items.ensures) c.in-Ok.ensures.below) c.in-Ok-conclusion.ensures.goal in
    subst (Stops v.trees (rule_with_checks c.args.r R b xs)) (sym c.from-in-Err-filled.ensures)
    (with_filled_big v.trees c.args.r R b xs c.in-Err-filled.fault (theses_are s c.args.args.now c.requires.arguments) (boundary_there s c.args.b c.requires.boundary) c.in-Ok.ensures.checks
    (subst (λ g. AllSmall (claim_expressions g)) there c.in-Ok-conclusion.ensures.small)
    (compared s t u c.args.r c.args.b ps c.in-Ok-conclusion.goal c.boundary_at.result.now xs (Ok c.in-Ok-same_goal.field-0) c.in-Ok.ensures.stays.0 c.in-Ok-conclusion.ensures.stays.0 c.in-Ok.ensures.instance c.in-Ok-conclusion.ensures.goal c.boundary_at.ensures.boundary
    (subst (λ ts. Tests {A = ⊤} ts (boundary_checks (boundary_in ts c.boundary_at.result.now) (plain_goal_in ts c.in-Ok-conclusion.goal)) (Ok c.in-Ok-same_goal.field-0)) c.terms.ensures.terms c.in-Ok-same_goal.ensures))
    (subst (λ g. BigOr (AllSmall (claim_expressions g)) c.in-Err-filled.fault) q c.in-Err-filled.ensures.small))
