use Rattle.std.proofs.Common.{◌≡◌, ◌<◌, ◌∙◌, length, subst, sym, ap}
use Rattle.ft_items.specs.Equal.{heads}
use Rattle.ft_items.specs.Store.{rules_in}
use Rattle.ft_reference.specs.Refusals.{AllSmall, claim_expressions}
use Rattle.ft_reference.specs.Checks.{rule_checks}
use Rattle.ft_syntax.specs.Table.{arguments_in, ArgumentsBelow}
use Rattle.ft_syntax.specs.Laws.{arguments_below_extends}
use Rattle.ft_apply.specs.Named.{statements_of, rule_of}
use Rattle.ft_apply.specs.Outcomes.{Stops}
use Rattle.ft_apply.specs.Instances.{goal_at, filled_at}
use Rattle.ft_apply.proofs.Naming.{theses_are}
use Rattle.ft_apply.proofs.Concluded.{rule_misfit, rule_big, rule_formed, concluded, concluded_small, filled_there}
use Rattle.ft_apply.proofs.applying.applied_formed.Goals as goal

pub returns-in-Err-clause-formed : goal.returns-in-Err-clause-formed
returns-in-Err-clause-formed c =
    let s = c.args.k.now in
    rule_misfit c.all_arguments.new.k.trees c.args.r (rule_of s.items c.args.r) (statements_of s.items c.args.args.now) c.in-Err.fault c.in-Err.ensures.checks

pub conclusion-requires-clause-rule : goal.conclusion-requires-clause-rule
conclusion-requires-clause-rule c = subst (λ items. c.args.r < length (rules_in items)) (sym c.in-Ok.ensures.stays.0) c.requires.rule

pub filled-requires-clause-heads : goal.filled-requires-clause-heads
filled-requires-clause-heads c =
    let t = c.all_arguments.new.k in
    let u = c.conclusion.new.k in
    subst (ArgumentsBelow (length u.trees)) (sym c.items.ensures) (arguments_below_extends t.trees u.trees c.in-Ok.given.heads c.in-Ok-conclusion.ensures.stays.1 c.in-Ok.ensures.below)

pub filled-requires-clause-small : goal.filled-requires-clause-small
filled-requires-clause-small c = subst (λ g. AllSmall (claim_expressions g)) (sym c.in-Ok-conclusion.ensures.goal) c.in-Ok-conclusion.ensures.small

pub returns-in-Err-conclusion-clause-formed : goal.returns-in-Err-conclusion-clause-formed
returns-in-Err-conclusion-clause-formed c =
    let s = c.args.k.now in
    let t = c.all_arguments.new.k in
    let u = c.conclusion.new.k in
    let R = rule_of s.items c.args.r in
    let xs = statements_of s.items c.args.args.now in
    let ps = c.in-Ok.given.instance.pairs in
    subst (Stops u.trees (rule_checks c.args.r R xs)) (sym c.from.ensures)
    (rule_big u.trees c.args.r R xs (AllSmall (claim_expressions (goal_at t.trees ps (rule_of t.items c.args.r).conclusion))) c.in-Err-conclusion.fault (theses_are s c.args.args.now c.requires.arguments) c.in-Ok.ensures.checks
    (concluded_small s t c.args.r ps xs c.in-Ok.ensures.stays.0 c.in-Ok.ensures.instance) c.in-Err-conclusion.ensures.small)

pub returns-in-Ok-filled-clause-formed : goal.returns-in-Ok-filled-clause-formed
returns-in-Ok-filled-clause-formed c =
    let s = c.args.k.now in
    let t = c.all_arguments.new.k in
    let u = c.conclusion.new.k in
    let v = c.filled.new.k in
    let R = rule_of s.items c.args.r in
    let xs = statements_of s.items c.args.args.now in
    let ps = c.in-Ok.given.instance.pairs in
    let hs = c.items.result.now in
    let q : filled_at u.trees c.in-Ok-conclusion.goal c.args.r hs ≡ concluded R c.args.r xs =
    filled_there s t u c.args.r ps hs c.in-Ok-conclusion.goal xs c.in-Ok.ensures.stays.0 c.in-Ok-conclusion.ensures.stays.1 c.in-Ok.ensures.instance
    (ap (arguments_in t.trees) c.items.ensures ∙ c.in-Ok.ensures.heads) (subst (ArgumentsBelow (length t.trees)) (sym c.items.ensures) c.in-Ok.ensures.below) c.in-Ok-conclusion.ensures.goal in
    rule_formed v.trees c.args.r R xs c.in-Ok-filled.form (theses_are s c.args.args.now c.requires.arguments) c.in-Ok.ensures.checks (c.in-Ok-filled.ensures.form ∙ q) (subst (λ g. AllSmall (claim_expressions g)) q c.in-Ok-filled.ensures.small)

pub returns-clause-formed : goal.returns-clause-formed
returns-clause-formed c =
    let s = c.args.k.now in
    let t = c.all_arguments.new.k in
    let u = c.conclusion.new.k in
    let v = c.filled.new.k in
    let R = rule_of s.items c.args.r in
    let xs = statements_of s.items c.args.args.now in
    let ps = c.in-Ok.given.instance.pairs in
    let hs = c.items.result.now in
    let q : filled_at u.trees c.in-Ok-conclusion.goal c.args.r hs ≡ concluded R c.args.r xs =
    filled_there s t u c.args.r ps hs c.in-Ok-conclusion.goal xs c.in-Ok.ensures.stays.0 c.in-Ok-conclusion.ensures.stays.1 c.in-Ok.ensures.instance
    (ap (arguments_in t.trees) c.items.ensures ∙ c.in-Ok.ensures.heads) (subst (ArgumentsBelow (length t.trees)) (sym c.items.ensures) c.in-Ok.ensures.below) c.in-Ok-conclusion.ensures.goal in
    subst (Stops v.trees (rule_checks c.args.r R xs)) (sym c.from-in-Err-filled.ensures)
    (rule_big v.trees c.args.r R xs (AllSmall (claim_expressions (filled_at u.trees c.in-Ok-conclusion.goal c.args.r hs))) c.in-Err-filled.fault (theses_are s c.args.args.now c.requires.arguments) c.in-Ok.ensures.checks
    (subst (λ g. AllSmall (claim_expressions g)) (sym q)) c.in-Err-filled.ensures.small)
