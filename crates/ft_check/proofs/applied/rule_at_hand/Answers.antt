use Rattle.std.proofs.Common.{take, refl, sym, ap, ◌∙◌}
use Rattle.std.specs.Prelude.{option_map}
use Rattle.ft_judge.specs.Meaning.{goal_in}
use Rattle.ft_check.specs.Entries.{entry_in, line_in}
use Rattle.ft_check.proofs.Applies.{no_goal_read, no_rule, not_declared, no_goal_found, rule_read}
use Rattle.ft_check.proofs.applied.rule_at_hand.Goals as goal

pub returns-in_err-line-clause-is : goal.returns-in_err-line-clause-is
returns-in_err-line-clause-is c = λ R g e. no_rule (take c.args.i c.args.items.now.items) c.args.r R g e (sym (ap (option_map line_in) c.in_err-line.was) ∙ c.rule_before.ensures)

pub returns-in_err-conclusion-clause-is : goal.returns-in_err-conclusion-clause-is
returns-in_err-conclusion-clause-is c = λ R g e.
    no_goal_found (take c.args.i c.args.items.now.items) c.args.r c.in_ok-line.line.premises.now c.in_ok-line.line.conclusion R g e
    (sym (ap (option_map line_in) c.in_ok-line.was) ∙ c.rule_before.ensures) (sym (ap (option_map (entry_in c.args.items.now.trees)) c.in_err-conclusion.was) ∙ c.entry_before.ensures.entry)

pub returns-in_err-goal-clause-is : goal.returns-in_err-goal-clause-is
returns-in_err-goal-clause-is c = λ R g e.
    no_goal_read (take c.args.i c.args.items.now.items) c.args.r c.in_ok-line.line.premises.now c.in_ok-line.line.conclusion R (entry_in c.args.items.now.trees c.in_ok-conclusion.conclusion) g e
    (sym (ap (option_map line_in) c.in_ok-line.was) ∙ c.rule_before.ensures) (sym (ap (option_map (entry_in c.args.items.now.trees)) c.in_ok-conclusion.was) ∙ c.entry_before.ensures.entry)
    (λ t p. sym (ap (option_map (goal_in c.args.items.now.trees)) c.in_err-goal.was) ∙ c.goal.ensures.is c.args.items.now.trees t p)

pub returns-clause-is : goal.returns-clause-is
returns-clause-is c = λ R g e.
    rule_read c.args.items.now.trees (take c.args.i c.args.items.now.items) c.args.r _ c.in_ok-line.line.premises.now c.in_ok-line.line.conclusion R (entry_in c.args.items.now.trees c.in_ok-conclusion.conclusion) g e
    (sym (ap (option_map line_in) c.in_ok-line.was) ∙ c.rule_before.ensures) (sym (ap (option_map (entry_in c.args.items.now.trees)) c.in_ok-conclusion.was) ∙ c.entry_before.ensures.entry)
    (λ t p. sym (ap (option_map (goal_in c.args.items.now.trees)) c.in_ok-goal.was) ∙ c.goal.ensures.is c.args.items.now.trees t p) refl c.items.ensures

pub returns-clause-below : goal.returns-clause-below
returns-clause-below c = c.in_ok-goal.ensures.below _ c.in_ok-conclusion.ensures.below

pub returns-clause-none : goal.returns-clause-none
returns-clause-none c = λ g e. not_declared (take c.args.i c.args.items.now.items) c.args.r c.in_ok-line.line.premises.now c.in_ok-line.line.conclusion g e (sym (ap (option_map line_in) c.in_ok-line.was) ∙ c.rule_before.ensures)
