use Rattle.std.proofs.Common.{◌∙◌, ap, sym}
use Rattle.ft_theory.specs.Statements.{plain}
use Rattle.ft_items.specs.Rows.{type_of_boundary}
use Rattle.ft_judge.specs.Meaning.{goal_in}
use Rattle.ft_parts.proofs.Lines.{IsRule, rule_there, rule_boundary}
use Rattle.ft_parts.proofs.Declared.{concluded_is, no_type}
use Rattle.ft_parts.proofs.reading.type_of_conclusion.Goals as goal

pub boundary_at-requires : goal.boundary_at-requires
boundary_at-requires c =
    let x = c.rule.result.now in
    rule_boundary c.args.k.now c.args.r x.premises x.conclusion (rule_there c.args.k.now c.args.r (x.name, x.premises, x.conclusion) c.rule.ensures.good c.rule.ensures.rule)

pub returns-in-Tm-clause-ty : goal.returns-in-Tm-clause-ty
returns-in-Tm-clause-ty c =
    let s = c.args.k.now in
    let x = c.rule.result.now in
    let R : IsRule s c.args.r x.premises x.conclusion = rule_there s c.args.r (x.name, x.premises, x.conclusion) c.rule.ensures.good c.rule.ensures.rule in
    ap (λ g. type_of_boundary (plain (goal_in s.trees g))) (sym c.in-Tm.is) ∙ concluded_is s c.args.r x.premises x.conclusion c.boundary_at.result.now R c.boundary_at.ensures.boundary

pub returns-in_default : goal.returns-in_default
returns-in_default c =
    let s = c.args.k.now in
    let x = c.rule.result.now in
    let R : IsRule s c.args.r x.premises x.conclusion = rule_there s c.args.r (x.name, x.premises, x.conclusion) c.rule.ensures.good c.rule.ensures.rule in
    record {
      ty = no_type s.trees c.boundary_at.result.now.goal c.in_default.not-Tm ∙ concluded_is s c.args.r x.premises x.conclusion c.boundary_at.result.now R c.boundary_at.ensures.boundary;
      below = tt;
    }
