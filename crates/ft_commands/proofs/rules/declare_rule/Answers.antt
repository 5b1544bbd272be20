use Rattle.std.proofs.Common.{sym, subst}
use Rattle.std.specs.Prelude.{Ok}
use Rattle.ft_reference.specs.Declare.{finish}
use Rattle.ft_meaning.specs.Values.{OfRule, declare}
use Rattle.ft_values.specs.Kept.{stated_at}
use Rattle.ft_running.specs.Evaluation.{GoesFurther, run_of}
use Rattle.ft_drafting.specs.Drafting.{TellsRule, draft_over}
use Rattle.ft_commands.specs.Parts.{conclusion_of, conclusion_place}
use Rattle.ft_commands.proofs.Ruled.{rule_accepted}
use Rattle.ft_running.proofs.Further.{further_both}
use Rattle.ft_drafting.proofs.Staying.{draft_further}
use Rattle.ft_commands.proofs.rules.declare_rule.Goals as goal

pub returns-in-Err-of_conclusion-clause-further : goal.returns-in-Err-of_conclusion-clause-further
returns-in-Err-of_conclusion-clause-further c =
    further_both c.args.state.now c.declare_premises.new.state c.of_conclusion.new.state c.declare_premises.ensures.further c.of_conclusion.ensures.further

pub finish-requires-clause-draft : goal.finish-requires-clause-draft
finish-requires-clause-draft c =
    draft_further c.declare_premises.new.state c.of_conclusion.new.state c.declare_premises.new.draft c.of_conclusion.ensures.further c.in-Ok-declare_premises.ensures.tells.1

pub returns-in-Ok-finish-clause-tells : goal.returns-in-Ok-finish-clause-tells
returns-in-Ok-finish-clause-tells c =
    let g = c.of_conclusion.new.state in
    let d = c.declare_premises.new.draft in
    let h = c.finish.new.state in
    rule_accepted c.args.state.now c.declare_premises.new.state g h c.args.name.now c.args.premises.now (conclusion_place c.args.conclusion.now) (conclusion_of c.args.conclusion.now)
    c.in-Ok.draft d c.in-Ok-declare_premises.scope c.in-Ok-of_conclusion.b c.in-Ok-finish.field-0 c.in-Ok.ensures.tells c.in-Ok-declare_premises.ensures.tells
    c.declare_premises.ensures.further c.in-Ok-of_conclusion.ensures.tells c.of_conclusion.ensures.further
    (subst (λ at. TellsRule (declare OfRule at (λ W. finish W (draft_over g d) (stated_at g.list c.in-Ok-of_conclusion.b)) (run_of g)) (Ok c.in-Ok-finish.field-0) h) c.place_of.ensures c.in-Ok-finish.ensures.tells)
    c.in-Ok-finish.ensures.ok c.holds.ensures c.holds-2.ensures c.in-Ok-declare_premises.ensures.name

pub returns-clause-further : goal.returns-clause-further
returns-clause-further c =
    subst (λ e. GoesFurther c.args.state.now e) (sym c.in-Err-finish.ensures.err)
    (further_both c.args.state.now c.declare_premises.new.state c.of_conclusion.new.state c.declare_premises.ensures.further c.of_conclusion.ensures.further)
