use Rattle.std.proofs.Common.{◌≡◌, ◌∙◌, ap, sym, subst, Some}
use Rattle.ft_items.specs.Item.{variable, metavariable, rule, entry}
use Rattle.ft_items.specs.Store.{nth, metavariables_in, rules_in}
use Rattle.ft_judge.specs.Meaning.{thesis_in, boundary_in}
use Rattle.ft_kernel.specs.Steps.{step_of}
use Rattle.std.proofs.lemmas.Result.{on_ok_weaker}
use Rattle.ft_items.proofs.Lists.{nth_within}
use Rattle.ft_export.proofs.Places.{metavariable_place, rule_place, variable_there, variable_read, metavariable_read, rule_read, entry_read, entry_there}
use Rattle.ft_export.proofs.lines.push_item.Goals as goal

pub var-requires : goal.var-requires
var-requires c = variable_there c.args.k.now.items c.args.i c.in-Var.v c.in-Var.ensures.0 c.in-Var.ensures.1 c.in-Var.ensures.2

pub met-requires : goal.met-requires
met-requires c =
    let h = c.in-Met.ensures in
    nth_within (metavariables_in c.args.k.now.items) c.in-Met.m (h.0, h.1) (ap (nth (metavariables_in c.args.k.now.items)) h.3 ∙ metavariable_place c.args.k.now.items c.args.i h.0 h.1 h.2)

pub rule-requires : goal.rule-requires
rule-requires c =
    let h = c.in-Rule.ensures in
    nth_within (rules_in c.args.k.now.items) c.in-Rule.r (h.0, h.1, h.2) (ap (nth (rules_in c.args.k.now.items)) h.4 ∙ rule_place c.args.k.now.items c.args.i h.0 h.1 h.2 h.3)

pub returns-in-Var : goal.returns-in-Var
returns-in-Var c =
    let h = c.in-Var.ensures in
    let x = c.var.result.now in
    let at : nth c.args.k.now.items c.args.i ≡ Some (variable x.number x.name x.ty) =
    variable_read c.args.k.now.items c.args.i c.in-Var.v h.0 h.1 x.number x.name x.ty c.var.ensures.good h.2 c.var.ensures.number c.var.ensures.variable in
    record { ok = on_ok_weaker c.push_variable.result (λ l. (variable x.number x.name x.ty, at, l)) c.push_variable.ensures.ok }

pub returns-in-Met : goal.returns-in-Met
returns-in-Met c =
    let h = c.in-Met.ensures in
    let x = c.met.result.now in
    let at : nth c.args.k.now.items c.args.i ≡ Some (metavariable x.name x.boundary) =
    metavariable_read c.args.k.now.items c.args.i c.in-Met.m h.0 h.1 x.name x.boundary h.2 h.3 c.met.ensures.metavariable in
    record { ok = on_ok_weaker c.push_metavariable.result (λ l. (metavariable x.name x.boundary, at, l)) c.push_metavariable.ensures.ok }

pub returns-in-Rule : goal.returns-in-Rule
returns-in-Rule c =
    let h = c.in-Rule.ensures in
    let x = c.rule.result.now in
    let at : nth c.args.k.now.items c.args.i ≡ Some (rule x.name x.premises x.conclusion) =
    rule_read c.args.k.now.items c.args.i c.in-Rule.r h.0 h.1 h.2 x.name x.premises x.conclusion h.3 h.4 c.rule.ensures.rule in
    record { ok = on_ok_weaker c.push_rule.result (λ l. (rule x.name x.premises x.conclusion, at, l)) c.push_rule.ensures.ok }

pub thesis_of-requires : goal.thesis_of-requires
thesis_of-requires c =
    let h = c.in-Thesis.ensures in
    (record { statement = h.0; set = h.1 }, entry_there c.args.k.now.items c.args.i c.in-Thesis.j h.0 h.1 (step_of c.in-Thesis.step.now) h.2 h.4, h.3)

pub asm_of-requires : goal.asm_of-requires
asm_of-requires c =
    let h = c.in-Thesis.ensures in
    (record { statement = h.0; set = h.1 }, entry_there c.args.k.now.items c.args.i c.in-Thesis.j h.0 h.1 (step_of c.in-Thesis.step.now) h.2 h.4, h.3)

pub returns-in-Thesis : goal.returns-in-Thesis
returns-in-Thesis c =
    let h = c.in-Thesis.ensures in
    let s = step_of c.in-Thesis.step.now in
    let S = c.asm_of.result.now in
    let y = c.thesis_of.result.now in
    let there : nth c.args.k.now.items c.args.i ≡ Some (entry (record { statement = thesis_in c.args.k.now.trees y; set = S; step = s })) =
    entry_read c.args.k.now.items c.args.i c.in-Thesis.j h.0 h.1 s (thesis_in c.args.k.now.trees y) S h.2 h.4 c.thesis_of.ensures.thesis c.asm_of.ensures in
    let at : nth c.args.k.now.items c.args.i ≡ Some (entry (record { statement = thesis_in c.terms.result.now y; set = S; step = s })) =
    subst (λ ts. nth c.args.k.now.items c.args.i ≡ Some (entry (record { statement = thesis_in ts y; set = S; step = s }))) (sym c.terms.ensures.terms) there in
    record { ok = on_ok_weaker c.push_judgement.result (λ l. (entry (record { statement = thesis_in c.terms.result.now y; set = S; step = s }), at, l)) c.push_judgement.ensures.ok }

pub boundary_at-requires : goal.boundary_at-requires
boundary_at-requires c =
    let h = c.in-Boundary.ensures in
    (record { statement = h.0; set = h.1 }, entry_there c.args.k.now.items c.args.i c.in-Boundary.b h.0 h.1 (step_of c.in-Boundary.step.now) h.2 h.4, h.3)

pub set_of-requires : goal.set_of-requires
set_of-requires c =
    let h = c.in-Boundary.ensures in
    (record { statement = h.0; set = h.1 }, entry_there c.args.k.now.items c.args.i c.in-Boundary.b h.0 h.1 (step_of c.in-Boundary.step.now) h.2 h.4, h.3)

pub returns-in-Boundary : goal.returns-in-Boundary
returns-in-Boundary c =
    let h = c.in-Boundary.ensures in
    let s = step_of c.in-Boundary.step.now in
    let S = c.set_of.result.now in
    let y = c.boundary_at.result.now in
    let there : nth c.args.k.now.items c.args.i ≡ Some (entry (record { statement = boundary_in c.args.k.now.trees y; set = S; step = s })) =
    entry_read c.args.k.now.items c.args.i c.in-Boundary.b h.0 h.1 s (boundary_in c.args.k.now.trees y) S h.2 h.4 c.boundary_at.ensures.boundary c.set_of.ensures in
    let at : nth c.args.k.now.items c.args.i ≡ Some (entry (record { statement = boundary_in c.terms-in-Boundary.result.now y; set = S; step = s })) =
    subst (λ ts. nth c.args.k.now.items c.args.i ≡ Some (entry (record { statement = boundary_in ts y; set = S; step = s }))) (sym c.terms-in-Boundary.ensures.terms) there in
    record { ok = on_ok_weaker c.push_boundary_entry.result (λ l. (entry (record { statement = boundary_in c.terms-in-Boundary.result.now y; set = S; step = s }), at, l)) c.push_boundary_entry.ensures.ok }
