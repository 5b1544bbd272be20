use Rattle.std.proofs.Common.{◌≡◌, ◌∙◌, sym, ap, option_map}
use Rattle.ft_theory.specs.Rules.{look_up}
use Rattle.ft_items.specs.Store.{variables_in, declared_by}
use Rattle.ft_kernel.specs.State.{variable_numbered}
use Rattle.ft_meaning.specs.Texts.{name_if_any}
use Rattle.ft_print.proofs.Naming.{found_is, found_numbered, not_found, variable_named, variable_unnamed, name_written, nothing_written}
use Rattle.ft_print.proofs.names.push_variable_name.Goals as goal

pub var-requires : goal.var-requires
var-requires c = found_numbered (variables_in c.args.k.now.items) c.args.v c.in-Some.found (sym c.var_numbered.ensures ∙ c.in-Some.is)

pub returns-in-Some : goal.returns-in-Some
returns-in-Some c =
    let items = c.args.k.now.items in
    let x = c.var.result.now in
    let same : c.in-Some.found ≡ c.args.v = found_is (variable_numbered (variables_in items) c.args.v) c.args.v c.in-Some.found (sym c.var_numbered.ensures ∙ c.in-Some.is) in
    let text = variable_named items c.args.v x.name x.ty c.requires.good (ap (variable_numbered (variables_in items)) (sym same) ∙ c.var.ensures.variable) in
    record { ok = name_written c.push_chars.result c.args.out.now c.push_chars.new.self c.chars.result.now x.name (name_if_any (option_map (λ d. d.name) (look_up (declared_by items).variables c.args.v))) c.chars.ensures.value text c.push_chars.ensures.ok }

pub returns-in-None : goal.returns-in-None
returns-in-None c =
    let items = c.args.k.now.items in
    record { ok = nothing_written c.args.out.now (name_if_any (option_map (λ d. d.name) (look_up (declared_by items).variables c.args.v))) (variable_unnamed items c.args.v c.requires.good (not_found (variable_numbered (variables_in items) c.args.v) c.args.v (sym c.var_numbered.ensures ∙ c.in-None.is))) }
