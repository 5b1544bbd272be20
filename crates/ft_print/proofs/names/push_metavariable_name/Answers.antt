use Rattle.std.proofs.Common.{◌≡◌, ◌∙◌, sym, ap, length, option_map}
use Rattle.ft_items.specs.Store.{nth, metavariables_in, declared_by}
use Rattle.ft_meaning.specs.Texts.{name_if_any}
use Rattle.ft_print.proofs.Naming.{below_is, past_bound, metavariable_named, metavariable_unnamed, name_written, nothing_written}
use Rattle.ft_print.proofs.names.push_metavariable_name.Goals as goal

pub returns-in-Some : goal.returns-in-Some
returns-in-Some c =
    let items = c.args.k.now.items in
    let x = c.met.result.now in
    let same : c.in-Some.found ≡ c.args.m = below_is c.args.m (length (metavariables_in items)) c.in-Some.found (sym c.met_numbered.ensures ∙ c.in-Some.is) in
    let text = metavariable_named items c.args.m x.name x.boundary c.requires.good (ap (nth (metavariables_in items)) (sym same) ∙ c.met.ensures.metavariable) in
    record { ok = name_written c.push_chars.result c.args.out.now c.push_chars.new.self c.chars.result.now x.name (name_if_any (option_map (λ d. d.name) (nth (declared_by items).metavariables c.args.m))) c.chars.ensures.value text c.push_chars.ensures.ok }

pub returns-in-None : goal.returns-in-None
returns-in-None c =
    let items = c.args.k.now.items in
    record { ok = nothing_written c.args.out.now (name_if_any (option_map (λ d. d.name) (nth (declared_by items).metavariables c.args.m))) (metavariable_unnamed items c.args.m c.requires.good (past_bound c.args.m (length (metavariables_in items)) (sym c.met_numbered.ensures ∙ c.in-None.is))) }
