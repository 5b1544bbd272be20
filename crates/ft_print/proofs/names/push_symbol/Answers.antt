use Rattle.std.proofs.Common.{◌≡◌, ◌∙◌, sym, ap, length}
use Rattle.ft_items.specs.Store.{nth, rules_in, declared_by}
use Rattle.ft_meaning.specs.Texts.{name_if_any}
use Rattle.ft_print.proofs.Naming.{below_is, past_bound, rule_named, rule_unnamed, name_written, nothing_written}
use Rattle.ft_print.proofs.names.push_symbol.Goals as goal

pub returns-in-Some : goal.returns-in-Some
returns-in-Some c =
    let items = c.args.k.now.items in
    let x = c.rule.result.now in
    let same : c.in-Some.rule ≡ c.args.s = below_is c.args.s (length (rules_in items)) c.in-Some.rule (sym c.rule_numbered.ensures ∙ c.in-Some.is) in
    let text = rule_named items c.args.s x.name x.premises x.conclusion c.requires.good (ap (nth (rules_in items)) (sym same) ∙ c.rule.ensures.rule) in
    record { ok = name_written c.push_chars.result c.args.out.now c.push_chars.new.self c.chars.result.now x.name (name_if_any (nth (declared_by items).names c.args.s)) c.chars.ensures.value text c.push_chars.ensures.ok }

pub returns-in-None : goal.returns-in-None
returns-in-None c =
    let items = c.args.k.now.items in
    record { ok = nothing_written c.args.out.now (name_if_any (nth (declared_by items).names c.args.s)) (rule_unnamed items c.args.s c.requires.good (past_bound c.args.s (length (rules_in items)) (sym c.rule_numbered.ensures ∙ c.in-None.is))) }
