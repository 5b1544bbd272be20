use Rattle.std.proofs.Common.{rules, ◌≡◌, ◌∙◌, ap, sym, true, false, not, take}
use Rattle.std.specs.Prelude.{is_some, option_map}
use Rattle.std.specs.List.{list_all}
use Rattle.ft_items.specs.Store.{each, metavariable_named, metavariables_in, nth, declared_by}
use Rattle.ft_check.specs.Entries.{entry_in}
use Rattle.ft_check.proofs.Naming.{room_is}
use Rattle.ft_check.proofs.Premises.{named_all}
use Rattle.ft_check.proofs.RuleReasons.{rule_too_many, rule_so_far, rule_unknown, rule_no_entry, rule_with_entry}
use Rattle.ft_check.proofs.rules.check_rule.Goals as goal

pub returns-then-has_rule_before : goal.returns-then-has_rule_before
returns-then-has_rule_before c =
    let new : true ≡ c.is_new.result = search rules in
    λ g. rule_too_many _ _ _ (new ∙ c.is_new.ensures g) (room_is (take c.args.i c.args.items.now.items) c.has_rule_before.result g c.has_rule_before.ensures ∙ ap not c.if-has_rule_before.true)

pub returns-then-not-are_metavariables : goal.returns-then-not-are_metavariables
returns-then-not-are_metavariables c =
    let new : true ≡ c.is_new.result = search rules in
    let same : c.items.result.now ≡ c.args.ms.now = search rules in
    let failed : c.are_metavariables.result ≡ false = search rules in
    λ g. rule_so_far _ _ _ _ (new ∙ c.is_new.ensures g) (room_is (take c.args.i c.args.items.now.items) c.has_rule_before.result g c.has_rule_before.ensures ∙ ap not c.if-has_rule_before.false)
    (rule_unknown _ _ (sym (named_all (take c.args.i c.args.items.now.items) c.args.ms.now g)
    ∙ ap (list_all (λ m. is_some (nth (metavariables_in (take c.args.i c.args.items.now.items)) m))) (sym same) ∙ sym c.are_metavariables.ensures ∙ failed))

pub returns-in-None : goal.returns-in-None
returns-in-None c =
    let new : true ≡ c.is_new.result = search rules in
    λ g. rule_so_far _ _ _ _ (new ∙ c.is_new.ensures g) (room_is (take c.args.i c.args.items.now.items) c.has_rule_before.result g c.has_rule_before.ensures ∙ ap not c.if-has_rule_before.false)
    (rule_no_entry _ _ (sym (ap (option_map (entry_in c.args.items.now.trees)) c.in-None.is) ∙ c.entry_before.ensures.entry))

pub returns-in-Some : goal.returns-in-Some
returns-in-Some c =
    let new : true ≡ c.is_new.result = search rules in
    let same : c.items.result.now ≡ c.args.ms.now = search rules in
    let again : c.items-in-Some.result.now ≡ c.args.ms.now = search rules in
    let passed : c.are_metavariables.result ≡ true = search rules in
    let T = c.args.items.now.trees in
    λ g. rule_so_far _ _ _ _ (new ∙ c.is_new.ensures g) (room_is (take c.args.i c.args.items.now.items) c.has_rule_before.result g c.has_rule_before.ensures ∙ ap not c.if-has_rule_before.false)
    (rule_with_entry _ _ (entry_in T c.in-Some.found) _
    (sym (named_all (take c.args.i c.args.items.now.items) c.args.ms.now g)
    ∙ ap (list_all (λ m. is_some (nth (metavariables_in (take c.args.i c.args.items.now.items)) m))) (sym same) ∙ sym c.are_metavariables.ensures ∙ passed)
    (sym (ap (option_map (entry_in T)) c.in-Some.is) ∙ c.entry_before.ensures.entry)
    (λ ds h. c.against_conclusion.ensures T ds g (ap (each (metavariable_named (declared_by (take c.args.i c.args.items.now.items)))) again ∙ h)))
