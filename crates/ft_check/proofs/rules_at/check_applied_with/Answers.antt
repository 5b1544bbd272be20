use Rattle.std.proofs.Common.{take, sym, ap, ◌∙◌}
use Rattle.std.specs.Prelude.{option_map}
use Rattle.std.proofs.lemmas.Option.{same_Some}
use Rattle.ft_items.specs.Equal.{is_thesis}
use Rattle.ft_items.specs.Rows.{rule_instance_with, sets, statements}
use Rattle.ft_items.specs.Sets.{union, unions}
use Rattle.ft_items.specs.Good.{reason_of_result}
use Rattle.ft_items.specs.Store.{Assertion, each, entry_named, store_of}
use Rattle.ft_check.specs.Entries.{entry_in, with_step}
use Rattle.ft_check.proofs.Applies.{not_read}
use Rattle.ft_common.proofs.Options.{none_some}
use Rattle.std.proofs.lemmas.Result.{IfOk-weaker}
use Rattle.ft_check.proofs.rules_at.check_applied_with.Goals as goal

pub returns-in_default : goal.returns-in_default
returns-in_default c = λ R b given t g e h k p a. none_some (sym (ap (option_map (entry_in c.args.items.now.trees)) c.in_default.is) ∙ c.entry_before.ensures.entry ∙ h)

pub returns-in_default-rule_at_hand : goal.returns-in_default-rule_at_hand
returns-in_default-rule_at_hand c = λ R b given t g e h k p a. not_read _ _ (c.rule_at_hand.ensures.is R g e) c.in_default-rule_at_hand.is

pub returns : goal.returns
returns c = λ R b given t g e h w p a.
    let T = c.args.items.now.trees in
    let same = same_Some (entry_in T c.in-Some.bound) b (sym (ap (option_map (entry_in T)) c.in-Some.is) ∙ c.entry_before.ensures.entry ∙ h) in
    IfOk-weaker c.check_at_with.result _ _ (λ x y. y ∙ ap (λ (a : Assertion). reason_of_result (rule_instance_with R.0 R.1 a.statement (statements given)) (union a.set (unions (sets given))) (with_step (entry_in T c.args.found) t)) same)
    (c.check_at_with.ensures R given t g (c.in-Some-rule_at_hand.ensures.is R g e) (ap (λ (a : Assertion). is_thesis a.statement) same ∙ w)
    (ap (each (entry_named (store_of (take c.args.i c.args.items.now.items)))) c.items.ensures ∙ p) a)
