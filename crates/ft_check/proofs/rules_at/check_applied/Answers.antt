use Rattle.std.proofs.Common.{take, ap, ◌∙◌}
use Rattle.ft_items.specs.Store.{each, entry_named, store_of}
use Rattle.ft_check.proofs.Applies.{not_read}
use Rattle.ft_check.proofs.rules_at.check_applied.Goals as goal

pub returns-in-None : goal.returns-in-None
returns-in-None c = λ R given t g e p a. not_read _ _ (c.rule_at_hand.ensures.is R g e) c.in-None.is

pub returns-in-Some : goal.returns-in-Some
returns-in-Some c = λ R given t g e p a.
    c.check_at.ensures R given t g (c.in-Some.ensures.is R g e) (ap (each (entry_named (store_of (take c.args.i c.args.items.now.items)))) c.items.ensures ∙ p) a
