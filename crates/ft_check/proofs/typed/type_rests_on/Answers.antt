use Rattle.std.proofs.Common.{take, sym, ◌∙◌}
use Rattle.ft_theory.specs.Rules.{look_up}
use Rattle.ft_items.specs.Store.{declared_by}
use Rattle.ft_common.proofs.Options.{none_some}
use Rattle.ft_check.proofs.Bindings.{as_some, not_some, rests_none, rests_some}
use Rattle.ft_check.proofs.typed.type_rests_on.Goals as goal

pub returns-in-None : goal.returns-in-None
returns-in-None c = λ g. rests_none c.args.v (look_up (declared_by (take c.args.i c.args.items.now.items)).variables c.args.w) (λ d e. not_some _ _ (c.typed_before.ensures.is d g e) c.in-None.is)

pub returns-in-Some : goal.returns-in-Some
returns-in-Some c = λ g. rests_some c.args.v (look_up (declared_by (take c.args.i c.args.items.now.items)).variables c.args.w) c.contains.result c.in-Some.x.set.now c.contains.ensures
    (λ e. none_some (sym (c.typed_before.ensures.none g e) ∙ c.in-Some.is))
    (λ d e. (as_some _ _ c.in-Some.x (c.typed_before.ensures.is d g e) c.in-Some.is).set)
