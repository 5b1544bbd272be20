use Rattle.std.proofs.Common.{◌∙◌, length, sym, ap}
use Rattle.std.specs.Prelude.{◌==◌}
use Rattle.ft_apply.proofs.Goals.{domains_unlike}
use Rattle.ft_apply.proofs.applying.same_goal.Goals as goal

pub returns-then-not-is_empty : goal.returns-then-not-is_empty
returns-then-not-is_empty c = domains_unlike c.args.t.now c.args.b.now c.args.goal.now (ap (λ ds. length ds == 0) (sym c.items.ensures) ∙ sym c.is_empty.ensures ∙ c.if-not-is_empty.true)
