use Rattle.std.proofs.Common.{sym, ◌∙◌}
use Rattle.ft_check.proofs.TypeEntries.{first_within, type_later}
use Rattle.ft_check.proofs.typed.type_before.Goals as goal

pub item-requires : goal.item-requires
item-requires c = first_within c.args.v c.args.items.now.items c.in_ok-place.place (sym c.in_ok-place.was ∙ c.var_place.ensures)

pub returns-else-place-i : goal.returns-else-place-i
returns-else-place-i c = type_later c.args.v c.args.items.now.items c.args.i c.in_ok-place.place (sym c.in_ok-place.was ∙ c.var_place.ensures) c.if-place-i.false
