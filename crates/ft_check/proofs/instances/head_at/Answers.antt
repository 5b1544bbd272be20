use Rattle.std.proofs.Common.{Some, sym, ap, ◌∙◌}
use Rattle.ft_check.specs.Entries.{entry_in}
use Rattle.ft_check.proofs.HeadsPut.{no_thesis}
use Rattle.ft_check.proofs.instances.head_at.Goals as goal

pub returns-in-Some-Boundary-clause-head : goal.returns-in-Some-Boundary-clause-head
returns-in-Some-Boundary-clause-head c = λ a e h. no_thesis c.args.items.now.trees c.in-Some-Boundary.field-0-0.now c.in-Some-Boundary.field-0-1.now _ a
    (sym (ap (λ x. Some (entry_in c.args.items.now.trees x)) c.in-Some-Boundary.field-0-is) ∙ c.in-Some-Boundary.ensures.entry) e h
