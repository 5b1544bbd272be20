use Rattle.std.proofs.Common.{take, length, get_or, ap, subst, ◌≤◌, ◌<◌}
use Rattle.ft_check.proofs.Argued.{premise_next, conclusion_next}
use Rattle.ft_check.proofs.after.next_boundary.Goals as goal

pub returns-then-n-ms-clause-is : goal.returns-then-n-ms-clause-is
returns-then-n-ms-clause-is c =
    let lt : c.args.n < length c.args.line.premises.now = subst (λ ms. c.args.n < length ms) c.items-ms.ensures c.if-n-ms.true in
    λ R k. premise_next c.args.items.now.trees (take c.args.i c.args.items.now.items) c.args.line R c.args.n _ c.boundary_named.result k lt
    (ap (λ ms. get_or ms c.args.n 0) c.items-ms.ensures) c.boundary_named.ensures.entry

pub returns-else-n-ms-clause-is : goal.returns-else-n-ms-clause-is
returns-else-n-ms-clause-is c =
    let over : length c.args.line.premises.now ≤ c.args.n = subst (λ ms. length ms ≤ c.args.n) c.items-ms.ensures c.if-n-ms.false in
    λ R k. conclusion_next c.args.items.now.trees (take c.args.i c.args.items.now.items) c.args.line R c.args.n c.entry_before.result k over c.entry_before.ensures.entry
