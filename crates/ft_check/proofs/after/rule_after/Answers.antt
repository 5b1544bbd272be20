use Rattle.std.proofs.Common.{take, length, ap, subst, ◌∙◌, ◌<◌, nat_lt}
use Rattle.ft_check.proofs.Argued.{after_read, fewer, none_after}
use Rattle.ft_check.proofs.after.rule_after.Goals as goal

pub returns-then-ms-n-clause-none : goal.returns-then-ms-n-clause-none
returns-then-ms-n-clause-none c = λ R g e n.
    fewer (take c.args.i c.args.items.now.items) c.in_ok-line.line R.1 c.args.n (c.in_ok-line.ensures R g e) (subst (λ ms. length ms < c.args.n) c.items-ms.ensures c.if-ms-n.true)

pub returns-in_err-boundary-clause-none : goal.returns-in_err-boundary-clause-none
returns-in_err-boundary-clause-none c = λ R g e n.
    none_after _ _ (c.next_boundary.ensures.is R.1 (c.in_ok-line.ensures R g e)) c.in_err-boundary.was

pub returns-clause-is : goal.returns-clause-is
returns-clause-is c = λ R g e.
    after_read c.args.items.now.trees (take c.args.i c.args.items.now.items) c.in_ok-line.line R.1 c.args.n _ (c.in_ok-line.ensures R g e)
    (c.first_of.ensures ∙ ap (take c.args.n) c.items-ms.ensures) (c.in_ok-boundary.ensures.is R.1 (c.in_ok-line.ensures R g e)) (ap (λ ms. nat_lt c.args.n (length ms)) c.items-ms.ensures)
