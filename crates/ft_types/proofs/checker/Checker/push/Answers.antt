use Rattle.std.proofs.Common.{sym, ap, subst, length, []}
use Rattle.ft_types.specs.Types.{type_in, Below}
use Rattle.ft_types.specs.Checking.{Checking, with_local}
use Rattle.ft_types.proofs.Listed.{listed_append}
use Rattle.ft_types.proofs.Scopes.{pushed_checker}
use Rattle.ft_types.proofs.checker.Checker.push.Goals as goal

pub invariant_of-self-2 : goal.invariant_of-self-2
invariant_of-self-2 c =
    let t = c.self.inside in
    let below = subst (λ (v : Checking). Below (length v.types) c.args.t) (sym c.self.view_is) c.requires in
    rw c.in_ok-push.ensures.items (pushed_checker (length t.types) t.values t.operations t.locals.items _ c.self.invariant below)

pub returns-clause-ok : goal.returns-clause-ok
returns-clause-ok c =
    let t = c.self.inside in
    rw (c.in_ok-push.ensures.items, listed_append [] t.locals.items _, c.in_ok-name.ensures)
    (ap (λ (v : Checking). with_local c.args.name.now (type_in v.types c.args.t) v) c.self.view_is)
