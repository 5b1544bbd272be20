use Rattle.std.proofs.Common.{sym, subst}
use Rattle.ft_values.specs.Kept.{pair}
use Rattle.ft_values.specs.Rows.{kept_in}
use Rattle.ft_running.specs.Evaluation.{Evaluation, IsValueOf}
use Rattle.ft_running.proofs.Further.{over_value}
use Rattle.ft_running.proofs.Keeping.{kept_holds, kept_further}
use Rattle.ft_running.proofs.state.State.keep_pair.Goals as goal

pub invariant_of-self : goal.invariant_of-self
invariant_of-self c =
    let e : Evaluation = record { list = c.self.inside.kernel; values = c.self.inside.values; scopes = c.self.inside.scopes; top = c.self.inside.top; units = c.self.inside.units } in
    kept_holds e c.pair.new.self (pair (kept_in e.values c.args.a) (kept_in e.values c.args.b)) c.pair.result c.self.invariant (over_value e.list e.values c.args.a c.self.invariant.values_over (subst (λ (e : Evaluation). IsValueOf e c.args.a) (sym c.self.view_is) c.requires.0), over_value e.list e.values c.args.b c.self.invariant.values_over (subst (λ (e : Evaluation). IsValueOf e c.args.b) (sym c.self.view_is) c.requires.1)) c.pair.ensures.list c.pair.ensures.err

pub returns-clause-further : goal.returns-clause-further
returns-clause-further c =
    let e : Evaluation = record { list = c.self.inside.kernel; values = c.self.inside.values; scopes = c.self.inside.scopes; top = c.self.inside.top; units = c.self.inside.units } in
    rw (← c.self.view_is) (kept_further e c.pair.new.self (pair (kept_in e.values c.args.a) (kept_in e.values c.args.b)) c.pair.result c.pair.ensures.list c.pair.ensures.err)
