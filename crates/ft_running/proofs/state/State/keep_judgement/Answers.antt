use Rattle.std.proofs.Common.{sym, subst}
use Rattle.ft_kernel.specs.State.{IsThesisOf}
use Rattle.ft_values.specs.Kept.{judgement}
use Rattle.ft_running.specs.Evaluation.{Evaluation}
use Rattle.ft_running.proofs.Keeping.{kept_holds, kept_further}
use Rattle.ft_running.proofs.state.State.keep_judgement.Goals as goal

pub invariant_of-self : goal.invariant_of-self
invariant_of-self c =
    let e : Evaluation = record { list = c.self.inside.kernel; values = c.self.inside.values; scopes = c.self.inside.scopes; top = c.self.inside.top; units = c.self.inside.units } in
    kept_holds e c.of_judgement.new.self (judgement c.args.j) c.of_judgement.result c.self.invariant (subst (λ (e : Evaluation). IsThesisOf e.list c.args.j) (sym c.self.view_is) c.requires) c.of_judgement.ensures.list c.of_judgement.ensures.err

pub returns-clause-further : goal.returns-clause-further
returns-clause-further c =
    let e : Evaluation = record { list = c.self.inside.kernel; values = c.self.inside.values; scopes = c.self.inside.scopes; top = c.self.inside.top; units = c.self.inside.units } in
    rw (← c.self.view_is) (kept_further e c.of_judgement.new.self (judgement c.args.j) c.of_judgement.result c.of_judgement.ensures.list c.of_judgement.ensures.err)
