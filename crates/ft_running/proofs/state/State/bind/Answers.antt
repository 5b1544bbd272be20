use Rattle.ft_running.specs.Evaluation.{Evaluation}
use Rattle.ft_running.proofs.Keeping.{row_further}
use Rattle.ft_running.proofs.state.State.bind.Goals as goal

pub returns-clause-further : goal.returns-clause-further
returns-clause-further c =
    let e : Evaluation = record { list = c.self.inside.kernel; values = c.self.inside.values; scopes = c.self.inside.scopes; top = c.self.inside.top; units = c.self.inside.units } in
    rw (← c.self.view_is) (row_further e c.bind.new.self c.args.outer c.args.name.now c.args.v c.bind.result c.bind.ensures.list c.bind.ensures.err)
