use Rattle.std.proofs.Common.{◌∙◌, ap}
use Rattle.ft_running.specs.Evaluation.{Evaluation}
use Rattle.ft_program.proofs.Stepping.{run_ready, run_ahead}
use Rattle.ft_program.proofs.commands.Run.new.Goals as goal

pub returns-clause-ready : goal.returns-clause-ready
returns-clause-ready c =
    run_ready (record { rest = c.reverse.new.self; scope = c.in_ok-scope.scope; state = c.new-state.result }) c.args.commands.items c.args.budget (record {
      rest = c.reverse.ensures.items;
      scope = c.in_ok-scope.ensures;
      list = ap (λ (e : Evaluation). e.list) c.new-state.ensures;
      names = ap (λ (e : Evaluation). e.top) c.new-state.ensures;
      total = ap (λ (e : Evaluation). e.units.total) c.new-state.ensures ∙ c.new-2.ensures.total;
      used = ap (λ (e : Evaluation). e.units.used) c.new-state.ensures ∙ c.new-2.ensures.used;
    })
    c.typed_commands_fit.ensures.first c.requires

pub returns-clause-ahead : goal.returns-clause-ahead
returns-clause-ahead c = λ source.
    run_ahead (record { rest = c.reverse.new.self; scope = c.in_ok-scope.scope; state = c.new-state.result }) c.args.commands.items c.args.budget (record {
      rest = c.reverse.ensures.items;
      scope = c.in_ok-scope.ensures;
      list = ap (λ (e : Evaluation). e.list) c.new-state.ensures;
      names = ap (λ (e : Evaluation). e.top) c.new-state.ensures;
      total = ap (λ (e : Evaluation). e.units.total) c.new-state.ensures ∙ c.new-2.ensures.total;
      used = ap (λ (e : Evaluation). e.units.used) c.new-state.ensures ∙ c.new-2.ensures.used;
    }) source
