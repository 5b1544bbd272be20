use Rattle.std.proofs.Common.{ap, refl}
use Rattle.ft_running.specs.Evaluation.{run_of}
use Rattle.ft_running.proofs.Further.{further_both, scope_further}
use Rattle.ft_commands.proofs.Binding.{one_bound}
use Rattle.ft_commands.proofs.binders.bind_one.Goals as goal

pub returns-in-Err-new_term-clause-further : goal.returns-in-Err-new_term-clause-further
returns-in-Err-new_term-clause-further c =
    further_both c.args.state.now c.evaluate.new.state c.new_term.new.self c.evaluate.ensures.further c.new_term.ensures.further

pub bind-requires-clause-scope : goal.bind-requires-clause-scope
bind-requires-clause-scope c =
    scope_further c.args.state.now c.new_term.new.self c.args.scope
    (further_both c.args.state.now c.evaluate.new.state c.new_term.new.self c.evaluate.ensures.further c.new_term.ensures.further) c.requires.scope

pub returns-in-Ok-bind-clause-tells : goal.returns-in-Ok-bind-clause-tells
returns-in-Ok-bind-clause-tells c =
    one_bound c.args.state.now c.evaluate.new.state c.new_term.new.self c.bind.new.self c.args.b.now c.args.scope c.in-Ok.v c.in-Ok-new_term.pair.0 c.in-Ok-new_term.pair.1
    (record { at = c.args.b.now.name.at; variable = c.in-Ok-new_term.pair.0 }) c.in-Ok-bind.inner
    c.holds.ensures c.evaluate.ensures.further c.new_term.ensures.further c.bind.ensures.further c.requires.scope c.holds-2.ensures
    c.in-Ok.ensures.tells c.in-Ok-new_term.ensures.tells c.in-Ok-bind.ensures.scope c.in-Ok-bind.ensures.means (ap run_of c.in-Ok-bind.ensures.adds) refl

pub returns-in-Ok-bind-clause-further : goal.returns-in-Ok-bind-clause-further
returns-in-Ok-bind-clause-further c =
    further_both c.args.state.now c.new_term.new.self c.bind.new.self
    (further_both c.args.state.now c.evaluate.new.state c.new_term.new.self c.evaluate.ensures.further c.new_term.ensures.further) c.bind.ensures.further

pub returns-in-Err-bind-clause-further : goal.returns-in-Err-bind-clause-further
returns-in-Err-bind-clause-further c =
    further_both c.args.state.now c.new_term.new.self c.bind.new.self
    (further_both c.args.state.now c.evaluate.new.state c.new_term.new.self c.evaluate.ensures.further c.new_term.ensures.further) c.bind.ensures.further
