use Rattle.std.proofs.Common.{◌≡◌, drop, map}
use Rattle.ft_meaning.specs.Trees.{handlers}
use Rattle.ft_meaning.specs.Forms.{of_operation}
use Rattle.ft_meaning.proofs.Written.{handler}
use Rattle.ft_running.specs.Evaluation.{run_of, value_over, environment_of}
use Rattle.ft_eval.specs.Asking.{HandlersAskNothing}
use Rattle.ft_eval.proofs.unwinding.handle.Given as goal

-- no case so far is for the operation
abbrev pub invariant-loop-h : goal.invariant-loop-h
invariant-loop-h l =
    (of_operation (handlers (map handler (drop l.h-index l.hs))) l.operation.name (value_over l.state l.operation.argument) l.operation.at (environment_of l.state l.scope) (run_of l.state)
    ≡ of_operation (handlers (map handler l.hs)) l.operation.name (value_over l.state l.operation.argument) l.operation.at (environment_of l.state l.scope) (run_of l.state))
    × HandlersAskNothing (handlers (map handler (drop l.h-index l.hs)))
    × (l.state ≡ l.fn.state) × (l.operation ≡ l.fn.operation)
