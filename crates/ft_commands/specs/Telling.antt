-- What is told of the runs of a command.
use Rattle.std.specs.Prelude.{◌≡◌, List, Result, Ok, Err}
use Rattle.ft_reference.specs.Declare.{Draft}
use Rattle.ft_meaning.specs.Values.{Outcome, Environment}
use Rattle.ft_meaning.specs.Commands as command
use Rattle.ft_rules.specs.Drafts.{Drafted}
use Rattle.ft_values.specs.declared.scopes.Scope.{Scope}
use Rattle.ft_running.specs.declared.ending.End.{End}
use Rattle.ft_running.specs.Evaluation.{Evaluation, run_of, environment_of, IsScopeIn}
use Rattle.ft_running.specs.Telling.{TellsEnd}
use Rattle.ft_running.specs.Asked.{IsVariableIn}
use Rattle.ft_drafting.specs.Drafting.{bound_over, bounds_over, AreBoundIn, TellsStop}
use Rattle.ft_drafting.specs.Drafting.{IsDraftIn, draft_over}
use Rattle.ft_drafting.specs.declared.stops.Stop.{Stop}
use Rattle.ft_drafting.specs.declared.binding.Bound.{Bound}
use Rattle.ft_commands.specs.declared.binders.Bindings.{Bindings}

-- The run gives the variable and the named values after it, or ends as is told.
abbrev pub TellsBound : Outcome (command.Bound × Environment) → Result (Bound × Scope) End → Evaluation
    → Type 0
TellsBound o (Ok p) e = (o ≡ (Ok (bound_over e p.0, environment_of e p.1), run_of e))
    × IsVariableIn e p.0.variable × IsScopeIn e p.1
TellsBound o (Err end) e = TellsEnd o end e

-- So for the variables that are bound in turn.
abbrev pub TellsBindings : Outcome (Environment × List command.Bound) → Result Bindings End
    → Evaluation → Type 0
TellsBindings o (Ok b) e =
    (o ≡ (Ok (environment_of e b.scope, bounds_over e b.bounds.items), run_of e))
    × IsScopeIn e b.scope × AreBoundIn e b.bounds.items
TellsBindings o (Err end) e = TellsEnd o end e

-- The run gives the draft and the named values after premises, or stops as is told.
abbrev pub TellsPremises : Outcome (Draft × Environment) → Result Scope Stop → Drafted → Evaluation
    → Type 0
TellsPremises o (Ok s) d e = (o ≡ (Ok (draft_over e d, environment_of e s), run_of e))
    × IsDraftIn e d × IsScopeIn e s
TellsPremises o (Err s) d e = TellsStop o s e
