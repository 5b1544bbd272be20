-- Why a command halts, by what stopped it.
use Rattle.std.proofs.Common.{◌≡◌, ◌≢◌, ℕ, ap, sym, refl, subst}
use Rattle.std.specs.Prelude.{Some, List}
use Rattle.ft_theory.specs.Expressions.{Expression}
use Rattle.ft_meaning.specs.Values as meaning
use Rattle.ft_meaning.specs.Values.{Outcome, Environment}
use Rattle.ft_meaning.specs.Commands as command
use Rattle.ft_meaning.specs.Commands.{ended}
use Rattle.ft_telling.specs.Telling.{halt_by, halt_in, IsWhyOver}
use Rattle.ft_telling.specs.declared.halt.Halt.{Halt}
use Rattle.ft_telling.specs.declared.halt.Why.{Why}
use Rattle.ft_telling.specs.declared.halt.Why.TheVariants as halting
use Rattle.ft_running.specs.declared.ending.End.TheVariants as ending
use Rattle.ft_running.specs.declared.ending.Operation.{Operation}
use Rattle.ft_running.specs.Evaluation.{Evaluation}
use Rattle.ft_rules.specs.declared.fault.RuleFault.{RuleFault}
use Rattle.ft_drafting.specs.Drafting.{TellsStop}
use Rattle.ft_drafting.specs.declared.stops.Stop.TheVariants as stop
use Rattle.ft_commands.specs.Doing.{TellsFault, halt_for, rule_halt, halt_why, IsOver}
use Rattle.ft_commands.specs.declared.done.EvalFault.{EvalFault}
use Rattle.ft_commands.specs.declared.done.EvalWhy.TheVariants as why

-- an operation that no case took
pub unhandled : (o : Outcome (command.Done × Environment)) (e : Evaluation) (op : Operation) (f : EvalFault) → f ≡ record { at = op.at; why = why.Unhandled op.name }
    → TellsStop o (stop.Ends (ending.Performs op)) e → TellsFault (ended o) f e
unhandled o e op f is told =
    subst (λ f. TellsFault (ended o) f e) (sym is)
    (λ no. (tt, meaning.fails (meaning.Unhandled op.name) op.at, refl, ap ended told.0))

-- a halt
halted_by : (ts : List Expression) (at : ℕ) (w : Why) → w ≢ halting.Stuck → w ≢ halting.Memory → halt_for ts at (halt_why w) ≡ Some (halt_by ts at w)
halted_by ts at (halting.Refused r) s m = refl
halted_by ts at halting.NoMatch s m = refl
halted_by ts at halting.Spent s m = refl
halted_by ts at halting.Stuck s m = absurd (s refl)
halted_by ts at halting.Memory s m = absurd (m refl)

over_by : (ts : List Expression) (w : Why) → IsWhyOver ts w → IsOver ts (halt_why w)
over_by ts (halting.Refused r) h = h
over_by ts halting.NoMatch h = tt
over_by ts halting.Spent h = tt
over_by ts halting.Stuck h = tt
over_by ts halting.Memory h = tt

not_memory : (w : Why) → halt_why w ≢ why.Memory → w ≢ halting.Memory
not_memory w h is = h (ap halt_why is)

pub halted : (o : Outcome (command.Done × Environment)) (e : Evaluation) (h : Halt) (f : EvalFault) → h.why ≢ halting.Stuck
    → f ≡ record { at = h.at; why = halt_why h.why } → TellsStop o (stop.Ends (ending.Halts h)) e → TellsFault (ended o) f e
halted o e h f free is told =
    subst (λ f. TellsFault (ended o) f e) (sym is)
    (λ no. let t = told (not_memory h.why no) in
    (over_by e.list.trees h.why t.0, halt_in e.list.trees h, halted_by e.list.trees h.at h.why free (not_memory h.why no), ap ended t.1))

-- a rule that is not declared
pub refused : (o : Outcome (command.Done × Environment)) (e : Evaluation) (at : ℕ) (r : RuleFault) (f : EvalFault) → f ≡ record { at = at; why = why.Rule r }
    → TellsStop o (stop.Refuses at r) e → TellsFault (ended o) f e
refused o e at r f is told =
    subst (λ f. TellsFault (ended o) f e) (sym is)
    (λ no. (tt, meaning.fails (meaning.OfRule told.0) at, ap (rule_halt at) told.1, ap ended told.2))
