-- What the commands that declare rules ask of a state, as runs of the meaning, and what is told of them.
use Rattle.std.specs.Prelude.{ℕ, ◌≡◌, ◌<◌, Option, Some, None, List, [], ◌∷◌, length, map, reverse, Result, Ok, Err}
use Rattle.ft_theory.specs.Rules.{Rule}
use Rattle.ft_items.specs.Item.{rule}
use Rattle.ft_items.specs.Store.{Declared, metavariables_in}
use Rattle.ft_reference.specs.Declare as reference
use Rattle.ft_assume.specs.Atoms.{atom_of}
use Rattle.ft_kernel.specs.State.{with_item}
use Rattle.ft_meaning.specs.Values as meaning
use Rattle.ft_meaning.specs.Values.{OfRule, fails, halts}
use Rattle.ft_meaning.specs.Commands as command
use Rattle.ft_rules.specs.Drafts.{Drafted, IsDraftOver, draft_in, met_of}
use Rattle.ft_rules.specs.declared.fault.RuleFault.{RuleFault}
use Rattle.ft_rules.specs.declared.fault.RuleFault.TheVariants as fault
use Rattle.ft_telling.specs.Telling.{variable_at}
use Rattle.ft_running.specs.Evaluation.{Evaluation, run_of}
use Rattle.ft_running.specs.Telling.{TellsEnd}
use Rattle.ft_running.specs.Asked.{IsVariableIn}
use Rattle.ft_drafting.specs.declared.stops.Stop.{Stop}
use Rattle.ft_drafting.specs.declared.stops.Stop.TheVariants as stop
use Rattle.ft_drafting.specs.declared.binding.Bound.{Bound}

-- why no rule is declared, as the definitions have it; that memory was refused is no such reason
abbrev pub reason : RuleFault → Option reference.RuleFault
reason fault.Duplicate = Some reference.Duplicate
reason fault.TooMany = Some reference.TooMany
reason (fault.OpenPremise i a) = Some (reference.OpenPremise i (atom_of a))
reason (fault.OpenConclusion a) = Some (reference.OpenConclusion (atom_of a))
reason fault.Memory = None

-- the run halts since no rule is declared, at a place
abbrev pub RefusesRule : {A : Type 0} → meaning.Outcome A → ℕ → RuleFault → Evaluation → Type 0
RefusesRule o at f e = (why : reference.RuleFault) × (reason f ≡ Some why)
    × (o ≡ (Err (halts (fails (OfRule why) at)), run_of e))

-- The run ends without a value, or halts since no rule is declared, as is told.
abbrev pub TellsStop : {A : Type 0} → meaning.Outcome A → Stop → Evaluation → Type 0
TellsStop o (stop.Ends end) e = TellsEnd o end e
TellsStop o (stop.Refuses at f) e = RefusesRule o at f e

-- a draft over the list of a state, as the definitions have it
abbrev pub IsDraftIn : Evaluation → Drafted → Type 0
IsDraftIn e d = IsDraftOver e.list.items d

abbrev pub draft_over : Evaluation → Drafted → reference.Draft
draft_over e d = draft_in e.list.items d

-- The run gives the draft, or stops as is told.
abbrev pub TellsDraft : meaning.Outcome reference.Draft → Result Drafted Stop → Evaluation → Type 0
TellsDraft o (Ok d) e = (o ≡ (Ok (draft_over e d), run_of e)) × IsDraftIn e d
TellsDraft o (Err s) e = TellsStop o s e

-- the number is that of a metavariable of the list
abbrev pub IsMetavariableIn : Evaluation → ℕ → Type 0
IsMetavariableIn e m = m < length (metavariables_in e.list.items)

-- The run gives the metavariable and the draft that it leaves, or stops as is told.
abbrev pub TellsPremise : meaning.Outcome ((ℕ × Declared) × reference.Draft) → Result ℕ Stop → Drafted
    → Evaluation → Type 0
TellsPremise o (Ok m) d e = (o ≡ (Ok (met_of e.list.items m, draft_over e d), run_of e))
    × IsDraftIn e d × IsMetavariableIn e m
TellsPremise o (Err s) d e = TellsStop o s e

-- the state with the rule of a draft with this conclusion
abbrev pub with_rule : Drafted → ℕ → Evaluation → Evaluation
with_rule d c e = record e { list = with_item e.list (rule d.name d.premises c) }

-- The run gives the rule that was declared, with a number, or stops as is told.
abbrev pub TellsRule : meaning.Outcome (ℕ × Rule) → Result ℕ Stop → Evaluation → Type 0
TellsRule o (Ok r) e = (R : Rule) × (o ≡ (Ok (r, R), run_of e))
TellsRule o (Err s) e = TellsStop o s e

-- a variable that was bound, with what is declared of it; and those bound in turn, the last first
abbrev pub bound_over : Evaluation → Bound → command.Bound
bound_over e x = record { at = x.at; variable = variable_at e.list x.variable }

abbrev pub bounds_over : Evaluation → List Bound → List command.Bound
bounds_over e xs = map (bound_over e) (reverse xs)

-- each of them is a variable of the list
abbrev pub AreBoundIn : Evaluation → List Bound → Type 0
AreBoundIn e [] = Unit {0}
AreBoundIn e (x ∷ xs) = IsVariableIn e x.variable × AreBoundIn e xs
