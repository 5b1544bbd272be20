-- What a fault of a draft becomes.
use Rattle.std.specs.Prelude.{ℕ, ◌≡◌}
use Rattle.ft_rules.specs.declared.fault.RuleFault.{RuleFault}
use Rattle.ft_rules.specs.declared.fault.RuleFault.TheVariants as fault
use Rattle.ft_running.specs.Ends.{IsMemory}
use Rattle.ft_drafting.specs.declared.stops.Stop.{Stop}
use Rattle.ft_drafting.specs.declared.stops.Stop.TheVariants as stop

-- it ends since memory was refused
abbrev pub EndsForMemory : Stop → Type 0
EndsForMemory (stop.Ends end) = IsMemory end
EndsForMemory (stop.Refuses at f) = ⊥

-- The fault at the place; where memory was refused, an end that says so.
abbrev pub IsStopOf : ℕ → RuleFault → Stop → Type 0
IsStopOf at fault.Memory s = EndsForMemory s
IsStopOf at fault.Duplicate s = s ≡ stop.Refuses at fault.Duplicate
IsStopOf at fault.TooMany s = s ≡ stop.Refuses at fault.TooMany
IsStopOf at (fault.OpenPremise i a) s = s ≡ stop.Refuses at (fault.OpenPremise i a)
IsStopOf at (fault.OpenConclusion a) s = s ≡ stop.Refuses at (fault.OpenConclusion a)
