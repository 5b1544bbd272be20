-- The verdicts of the program as verdicts of the definition.
use Rattle.std.specs.Prelude.{ℕ, ◌≤◌}
use Rattle.ft_items.specs.Good.{Counts, Verdict as AnyVerdict, Accepted as accepted, Rejected as rejected}
use Rattle.ft_check.specs.Rejects.{reason_of}
use Rattle.ft_check.specs.declared.counts.Counted.{Counted}
use Rattle.ft_check.specs.declared.verdict.Verdict.{Verdict}
use Rattle.ft_check.specs.declared.verdict.Verdict.TheVariants.{Accepted, Rejected}

-- a verdict with its counts, or with its item and its reason
abbrev pub verdict_of : Verdict → AnyVerdict
verdict_of (Accepted rules entries shown level) = accepted (record { rules = rules; entries = entries; shown = shown; level = level })
verdict_of (Rejected item why) = rejected item (reason_of why)

-- what is counted
abbrev pub counts_of : Counted → Counts
counts_of c = record { rules = c.rules; entries = c.entries; shown = c.shown; level = c.level }

-- no more is counted than n
abbrev pub IsAtMost : ℕ → Counted → Type 0
IsAtMost n c = (c.rules ≤ n) × (c.entries ≤ n) × (c.shown ≤ n)
