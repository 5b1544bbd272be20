-- The end where memory was refused.
use Rattle.std.specs.Prelude.{◌≡◌}
use Rattle.ft_telling.specs.declared.halt.Why.TheVariants as why
use Rattle.ft_running.specs.declared.ending.End.{End}
use Rattle.ft_running.specs.declared.ending.End.TheVariants as ending

abbrev pub IsMemory : End → Type 0
IsMemory (ending.Performs op) = ⊥
IsMemory (ending.Halts h) = h.why ≡ why.Memory
