-- How a fault of a lower call is answered by a higher one.
use Rattle.ft_syntax.specs.declared.syntax.SynFault.{SynFault}
use Rattle.ft_syntax.specs.declared.syntax.SynFault.TheVariants as of_syntax
use Rattle.ft_judge.specs.declared.fault.Refusal.TheVariants.{TooBig}
use Rattle.ft_judge.specs.declared.fault.Fault.{Fault}
use Rattle.ft_judge.specs.declared.fault.Fault.TheVariants.{Refused, Memory}
use Rattle.ft_judge.specs.declared.fault.Stop.{Stop}
use Rattle.ft_judge.specs.declared.fault.Stop.TheVariants as of_stop

-- an expression that is not small is refused as too big
abbrev pub refused : SynFault → Fault
refused of_syntax.TooBig = Refused TooBig
refused of_syntax.Memory = Memory

abbrev pub stopped : Fault → Stop
stopped (Refused r) = of_stop.Refused r
stopped Memory = of_stop.Memory
