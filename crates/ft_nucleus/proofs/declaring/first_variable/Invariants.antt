use Rattle.ft_reference.specs.Declare.{first_variable as least_variable}
use Rattle.ft_nucleus.proofs.Seeking.{IsBehind}
use Rattle.ft_nucleus.proofs.declaring.first_variable.Given as goal

abbrev pub invariant-loop-i : goal.invariant-loop-i
invariant-loop-i l = IsBehind least_variable l.atoms l.i
