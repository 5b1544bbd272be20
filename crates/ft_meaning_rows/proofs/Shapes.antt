-- By computation.
use Rattle.std.proofs.Common.{refl}
use Rattle.ft_meaning_rows.specs.Written.{Holds, AllHold}
use Rattle.ft_meaning_rows.specs.Shapes as row
use Rattle.ft_meaning_rows.proofs.Running.{holds, running}

premise_of_equations : Holds row.premise_of_equations
unfolding running
premise_of_equations = holds row.premise_of_equations refl

left_premise : Holds row.left_premise
unfolding running
left_premise = holds row.left_premise refl

not_on_left : Holds row.not_on_left
unfolding running
not_on_left = holds row.not_on_left refl

type_equation : Holds row.type_equation
unfolding running
type_equation = holds row.type_equation refl

one_side : Holds row.one_side
unfolding running
one_side = holds row.one_side refl

early_equation : Holds row.early_equation
unfolding running
early_equation = holds row.early_equation refl

not_in_type : Holds row.not_in_type
unfolding running
not_in_type = holds row.not_in_type refl

pub each_holds : AllHold row.shapes
each_holds = (premise_of_equations, (left_premise, (not_on_left, (type_equation, (one_side, (early_equation, (not_in_type, tt)))))))
