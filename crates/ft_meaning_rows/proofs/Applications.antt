-- By computation.
use Rattle.std.proofs.Common.{refl}
use Rattle.ft_meaning_rows.specs.Written.{Holds, AllHold}
use Rattle.ft_meaning_rows.specs.Applications as row
use Rattle.ft_meaning_rows.proofs.Running.{holds, running}

two : Holds row.two
unfolding running
two = holds row.two refl

empty : Holds row.empty
unfolding running
empty = holds row.empty refl

repeated_rule : Holds row.repeated_rule
unfolding running
repeated_rule = holds row.repeated_rule refl

six_units : Holds row.six_units
unfolding running
six_units = holds row.six_units refl

five_units : Holds row.five_units
unfolding running
five_units = holds row.five_units refl

two_units : Holds row.two_units
unfolding running
two_units = holds row.two_units refl

one_unit : Holds row.one_unit
unfolding running
one_unit = holds row.one_unit refl

type_for_term : Holds row.type_for_term
unfolding running
type_for_term = holds row.type_for_term refl

term_for_type : Holds row.term_for_type
unfolding running
term_for_type = holds row.term_for_type refl

too_few : Holds row.too_few
unfolding running
too_few = holds row.too_few refl

too_many : Holds row.too_many
unfolding running
too_many = holds row.too_many refl

unbound : Holds row.unbound
unfolding running
unbound = holds row.unbound refl

premise_twice : Holds row.premise_twice
unfolding running
premise_twice = holds row.premise_twice refl

pub each_holds : AllHold row.applications
each_holds = (two, (empty, (repeated_rule, (six_units, (five_units, (two_units, (one_unit, (type_for_term, (term_for_type, (too_few, (too_many, (unbound, (premise_twice, tt)))))))))))))
