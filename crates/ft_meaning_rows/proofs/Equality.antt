-- By computation.
use Rattle.std.proofs.Common.{refl}
use Rattle.ft_meaning_rows.specs.Written.{Holds, AllHold}
use Rattle.ft_meaning_rows.specs.Equality as row
use Rattle.ft_meaning_rows.proofs.Running.{holds, running}

not_coerced : Holds row.not_coerced
unfolding running
not_coerced = holds row.not_coerced refl

coerced : Holds row.coerced
unfolding running
coerced = holds row.coerced refl

coerced_again : Holds row.coerced_again
unfolding running
coerced_again = holds row.coerced_again refl

wrong_conversion : Holds row.wrong_conversion
unfolding running
wrong_conversion = holds row.wrong_conversion refl

one_and_one : Holds row.one_and_one
unfolding running
one_and_one = holds row.one_and_one refl

without_a_rule : Holds row.without_a_rule
unfolding running
without_a_rule = holds row.without_a_rule refl

turned : Holds row.turned
unfolding running
turned = holds row.turned refl

eta : Holds row.eta
unfolding running
eta = holds row.eta refl

computed_under_types : Holds row.computed_under_types
unfolding running
computed_under_types = holds row.computed_under_types refl

endless : Holds row.endless
unfolding running
endless = holds row.endless refl

unequal : Holds row.unequal
unfolding running
unequal = holds row.unequal refl

no_equation : Holds row.no_equation
unfolding running
no_equation = holds row.no_equation refl

type_and_term : Holds row.type_and_term
unfolding running
type_and_term = holds row.type_and_term refl

pub each_holds : AllHold row.equality
each_holds = (not_coerced, (coerced, (coerced_again, (wrong_conversion, (one_and_one, (without_a_rule, (turned, (eta, (computed_under_types, (endless, (unequal, (no_equation, (type_and_term, tt)))))))))))))
