-- By computation.
use Rattle.std.proofs.Common.{refl}
use Rattle.ft_meaning_rows.specs.Written.{Holds, AllHold}
use Rattle.ft_meaning_rows.specs.Programs as row
use Rattle.ft_meaning_rows.proofs.Running.{holds, running}

beta : Holds row.beta
unfolding running
beta = holds row.beta refl

abstracted : Holds row.abstracted
unfolding running
abstracted = holds row.abstracted refl

doubled : Holds row.doubled
unfolding running
doubled = holds row.doubled refl

value_with_arguments : Holds row.value_with_arguments
unfolding running
value_with_arguments = holds row.value_with_arguments refl

no_case : Holds row.no_case
unfolding running
no_case = holds row.no_case refl

truth_shown : Holds row.truth_shown
unfolding running
truth_shown = holds row.truth_shown refl

twice_in_pattern : Holds row.twice_in_pattern
unfolding running
twice_in_pattern = holds row.twice_in_pattern refl

wanted_pair : Holds row.wanted_pair
unfolding running
wanted_pair = holds row.wanted_pair refl

inner_pair : Holds row.inner_pair
unfolding running
inner_pair = holds row.inner_pair refl

matched : Holds row.matched
unfolding running
matched = holds row.matched refl

congruent : Holds row.congruent
unfolding running
congruent = holds row.congruent refl

members : Holds row.members
unfolding running
members = holds row.members refl

inconsistent : Holds row.inconsistent
unfolding running
inconsistent = holds row.inconsistent refl

pub each_holds : AllHold row.programs
each_holds = (beta, (abstracted, (doubled, (value_with_arguments, (no_case, (truth_shown, (twice_in_pattern, (wanted_pair, (inner_pair, (matched, (congruent, (members, (inconsistent, tt)))))))))))))
