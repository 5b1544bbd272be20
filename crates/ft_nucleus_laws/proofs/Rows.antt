-- The worked rows, by computation.
use Rattle.std.proofs.Common.{refl}
use Rattle.ft_theory.specs.Expressions.{act, body_or, count, put, open_at, close_at, rename, lifts, lift, pushes, push}
use Rattle.ft_nucleus_laws.specs.Rows.{VariableRows, SubstitutionRows, EqualityRows, SideRows, RuleRows, DeepRows, CongruenceRows, ApplicationRows, NaturalRows, DraftRows, NewRows}

pub variable_rows : VariableRows
unfolding act body_or count put open_at close_at rename lifts lift pushes push
variable_rows = refl

pub substitution_rows : SubstitutionRows
unfolding act body_or count put open_at close_at rename lifts lift pushes push
substitution_rows = refl

pub equality_rows : EqualityRows
unfolding act body_or count put open_at close_at rename lifts lift pushes push
equality_rows = refl

pub side_rows : SideRows
unfolding act body_or count put open_at close_at rename lifts lift pushes push
side_rows = refl

pub rule_rows : RuleRows
unfolding act body_or count put open_at close_at rename lifts lift pushes push
rule_rows = refl

pub deep_rows : DeepRows
unfolding act body_or count put open_at close_at rename lifts lift pushes push
deep_rows = refl

pub congruence_rows : CongruenceRows
unfolding act body_or count put open_at close_at rename lifts lift pushes push
congruence_rows = refl

pub application_rows : ApplicationRows
unfolding act body_or count put open_at close_at rename lifts lift pushes push
application_rows = refl

pub natural_rows : NaturalRows
unfolding act body_or count put open_at close_at rename lifts lift pushes push
natural_rows = refl

pub draft_rows : DraftRows
draft_rows = (refl, refl, refl, refl, refl, refl, refl, refl, refl)

pub new_rows : NewRows
new_rows = (refl, refl, refl, refl)
