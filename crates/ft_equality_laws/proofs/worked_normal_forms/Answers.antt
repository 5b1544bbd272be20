use Rattle.ft_equality_laws.proofs.Worked as worked
use Rattle.ft_equality_laws.proofs.worked_normal_forms.Goals as goal

pub returns : goal.returns
returns c = record { computed = worked.one_and_one_is_normal; matched = worked.beta_at_equal_types; looped = worked.loop_ends }
