-- By computation.
use Rattle.std.proofs.Common.{refl}
use Rattle.ft_meaning.specs.Stages.{no_equality, no_operations, applications_alone}
use Rattle.ft_meaning_rows.specs.Written.{HoldsAt}
use Rattle.ft_meaning_rows.specs.Unbuilt as row
use Rattle.ft_meaning_rows.proofs.Running.{holds_at, running}

pub value_unbuilt : HoldsAt applications_alone row.value_unbuilt
unfolding running
value_unbuilt = holds_at applications_alone row.value_unbuilt refl

pub binder_unbuilt : HoldsAt applications_alone row.binder_unbuilt
unfolding running
binder_unbuilt = holds_at applications_alone row.binder_unbuilt refl

pub premise_unbuilt : HoldsAt applications_alone row.premise_unbuilt
unfolding running
premise_unbuilt = holds_at applications_alone row.premise_unbuilt refl

pub operation_unbuilt : HoldsAt no_operations row.operation_unbuilt
unfolding running
operation_unbuilt = holds_at no_operations row.operation_unbuilt refl

pub equality_unbuilt : HoldsAt no_equality row.equality_unbuilt
unfolding running
equality_unbuilt = holds_at no_equality row.equality_unbuilt refl
