use Rattle.ft_meaning_rows.proofs.Unbuilt as proved
use Rattle.ft_meaning_rows.proofs.worked_stages.Goals as goal

pub returns : goal.returns
returns c = record { value = proved.value_unbuilt; binder = proved.binder_unbuilt; earlier_premise = proved.premise_unbuilt; operation = proved.operation_unbuilt; question = proved.equality_unbuilt }
