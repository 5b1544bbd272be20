use Rattle.ft_tests_nucleus.specs.Drafts.{MayDraft}
use Rattle.ft_tests_nucleus.proofs.script.first_other.Given as goal

abbrev pub invariant-loop-i : goal.invariant-loop-i
invariant-loop-i l = MayDraft l.k.items l.draft
