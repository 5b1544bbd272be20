use Rattle.std.proofs.Common.{drop}
use Rattle.ft_commands.proofs.Premised.{Drafts}
use Rattle.ft_commands.proofs.premises.declare_premises.Given as goal

-- the premises so far have joined the draft
abbrev pub invariant-loop-p : goal.invariant-loop-p
invariant-loop-p l = Drafts l.fn.state l.state l.fn.premises (drop l.p-index l.premises) l.fn.draft l.draft l.fn.scope l.scope
