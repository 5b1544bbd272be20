use Rattle.ft_nucleus_laws.proofs.Rows as proved
use Rattle.ft_nucleus_laws.proofs.worked_declarations.Goals as goal

pub returns : goal.returns
returns c = record { drafts = proved.draft_rows; new = proved.new_rows }
