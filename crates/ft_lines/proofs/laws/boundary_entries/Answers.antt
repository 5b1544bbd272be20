use Rattle.ft_lines.proofs.EntryTexts.{boundary_entry_back, boundary_entry_is}
use Rattle.ft_lines.proofs.laws.boundary_entries.Goals as goal

pub returns-clause-complete : goal.returns-clause-complete
returns-clause-complete c = boundary_entry_back

pub returns-clause-sound : goal.returns-clause-sound
returns-clause-sound c = boundary_entry_is
