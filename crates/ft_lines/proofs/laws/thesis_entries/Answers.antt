use Rattle.ft_lines.proofs.EntryTexts.{thesis_entry_back, thesis_entry_is}
use Rattle.ft_lines.proofs.laws.thesis_entries.Goals as goal

pub returns-clause-complete : goal.returns-clause-complete
returns-clause-complete c = thesis_entry_back

pub returns-clause-sound : goal.returns-clause-sound
returns-clause-sound c = thesis_entry_is
