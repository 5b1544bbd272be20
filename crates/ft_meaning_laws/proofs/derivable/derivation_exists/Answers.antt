use Rattle.ft_meaning_laws.proofs.Whole as proved
use Rattle.ft_meaning_laws.proofs.derivable.derivation_exists.Goals as goal

pub returns : goal.returns
returns c = record { stages = proved.stage_has_derivation; sources = proved.source_has_derivation }
