use Rattle.ft_equality_laws.proofs.Worked as worked
use Rattle.ft_equality_laws.proofs.worked_shapes.Goals as goal

pub returns : goal.returns
returns c = record { accepted = worked.shapes; computation = worked.computation_faults; extensionality = worked.extensionality_faults }
