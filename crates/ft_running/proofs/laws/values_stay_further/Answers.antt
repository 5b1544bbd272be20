use Rattle.ft_running.proofs.Further.{below_further, means_further, thesis_further, boundary_further}
use Rattle.ft_running.proofs.laws.values_stay_further.Goals as goal

pub returns : goal.returns
returns c = record {
  values = λ e f v is g b. (below_further e f v g b, means_further e f v is g b);
  theses = thesis_further;
  boundaries = boundary_further;
}
