use Rattle.std.proofs.Common.{◌≡◌, length}
use Rattle.ft_values.specs.Kept.{judgements_in, found_before}
use Rattle.ft_values.specs.Rows.{kept_in, Below, rank}
use Rattle.ft_values.proofs.values.Values.judgements.Given as goal

abbrev pub invariant-reading : goal.invariant-reading
invariant-reading l = record {
  below : Below (length l.self) l.rest;
  left : found_before l.found.items (judgements_in (kept_in l.self l.rest)) ≡ found_before l.fn.found.items (judgements_in (kept_in l.self l.fn.v));
}

abbrev pub decreases-reading : goal.decreases-reading
decreases-reading l = rank l.rest
