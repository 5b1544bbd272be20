use Rattle.std.proofs.Common.{nat_lt, rules}
use Rattle.std.proofs.lemmas.List.Sorted.{IsPartitionPoint-from_clause}
use Rattle.ft_print.proofs.InOrder.{parted, counted}
use Rattle.ft_print.proofs.variables.place_of.Goals as goal

pub returns : goal.returns
returns c =
    let vs = c.args.variables.now in
    let point = IsPartitionPoint-from_clause (λ w. nat_lt w c.args.v) _ _ c.partition_point.ensures.partitioned (parted vs c.args.v c.requires.ascending) (λ a r q k. search rules) in
    counted vs c.args.v c.partition_point.result c.partition_point.ensures.bound point
