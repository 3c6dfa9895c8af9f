use Rattle.std.proofs.Common.{rules}
use Rattle.std.specs.Prelude.{nat_lt}
use Rattle.std.proofs.lemmas.List.Sorted.{IsPartitionedBy-ltb, IsPartitionPoint-from_clause}
use Rattle.fy_records.proofs.Columns.{place_is}
use Rattle.fy_records.proofs.keys.count_before.Goals as goal

pub returns : goal.returns
returns c =
    let keys = c.args.keys.now in
    let key = c.args.key in
    place_is (λ x. nat_lt x key) keys c.partition_point.result c.partition_point.ensures.bound
    (IsPartitionPoint-from_clause (λ x. nat_lt x key) keys c.partition_point.result c.partition_point.ensures.partitioned (IsPartitionedBy-ltb (λ x. x) keys key c.requires) (λ a r q k. search rules))
