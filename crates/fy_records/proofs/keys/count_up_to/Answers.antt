use Rattle.std.proofs.Common.{rules}
use Rattle.std.specs.Prelude.{nat_le}
use Rattle.std.proofs.lemmas.List.Sorted.{IsPartitionedBy-leb, IsPartitionPoint-from_clause}
use Rattle.fy_records.proofs.Columns.{place_is}
use Rattle.fy_records.proofs.keys.count_up_to.Goals as goal

pub returns : goal.returns
returns c =
    let keys = c.args.keys.now in
    let key = c.args.key in
    place_is (λ x. nat_le x key) keys c.partition_point.result c.partition_point.ensures.bound
    (IsPartitionPoint-from_clause (λ x. nat_le x key) keys c.partition_point.result c.partition_point.ensures.partitioned (IsPartitionedBy-leb (λ x. x) keys key c.requires) (λ a r q k. search rules))
