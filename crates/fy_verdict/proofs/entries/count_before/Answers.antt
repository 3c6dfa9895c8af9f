use Rattle.std.proofs.Common.{rules}
use Rattle.std.proofs.lemmas.List.Sorted.{IsPartitionedBy-ltb, IsPartitionPoint-from_clause}
use Rattle.fy_verdict.specs.Whole.{line_of, is_before}
use Rattle.fy_verdict.proofs.Fronts.{front_is}
use Rattle.fy_verdict.proofs.entries.count_before.Goals as goal

pub returns-clause-before : goal.returns-clause-before
returns-clause-before c = λ rises.
    let line = c.args.line in
    let entries = c.args.entries.now in
    front_is (is_before line) entries c.partition_point.result c.partition_point.ensures.bound
    (IsPartitionPoint-from_clause (is_before line) entries c.partition_point.result c.partition_point.ensures.partitioned
    (IsPartitionedBy-ltb line_of entries line rises) (λ a r q k. search rules))
