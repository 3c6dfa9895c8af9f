use Rattle.std.proofs.Common.{ap, length, arith}
use Rattle.std.proofs.lemmas.List.Sorted.{IsNonDecreasingBy-from_sort}
use Rattle.fy_records.specs.Counted.{stale_time}
use Rattle.fy_records.proofs.Fewer.{made_fewer}
use Rattle.fy_records.proofs.counts.times_in_order.Goals as goal

pub returns-clause-order : goal.returns-clause-order
returns-clause-order c = IsNonDecreasingBy-from_sort (λ x. x) _ c.sort_unstable.ensures.sorted

pub returns-clause-few : goal.returns-clause-few
returns-clause-few c =
    omega (arith, c.sort_unstable.ensures.len, ap length c.in_ok-times.ensures, made_fewer stale_time c.args.records.now)
