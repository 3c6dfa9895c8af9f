use Rattle.std.proofs.Common.{rules}
use Rattle.std.proofs.lemmas.List.Sorted.{IsNonDecreasingBy-from_sort_by_key}
use Rattle.fy_records.specs.declared.disks.Found.{Found}
use Rattle.fy_records.proofs.disks.founds_by_key.Goals as goal

pub returns-clause-order : goal.returns-clause-order
returns-clause-order c =
    IsNonDecreasingBy-from_sort_by_key (λ (found : Found). found.key) _ c.in_ok-sort_by_key.ensures.sorted (λ a r q k. search rules)
