use Rattle.std.proofs.Common.{rules}
use Rattle.std.proofs.lemmas.List.Sorted.{IsNonDecreasingBy-from_sort_by_key}
use Rattle.fy_keys.specs.Operations.{began_of}
use Rattle.fy_keys.proofs.operations.operations_of.Goals as goal

pub returns-clause-order : goal.returns-clause-order
returns-clause-order c =
    IsNonDecreasingBy-from_sort_by_key began_of _ c.in_ok-sort_by_key.ensures.sorted (λ a r q k. search rules)
