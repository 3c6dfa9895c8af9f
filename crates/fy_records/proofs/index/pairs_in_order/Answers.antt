use Rattle.std.proofs.Common.{◌∙◌, ◌+◌, ◌*◌, sym}
use Rattle.std.specs.Prelude.{◌==◌}
use Rattle.std.proofs.lemmas.List.Sorted.{list_any-IsPermutation, IsNonDecreasingBy-from_sort}
use Rattle.fy_records.proofs.index.pairs_in_order.Goals as goal

pub returns-clause-pairs : goal.returns-clause-pairs
returns-clause-pairs c key value small =
    sym (list_any-IsPermutation (λ x. x == key * 4294967296 + value) _ _ c.sort_unstable.ensures.permutation)
    ∙ c.in_ok-pairs.ensures key value small

pub returns-clause-order : goal.returns-clause-order
returns-clause-order c = IsNonDecreasingBy-from_sort (λ x. x) _ c.sort_unstable.ensures.sorted
