use Rattle.std.proofs.Common.{rules}
use Rattle.std.proofs.lemmas.List.Sorted.{IsNonDecreasingBy-from_sort_by_key, IsPermutation-trans, answers_always, ties_still_rise}
use Rattle.fy_records.specs.Indexed.{read_key}
use Rattle.fy_records.specs.Reads.{process_of}
use Rattle.fy_records.proofs.Gathered.{gathered_from}
use Rattle.fy_records.proofs.index.sort_reads.Goals as goal

pub returns-clause-order : goal.returns-clause-order
returns-clause-order c =
    IsNonDecreasingBy-from_sort_by_key read_key _ c.in_ok-sort_by_key-2.ensures.sorted (λ a r q k. search rules)

pub returns-clause-gathered : goal.returns-clause-gathered
returns-clause-gathered c =
    gathered_from _ (returns-clause-order c)
    (ties_still_rise process_of read_key _ _ (c.in_ok-sort_by_key.ensures.sorted process_of (answers_always _ _ _ (λ f a r g h. search rules)))
    (c.sort_by_key-2.ensures.stable read_key (answers_always _ _ _ (λ f a r g h. search rules))))

pub returns-clause-same : goal.returns-clause-same
returns-clause-same c =
    IsPermutation-trans _ _ _ c.in_ok-sort_by_key.ensures.permutation c.in_ok-sort_by_key-2.ensures.permutation
