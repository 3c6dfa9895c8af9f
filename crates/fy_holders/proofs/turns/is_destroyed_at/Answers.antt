use Rattle.std.proofs.Common.{◌≡◌, ◌∙◌, ℕ, true, false, leb, sym, rules}
use Rattle.std.specs.List.Sorted.{IsPartitionPoint}
use Rattle.std.proofs.lemmas.List.Sorted.{IsPartitionPoint-from_clause, IsPartitionedBy-leb}
use Rattle.fy_holders.proofs.Turning.{rise_sorted, turned_by_place}
use Rattle.fy_holders.proofs.turns.is_destroyed_at.Goals as goal

pub returns : goal.returns
returns c =
    let turns = c.args.turns.now in
    let k = c.args.position in
    let place = c.partition_point.result in
    let parted : IsPartitionPoint (λ (t : ℕ). leb t k ≡ true) (λ (t : ℕ). leb t k ≡ false) turns place =
    IsPartitionPoint-from_clause (λ (t : ℕ). leb t k) turns place c.partition_point.ensures.partitioned (IsPartitionedBy-leb (λ (t : ℕ). t) turns k (rise_sorted 0 turns c.requires)) (λ a r f' called. search rules) in
    c.is_odd.ensures ∙ sym (turned_by_place turns k place c.partition_point.ensures.bound parted)
