use Rattle.std.proofs.Common.{◌≡◌, ◌-◌, ◌∙◌, ◌++◌, List, true, false, ltb, length, take, drop, sym, ap, subst, rules, arith}
use Rattle.std.specs.List.Sorted.{IsPartitionPoint, IsPartitionedBy}
use Rattle.std.proofs.lemmas.List.Sorted.{IsPartitionPoint-from_clause}
use Rattle.fy_cluster.specs.Execution.{Execution}
use Rattle.fy_holders.specs.declared.outages.Heal.{Heal}
use Rattle.fy_holders.specs.Destroyed.{heals_in, heals_since}
use Rattle.fy_holders.proofs.Finding.{cut, is_parted, numbered, below_all, from_all, heals_split}
use Rattle.fy_holders.proofs.outages.Outages.heals_since.Goals as goal

pub returns : goal.returns
returns c =
    let journal = c.self.inside.cluster.journal in
    let noted = c.self.invariant.noted in
    let k = c.args.position in
    let place = c.partition_point-first.result in
    let are = numbered c.self.inside.cluster.setup _ journal noted.legal.1 in
    let front = below_all 0 k k journal (omega arith) are in
    let rest = from_all 0 k k journal (omega arith) are in
    let split : c.self.inside.heals.items ≡ heals_in (take k journal) ++ heals_in (drop k journal) = noted.heals_are ∙ heals_split journal k in
    let first : c.deref.result.now ≡ heals_in (take k journal) ++ heals_in (drop k journal) = c.deref.ensures.value ∙ split in
    let second : c.deref-2.result.now ≡ c.deref.result.now = c.deref-2.ensures.value ∙ sym c.deref.ensures.value in
    let parted : IsPartitionPoint (λ (h : Heal). ltb h.entry k ≡ true) (λ (h : Heal). ltb h.entry k ≡ false) c.deref.result.now place =
    IsPartitionPoint-from_clause (λ (h : Heal). ltb h.entry k) c.deref.result.now place c.partition_point-first.ensures.partitioned
    (subst (IsPartitionedBy (λ (h : Heal). ltb h.entry k)) (sym first) (is_parted (λ (h : Heal). ltb h.entry k) (heals_in (take k journal)) (heals_in (drop k journal)) front rest)) (λ a r f' called. search rules) in
    let those = cut (λ (h : Heal). ltb h.entry k) c.deref.result.now (heals_in (take k journal)) (heals_in (drop k journal)) place first front rest c.partition_point-first.ensures.bound parted in
    ap (λ (heals : List Heal). take (length heals - place) (drop place heals)) second ∙ those ∙ ap (λ (x : Execution). heals_since x.journal k) c.self.view_is
