use Rattle.std.proofs.Common.{◌≡◌, ℕ, Bool, true, false, nat_lt, ◌&&◌, List, [], ◌∷◌, length, sym, ◌∙◌, ap, arith, append-nil}
use Rattle.std.proofs.lemmas.Bool.{true≢false, and_parts}
use Rattle.std.proofs.lemmas.Bool.Decides.{nat_tests}
use Rattle.std.specs.Cmp.{nat_cmp_total}
use Rattle.std.specs.FinSet as sets
use Rattle.fy_kinds.specs.declared.kind.Kind.{Kind}
use Rattle.fy_disk.specs.declared.item.Item.{Item}
use Rattle.fy_disk.specs.Disk.{Stored, crashed}
use Rattle.fy_disk.specs.Disks.{disk_of, has_unsynced}
use Rattle.fy_cluster.specs.Standing.{disk_after_strike}
use Rattle.fy_cluster.proofs.kills.changed_by.Goals as goal

-- a crash leaves a disk as it is that has nothing to sync
whole : (tear : ℕ) (synced unsynced : List Item) → nat_lt 0 (length unsynced) ≡ false → crashed tear (record { synced = synced; unsynced = unsynced }) ≡ record { synced = synced; unsynced = unsynced }
whole tear synced [] none = ap (λ (items : List Item). record { synced = items; unsynced = [] }) (append-nil synced)
whole tear synced (item ∷ items) none = let some : nat_lt 0 (length (item ∷ items)) ≡ true = grind (arith, nat_tests) in absurd (true≢false (sym some ∙ none))

second_false : (a b : Bool) → a ≡ true → (a && b) ≡ false → b ≡ false
second_false true b e f = f
second_false false b e f = absurd (true≢false (sym e))

pub returns-in-Reboot-clause-within : goal.returns-in-Reboot-clause-within
returns-in-Reboot-clause-within c = λ p member.
    (and_parts _ _ (sym (ap (λ s. sets.contains s p) c.intersection.ensures ∙ sets.contains-intersection nat_cmp_total c.args.targets.now c.with_unsynced.result.now p) ∙ member)).0

pub returns-in-Reboot-clause-same : goal.returns-in-Reboot-clause-same
returns-in-Reboot-clause-same c = λ p tear there out.
    let disk : Stored = disk_of c.args.disks.now p in
    let apart : sets.contains c.with_unsynced.result.now p ≡ false = second_false (sets.contains c.args.targets.now p) (sets.contains c.with_unsynced.result.now p) there (sym (ap (λ s. sets.contains s p) c.intersection.ensures ∙ sets.contains-intersection nat_cmp_total c.args.targets.now c.with_unsynced.result.now p) ∙ out) in
    let none : has_unsynced disk ≡ false = sym (c.with_unsynced.ensures p) ∙ apart in
    ap (λ (kind : Kind). disk_after_strike kind tear disk) c.in-Reboot.is ∙ whole tear disk.synced disk.unsynced none
