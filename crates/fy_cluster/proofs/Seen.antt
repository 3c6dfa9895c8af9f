-- what the machine says there is to do next is what the history says
use Rattle.std.proofs.Common.{◌≡◌, ℕ, ◌<◌, ◌≤◌, IfSome, IfNone, Bool, true, false, ◌&&◌, not, Option, Some, None, refl, sym, ◌∙◌, ap, ap₂, arith, nat_lt, length}
use Rattle.std.proofs.lemmas.Bool.{and_left}
use Rattle.std.proofs.lemmas.Bool.Decides.{nat_tests}
use Rattle.std.proofs.lemmas.List.{get_or_past}
use Rattle.std.proofs.lemmas.Option.{get_or_from_slice_get}
use Rattle.std.specs.FinSet as sets
use Rattle.std.specs.Ordering.{nat_cmp}
use Rattle.std.specs.Cmp.{nat_cmp_total}
use Rattle.fy_locality.specs.declared.ProcId.{ProcId}
use Rattle.fy_locality.specs.Members.{IsLeast}
use Rattle.fy_disk.specs.Disk.{Stored as OnDisk}
use Rattle.fy_net.specs.Net.{first_free_of, IsNetState}
use Rattle.fy_cluster.specs.declared.machine.Machine.{Machine}
use Rattle.fy_cluster.specs.declared.sight.Sight.{Sight}
use Rattle.fy_cluster.specs.Setup.{Setup}
use Rattle.fy_cluster.specs.History.{History, left, up, unsynced}
use Rattle.fy_disk.specs.Disk.{empty_disk}
use Rattle.fy_disk.specs.Disks.{disk_of, has_unsynced}
use Rattle.fy_cluster.specs.Standing.{Refines, stored}
use Rattle.fy_cluster.specs.Sights.{LeastProcess, needs_sync, is_asleep, Sees}
use Rattle.fy_cluster.proofs.Deliverable.{first_free_is}

-- ---- the whole

turned : (a b : Bool) → (a && b) ≡ (b && a)
turned true true = refl
turned true false = refl
turned false true = refl
turned false false = refl

-- who is up and has writes that it has not synced, beyond the last process too
behind_is : (c : Setup) (h : History) (m : Machine) (waiting : sets.FinSet nat_cmp) → Refines c h m → ((p : ℕ) → sets.contains waiting p ≡ has_unsynced (disk_of m.disks p)) → (p : ℕ) → sets.contains (sets.intersection waiting m.up) p ≡ needs_sync c h p
behind_is c h m waiting k who p = sets.contains-intersection nat_cmp_total waiting m.up p ∙ ap (λ b. b && sets.contains m.up p) (who p) ∙ at (nat_lt p (length c.processes)) refl
  where
    at : (b : Bool) → nat_lt p (length c.processes) ≡ b → (has_unsynced (disk_of m.disks p) && sets.contains m.up p) ≡ (b && up h p && nat_lt 0 (length (unsynced h p)))
    at true e =
        let there : p < length c.processes = grind (arith, nat_tests) in
        ap₂ (λ a b. a && b) (ap (λ (d : OnDisk). nat_lt 0 (length d.unsynced)) (get_or_from_slice_get m.disks p (stored h p) empty_disk (k.disks.each p there))) (k.up.each p there)
        ∙ turned (nat_lt 0 (length (unsynced h p))) (up h p)
    at false e =
        let beyond : length m.disks ≤ p = let n = k.disks.count in grind (arith, nat_tests) in
        and_left _ (sets.contains m.up p) (ap (λ (d : OnDisk). nat_lt 0 (length d.unsynced)) (get_or_past m.disks p empty_disk beyond))

-- who is left and down, beyond the last process too
asleep_is : (c : Setup) (h : History) (m : Machine) → Refines c h m → (p : ℕ) → sets.contains (sets.difference m.dead.left m.up) p ≡ is_asleep c h p
asleep_is c h m k p = sets.contains-difference nat_cmp_total m.dead.left m.up p ∙ ap (λ b. b && not (sets.contains m.up p)) (k.dead.left p) ∙ at (nat_lt p (length c.processes)) refl
  where
    at : (b : Bool) → nat_lt p (length c.processes) ≡ b → (left c h p && not (sets.contains m.up p)) ≡ is_asleep c h p
    at true e = let there : p < length c.processes = grind (arith, nat_tests) in ap (λ b. left c h p && not b) (k.up.each p there)
    at false e = rw e refl

-- the least process of a set is the least that passes the test that says who is in it
least_of : (set : sets.FinSet nat_cmp) (test : ℕ → Bool) → ((p : ℕ) → sets.contains set p ≡ test p) → (o : Option ProcId) → IfSome o (λ p. IsLeast set p.0) → IfNone o (set ≡ sets.empty) → LeastProcess test o
least_of set test same None some none = λ n. sym (same n) ∙ ap (λ s. sets.contains s n) none ∙ sets.contains-empty nat_cmp n
least_of set test same (Some p) some none = record { passes = sym (same p.0) ∙ some.present; none_below = λ k l. sym (same k) ∙ some.none_below k l }

pub sees : (c : Setup) (h : History) (m : Machine) (waiting behind asleep : sets.FinSet nat_cmp) (sight : Sight) → Refines c h m → IsNetState m.net
    → sight.now ≡ m.net.clock → sight.deliverable ≡ first_free_of m.net (sets.contains m.up)
    → ((p : ℕ) → sets.contains waiting p ≡ has_unsynced (disk_of m.disks p)) → behind ≡ sets.intersection waiting m.up → IfSome sight.unsynced (λ p. IsLeast behind p.0) → IfNone sight.unsynced (behind ≡ sets.empty)
    → asleep ≡ sets.difference m.dead.left m.up → IfSome sight.sleeping (λ p. IsLeast asleep p.0) → IfNone sight.sleeping (asleep ≡ sets.empty)
    → Sees c h sight
sees c h m waiting behind asleep sight k sound time first who are some_behind none_behind is some none = record {
  time = time ∙ k.net.clock;
  deliverable = rw first (first_free_is c h m k sound.known);
  unsynced = least_of behind (needs_sync c h) (λ p. ap (λ s. sets.contains s p) are ∙ behind_is c h m waiting k who p) sight.unsynced some_behind none_behind;
  sleeping = least_of asleep (is_asleep c h) (λ p. ap (λ s. sets.contains s p) is ∙ asleep_is c h m k p) sight.sleeping some none;
}
