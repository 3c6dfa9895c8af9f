-- a process syncs
use Rattle.std.proofs.Common.{subst, ◌==◌, ◌≡◌, ℕ, ◌+◌, ◌<◌, List, [], ◌∷◌, ◌++◌, Bool, true, false, not, Some, None, refl, sym, ◌∙◌, ap, ap₂, length, arith, slice_get, slice_set, eqb-true, eq-eqb, length-set, if◌then◌else◌}
use Rattle.std.proofs.lemmas.Option.{slice_get-get_or}
use Rattle.std.proofs.lemmas.List.{length-map}
use Rattle.fy_locality.specs.declared.ProcId.{ProcId}
use Rattle.fy_disk.specs.declared.item.Item.{Item}
use Rattle.fy_disk.specs.Disk.{Stored as OnDisk, filter_by_place}
use Rattle.fy_net.specs.declared.message.Body.TheVariants.{Synced as Word}
use Rattle.fy_net.specs.Net.{NetState, reserve_refusal}
use Rattle.fy_acts.specs.declared.act.Act.TheVariants.{Sync}
use Rattle.fy_acts.specs.declared.reply.Reply.TheVariants.{Synced, No}
use Rattle.fy_acts.specs.declared.reply.Refusal.TheVariants.{NoProcess, NotUp, NetFull}
use Rattle.fy_cluster.specs.declared.machine.Machine.{Machine}
use Rattle.fy_cluster.specs.Setup.{Setup}
use Rattle.fy_cluster.specs.History.{History, Step, up, sent, synced, unsynced, closes, close_keeps, acks_of}
use Rattle.fy_cluster.specs.Replies.{first_refusal_or, refusals, answer, no_process, is_full}
use Rattle.fy_disk.specs.Disk.{empty_disk}
use Rattle.fy_disk.specs.Disks.{disk_of}
use Rattle.fy_cluster.specs.Standing.{Refines, Point, StepsTo, step_at, stored, Sends}
use Rattle.fy_cluster.proofs.Still.{dead_still, up_still, teams_idle, rights_still, stored_still}
use Rattle.fy_cluster.proofs.DiskSteps.{synced_at_close, unsynced_at_close}
use Rattle.fy_cluster.proofs.Refusals.{refuse}
use Rattle.fy_cluster.proofs.Results.{some_is_same}
use Rattle.fy_cluster.proofs.Room.{net_sent, room_for}
use Rattle.fy_cluster.proofs.Losing.{swap_eq}
use Rattle.fy_cluster.proofs.Delivered.{after_set}

sync_reply : (c : Setup) (h : History) (by : ℕ) (p : ProcId) (a b d : Bool) → no_process c p.0 ≡ a → up h p.0 ≡ b → is_full h (length (unsynced h p.0)) ≡ d
    → first_refusal_or (refusals c h (Sync p)) (answer c h by (Sync p)) ≡ first_refusal_or ((a, NoProcess) ∷ (not b, NotUp) ∷ (d, NetFull) ∷ []) (Synced (length (sent h)) (length (unsynced h p.0)))
unfolding refusals answer
sync_reply c h by p a b d e f g = rw (e, f, g) refl

pub nobody : (point : Point) (p : ProcId) (m : Machine) → Refines point.setup point.before m → no_process point.setup p.0 ≡ true → StepsTo point (Sync p) (No NoProcess) m
nobody point p m k e = refuse point (Sync p) NoProcess m k (sync_reply point.setup point.before point.by p true _ _ e refl refl)

pub is_down : (point : Point) (p : ProcId) (m : Machine) → Refines point.setup point.before m → no_process point.setup p.0 ≡ false → up point.before p.0 ≡ false → StepsTo point (Sync p) (No NotUp) m
is_down point p m k e f = refuse point (Sync p) NotUp m k (sync_reply point.setup point.before point.by p false false _ e f refl)

pub full_reply : (point : Point) (p : ProcId) (n : ℕ) → no_process point.setup p.0 ≡ false → up point.before p.0 ≡ true → n ≡ length (unsynced point.before p.0) → is_full point.before n ≡ true
    → first_refusal_or (refusals point.setup point.before (Sync p)) (answer point.setup point.before point.by (Sync p)) ≡ No NetFull
full_reply point p n e f count full = sync_reply point.setup point.before point.by p false true true e f (ap (is_full point.before) (sym count) ∙ full)

-- all pass
passing_all : (xs : List Item) (i : ℕ) → filter_by_place (λ j. true) i xs ≡ xs
passing_all [] i = refl
passing_all (x ∷ xs) i = ap (λ ys. x ∷ ys) (passing_all xs (i + 1))

pub synced_now : (point : Point) (p : ProcId) (machine : Machine) (disk : OnDisk) (room net : NetState) (first count : ℕ) (after : Machine) → Refines point.setup point.before machine
    → no_process point.setup p.0 ≡ false → p.0 < length point.setup.processes → up point.before p.0 ≡ true
    → slice_get machine.disks p.0 ≡ Some disk → reserve_refusal machine.net (length disk.unsynced) ≡ None
    → room ≡ record machine.net { room = room.room }
    → Sends room (acks_of p disk.unsynced) net
    → first ≡ room.sent → count ≡ length disk.unsynced
    → after.dead ≡ machine.dead → after.book ≡ machine.book → after.up ≡ machine.up → after.net ≡ net → after.teams ≡ machine.teams
    → after.disks ≡ slice_set machine.disks p.0 (record { synced = disk.synced ++ disk.unsynced; unsynced = [] })
    → StepsTo point (Sync p) (Synced first count) after
synced_now point p machine disk room net first count after k known there ups was clear reserved sends number counted e1 e2 e3 e4 e5 e6 = rw (first_is, count_is) (record {
  right = sym (sync_reply c h point.by p false true false known ups (ap (is_full h) (sym size) ∙ (room_for c h machine.net (length disk.unsynced) k.net clear).0));
  stands = record {
    dead = rw e1 (dead_still c m h machine.dead (λ q. refl) refl k.dead);
    rights = rw e2 (rights_still c m h machine.book refl refl refl refl k.rights);
    disks = rw e6 (record {
      count = length-set machine.disks p.0 _ ∙ k.disks.count;
      each = λ q l. after_set machine.disks p.0 q _ empty_disk (let n = k.disks.count in omega arith) (let n = k.disks.count in omega arith) ∙ at q l (q == p.0) refl;
    });
    up = rw e3 (up_still c m h machine.up (λ q. refl) refl k.up);
    net = rw e4 (net_sent c m h machine.net net (acks_of p disk.unsynced) (ap (λ (d : OnDisk). acks_of p d.unsynced) (sym disk_is))
        (let few = (room_for c h machine.net (length disk.unsynced) k.net clear).1 in let l = words in omega arith)
        (λ n. refl)
        refl
        refl
        refl
        sent_now.in_flight
        sent_now.count
        sent_now.clock
        sent_now.until
        k.net);
    teams = rw e5 (teams_idle point (Sync p) (Synced (length (sent h)) (length (unsynced h p.0))) machine.teams refl refl refl refl refl k.teams);
  };
})
  where
    c : Setup
    c = point.setup

    h : History
    h = point.before

    m : Step
    m = step_at point (Sync p) (Synced (length (sent point.before)) (length (unsynced point.before p.0)))

    disk_is : disk ≡ stored point.before p.0
    disk_is = some_is_same disk (stored point.before p.0) (sym was ∙ k.disks.each p.0 there)

    size : length disk.unsynced ≡ length (unsynced point.before p.0)
    size = ap (λ (d : OnDisk). length d.unsynced) disk_is

    sent_now : Sends (record machine.net { room = room.room }) (acks_of p disk.unsynced) net
    sent_now = subst (λ r. Sends r (acks_of p disk.unsynced) net) reserved sends

    words : length (acks_of p disk.unsynced) ≡ length disk.unsynced
    words = length-map disk.unsynced (λ (item : Item). Word item.rec p)

    first_is : first ≡ length (sent point.before)
    first_is = number ∙ ap (λ (r : NetState). r.sent) reserved ∙ k.net.sent_so_far

    count_is : count ≡ length (unsynced point.before p.0)
    count_is = counted ∙ size

    self : (p.0 == p.0) ≡ true
    self = eq-eqb p.0 p.0 refl

    closing : closes p.0 m ≡ true
    closing = rw self refl

    at : (q : ℕ) → q < length point.setup.processes → (b : Bool) → (q == p.0) ≡ b
        → (if b then Some (record { synced = disk.synced ++ disk.unsynced; unsynced = [] }) else slice_get machine.disks q) ≡ Some (stored (m ∷ h) q)
    at q l true s =
        let same : q ≡ p.0 = eqb-true q p.0 s in
        ap (λ (d : OnDisk). Some (record { synced = d.synced ++ d.unsynced; unsynced = [] })) disk_is
        ∙ ap Some (ap₂ (λ (xs ys : List Item). record { synced = xs; unsynced = ys })
        (sym (synced_at_close m h p.0 closing refl ∙ ap (λ xs. synced h p.0 ++ xs) kept))
        (sym (unsynced_at_close m h p.0 closing)))
        ∙ ap (λ i. Some (stored (m ∷ h) i)) (sym same)
      where
        kept : filter_by_place (λ i. close_keeps p.0 i m) 0 (unsynced h p.0) ≡ unsynced h p.0
        kept = rw self (passing_all (unsynced h p.0) 0)
    at q l false s = let miss : (p.0 == q) ≡ false = swap_eq q p.0 ∙ s in k.disks.each q l ∙ ap Some (sym (stored_still m h q (rw miss refl) refl))

-- the disk of a process that is there
pub disk_given : (point : Point) (machine : Machine) (p : ℕ) (x : OnDisk) → Refines point.setup point.before machine → p < length point.setup.processes → x ≡ disk_of machine.disks p → slice_get machine.disks p ≡ Some x
disk_given point machine p x k l e = slice_get-get_or machine.disks p empty_disk (let n = k.disks.count in omega arith) ∙ ap Some (sym e)

pub disk_is_stored : (point : Point) (machine : Machine) (p : ℕ) (x : OnDisk) → Refines point.setup point.before machine → p < length point.setup.processes → x ≡ disk_of machine.disks p → x ≡ stored point.before p
disk_is_stored point machine p x k l e = some_is_same x (stored point.before p) (sym (disk_given point machine p x k l e) ∙ k.disks.each p l)
