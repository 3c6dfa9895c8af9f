-- messages are delivered
use Rattle.std.proofs.Common.{◌==◌, ◌≡◌, ℕ, zero, suc, ◌<◌, List, [], ◌∷◌, ◌++◌, Bool, true, false, ◌&&◌, ◌||◌, not, Option, Some, None, option_map, refl, sym, ◌∙◌, ap, ap₂, subst, nat_lt, length, map, arith, slice_get, slice_set, append-nil, eqb-true, length-set, if◌then◌else◌}
use Rattle.std.specs.Prelude.{option_and_then}
use Rattle.std.proofs.lemmas.Bool.{true≢false}
use Rattle.std.proofs.lemmas.Bool.Decides.{nat_tests}
use Rattle.std.proofs.lemmas.Option.{slice_get-get_or, slice_get_within}
use Rattle.std.proofs.lemmas.List.{get_or-set_same, get_or-set_other, length-map}
use Rattle.std.specs.Option.{option_map_or}
use Rattle.std.specs.List.{list_all}
use Rattle.std.specs.FinSet as sets
use Rattle.fy_locality.specs.declared.ProcId.{ProcId}
use Rattle.fy_disk.specs.declared.item.Item.{Item}
use Rattle.fy_disk.specs.Disk.{Stored as OnDisk}
use Rattle.fy_net.specs.declared.message.Body.{Body}
use Rattle.fy_net.specs.declared.message.Body.TheVariants.{Store, Synced}
use Rattle.fy_net.specs.Net.{NetState, process_of, body_of, is_clogged, without_message, take_refusal}
use Rattle.fy_team.specs.Teams.{Team, Record, Roster, is_marked, is_acked, marked_by, with_mark}
use Rattle.fy_team.specs.Standing.{MarkLeavesTeams, MarkIsOneMore, AckedByMark}
use Rattle.fy_acts.specs.declared.act.Act.TheVariants.{Deliver}
use Rattle.fy_acts.specs.declared.reply.Reply.TheVariants.{Stored, Marked, No}
use Rattle.fy_acts.specs.declared.reply.Refusal.TheVariants.{NoMessage, Clogged, NotUp}
use Rattle.fy_cluster.specs.declared.machine.Machine.{Machine}
use Rattle.fy_cluster.specs.Setup.{Setup}
use Rattle.fy_cluster.specs.History.{History, Step, BegunRecord, some_is, sent, in_flight, clogged, up, writes, store_to, ack_of, marks, delivers_ack_of, marked, marked_after, acked, teams, records, members_for, payload_of, synced, unsynced}
use Rattle.fy_cluster.specs.Replies.{first_refusal_or, refusals, answer, on_delivery, is_down_store, is_acked_with}
use Rattle.fy_disk.specs.Disk.{empty_disk}
use Rattle.fy_cluster.specs.Standing.{Refines, Point, StepsTo, step_at, RefinesNet, RefinesTeams, stored, begun_of, IsReachable}
use Rattle.fy_cluster.proofs.Still.{dead_still, up_still, teams_still, rights_still, stored_still, only_traffic}
use Rattle.fy_cluster.proofs.DiskSteps.{synced_else, unsynced_else, own}
use Rattle.fy_cluster.proofs.Refusals.{refuse}
use Rattle.fy_cluster.proofs.Results.{some_is_same, some_not_none}
use Rattle.fy_cluster.proofs.Losing.{flies, flies_not, was_sent, net_left, swap_eq}
use Rattle.fy_cluster.proofs.Records.{Tested, Sound, Known, record_of, slice_get-each, slice_get-some, team_known}
use Rattle.fy_cluster.proofs.Keepers.{sound_after}

pub sound_of : Tested → (c : Setup) (h : History) → IsReachable c h → Sound c h
sound_of tested c h l = subst (Sound c) l.same (sound_after tested c l.journal l.legal)

-- ---- the reply

not_sent : (c : Setup) (h : History) (by n : ℕ) → in_flight h n ≡ false → first_refusal_or (refusals c h (Deliver n)) (answer c h by (Deliver n)) ≡ No NoMessage
unfolding refusals answer
not_sent c h by n f = rw f refl

deliver_reply : (c : Setup) (h : History) (by n : ℕ) (b : Body) (x d : Bool) → in_flight h n ≡ true → slice_get (sent h) n ≡ Some b → clogged h (process_of b) ≡ x → is_down_store h b ≡ d
    → first_refusal_or (refusals c h (Deliver n)) (answer c h by (Deliver n)) ≡ first_refusal_or ((x, Clogged) ∷ (d, NotUp) ∷ []) (on_delivery h b)
unfolding refusals answer
deliver_reply c h by n b x d f s ex ed = rw (f, s, ex, ed) refl

pub none_there : (point : Point) (n : ℕ) (m : Machine) → Refines point.setup point.before m → body_of m.net.in_flight n ≡ None → StepsTo point (Deliver n) (No NoMessage) m
none_there point n m k e = refuse point (Deliver n) NoMessage m k (not_sent point.setup point.before point.by n (flies_not point.setup point.before m.net k.net (was_sent point.before) n e))

-- whether a process is clogged is what the network says
pub clog_is : (c : Setup) (h : History) (net : NetState) (p : ℕ) → p < length net.until → RefinesNet c h net → is_clogged net p ≡ clogged h p
clog_is c h net p l k = ap₂ nat_lt k.clock (k.ends p (let n = k.count in omega arith))

pub is_held : (point : Point) (n : ℕ) (b : Body) (m : Machine) → Refines point.setup point.before m → body_of m.net.in_flight n ≡ Some b → process_of b < length m.net.until → is_clogged m.net (process_of b) ≡ true → StepsTo point (Deliver n) (No Clogged) m
is_held point n b m k e l x =
    let f = flies point.setup point.before m.net k.net n b e in
    refuse point (Deliver n) Clogged m k (deliver_reply point.setup point.before point.by n b true _ f.0 f.1 (sym (clog_is point.setup point.before m.net (process_of b) l k.net) ∙ x) refl)

pub is_down : (point : Point) (n rec : ℕ) (to : ProcId) (m : Machine) → Refines point.setup point.before m → body_of m.net.in_flight n ≡ Some (Store rec to) → to.0 < length m.net.until → is_clogged m.net to.0 ≡ false → sets.contains m.up to.0 ≡ false → StepsTo point (Deliver n) (No NotUp) m
is_down point n rec to m k e l x u =
    let f = flies point.setup point.before m.net k.net n (Store rec to) e in
    let low : up point.before to.0 ≡ false = sym (k.up.each to.0 (let c = k.net.count in omega arith)) ∙ u in
    refuse point (Deliver n) NotUp m k (deliver_reply point.setup point.before point.by n (Store rec to) false true f.0 f.1 (sym (clog_is point.setup point.before m.net to.0 l k.net) ∙ x) (ap not low))

-- ---- a store

slice_get-map : {X Y : Type 0} (f : X → Y) (xs : List X) (i : ℕ) → slice_get (map f xs) i ≡ option_map f (slice_get xs i)
slice_get-map f [] i = refl
slice_get-map f (x ∷ xs) zero = refl
slice_get-map f (x ∷ xs) (suc i) = slice_get-map f xs i

pub record_is : (h : History) (roster : Roster) → RefinesTeams h roster → (rec : ℕ) → slice_get (records h) rec ≡ option_map begun_of (slice_get roster.records rec)
record_is h roster k rec = ap (λ rs. slice_get rs rec) (sym k.records) ∙ slice_get-map begun_of roster.records rec

pub payload_is : (h : History) (roster : Roster) → RefinesTeams h roster → (rec : ℕ) (x : List ℕ) → Some x ≡ option_map (λ (it : Record). it.payload) (slice_get roster.records rec) → x ≡ payload_of h rec
payload_is h roster k rec x e = at (slice_get roster.records rec) refl e
  where
    at : (o : Option Record) → slice_get roster.records rec ≡ o → Some x ≡ option_map (λ (it : Record). it.payload) o → x ≡ payload_of h rec
    at None s e = absurd (some_not_none x e)
    at (Some it) s e = some_is_same x it.payload e ∙ sym (ap (λ (o : Option BegunRecord). option_map_or (λ b. b.payload) o []) (record_is h roster k rec ∙ ap (option_map begun_of) s))

pub payload_there : Tested → (point : Point) (n rec : ℕ) (to : ProcId) (m : Machine) → Refines point.setup point.before m → IsReachable point.setup point.before → body_of m.net.in_flight n ≡ Some (Store rec to) → None ≡ option_map (λ (it : Record). it.payload) (slice_get m.teams.records rec) → ⊥
payload_there tested point n rec to m k l e none = at (slice_get m.teams.records rec) refl none
  where
    begun : Known point.before rec
    begun = slice_get-each (λ b. Known point.before (record_of b)) (sent point.before) n (Store rec to) (sound_of tested point.setup point.before l).sent_known (flies point.setup point.before m.net k.net n (Store rec to) e).1

    at : (o : Option Record) → slice_get m.teams.records rec ≡ o → None ≡ option_map (λ (it : Record). it.payload) o → ⊥
    at None s none = some_not_none begun.0 (sym begun.1 ∙ record_is point.before m.teams k.teams rec ∙ ap (option_map begun_of) s)
    at (Some it) s none = some_not_none it.payload (sym none)

-- a list after one element was written over
pub after_set : {X : Type 0} (xs : List X) (i p : ℕ) (x other : X) → i < length xs → p < length xs → slice_get (slice_set xs i x) p ≡ (if p == i then Some x else slice_get xs p)
after_set xs i p x other l w = at (p == i) refl
  where
    at : (b : Bool) → (p == i) ≡ b → slice_get (slice_set xs i x) p ≡ (if b then Some x else slice_get xs p)
    at true e = let same : p ≡ i = eqb-true p i e in rw same (slice_get-get_or (slice_set xs i x) i other (let n = length-set xs i x in omega arith) ∙ ap Some (get_or-set_same xs i x other l))
    at false e =
        let apart : p ≡ i → ⊥ = λ w. (let hit : (p == i) ≡ true = grind (arith, nat_tests) in true≢false (sym hit ∙ e)) in
        slice_get-get_or (slice_set xs i x) p other (let n = length-set xs i x in omega arith) ∙ ap Some (get_or-set_other xs i p x other apart) ∙ sym (slice_get-get_or xs p other w)

-- the machine once a store is delivered
pub stores : (point : Point) (n rec : ℕ) (to : ProcId) (machine : Machine) (disk : OnDisk) (payload : List ℕ) (after : Machine) → Refines point.setup point.before machine
    → body_of machine.net.in_flight n ≡ Some (Store rec to) → to.0 < length machine.net.until → is_clogged machine.net to.0 ≡ false → sets.contains machine.up to.0 ≡ true
    → payload ≡ payload_of point.before rec
    → slice_get machine.disks to.0 ≡ Some disk
    → after.dead ≡ machine.dead → after.book ≡ machine.book → after.up ≡ machine.up → after.net ≡ without_message n machine.net → after.teams ≡ machine.teams
    → after.disks ≡ slice_set machine.disks to.0 (record { synced = disk.synced; unsynced = disk.unsynced ++ record { rec = rec; payload = payload } ∷ [] })
    → StepsTo point (Deliver n) Stored after
stores point n rec to machine disk payload after k e there x u held was e1 e2 e3 e4 e5 e6 = record {
  right = sym (deliver_reply c h point.by n (Store rec to) false false f.0 f.1 (sym (clog_is c h machine.net to.0 there k.net) ∙ x) (ap not (sym (k.up.each to.0 within) ∙ u)));
  stands = record {
    dead = rw e1 (dead_still c m h machine.dead (λ p. refl) refl k.dead);
    rights = rw e2 (rights_still c m h machine.book refl refl refl refl k.rights);
    disks = rw e6 (record {
      count = length-set machine.disks to.0 _ ∙ k.disks.count;
      each = λ p l. after_set machine.disks to.0 p _ empty_disk room (let n = k.disks.count in omega arith) ∙ at p l (p == to.0) refl;
    });
    up = rw e3 (up_still c m h machine.up (λ p. refl) refl k.up);
    net = rw e4 (net_left c m h machine.net n f.0 refl (λ i. swap_eq i n) refl refl refl k.net);
    teams = rw e5 (teams_still m h machine.teams refl refl refl refl
        (λ r p. ap (λ o. some_is (λ w. w.0 == r && w.1 == p) (option_and_then ack_of o)) f.1)
        (λ r. ap (λ o. some_is (λ w. w.0 == r) (option_and_then ack_of o)) f.1)
        k.teams);
  };
}
  where
    c : Setup
    c = point.setup

    h : History
    h = point.before

    m : Step
    m = step_at point (Deliver n) Stored

    f : (in_flight point.before n ≡ true) × (slice_get (sent point.before) n ≡ Some (Store rec to))
    f = flies point.setup point.before machine.net k.net n (Store rec to) e

    within : to.0 < length point.setup.processes
    within = let c = k.net.count in omega arith

    room : to.0 < length machine.disks
    room = let c = k.net.count in let d = k.disks.count in omega arith

    wrote : (p : ℕ) → writes m p ≡ (if to.0 == p then Some rec else None)
    wrote p = ap (option_and_then (store_to p)) f.1

    disk_is : disk ≡ stored point.before to.0
    disk_is = some_is_same disk (stored point.before to.0) (sym was ∙ k.disks.each to.0 within)

    at : (p : ℕ) → p < length point.setup.processes → (b : Bool) → (p == to.0) ≡ b
        → (if b then Some (record { synced = disk.synced; unsynced = disk.unsynced ++ record { rec = rec; payload = payload } ∷ [] }) else slice_get machine.disks p) ≡ Some (stored (m ∷ h) p)
    at p l true s =
        let same : p ≡ to.0 = eqb-true p to.0 s in
        let hit : (to.0 == p) ≡ true = swap_eq p to.0 ∙ s in
        let mine : own m h p ≡ record { rec = rec; payload = payload } ∷ [] = rw (wrote p, hit) (ap (λ xs. record { rec = rec; payload = xs } ∷ []) (sym held)) in
        ap Some (ap₂ (λ (xs ys : List Item). record { synced = xs; unsynced = ys })
        (ap (λ (d : OnDisk). d.synced) disk_is ∙ ap (synced h) (sym same) ∙ sym (synced_else m h p refl))
        (ap₂ (λ xs ys. xs ++ ys) (ap (λ (d : OnDisk). d.unsynced) disk_is ∙ ap (unsynced h) (sym same)) (sym mine) ∙ sym (unsynced_else m h p refl)))
    at p l false s =
        let miss : (to.0 == p) ≡ false = swap_eq p to.0 ∙ s in
        k.disks.each p l ∙ ap Some (sym (stored_still m h p refl (wrote p ∙ rw miss refl)))

-- ---- a word

pub rec_there : Tested → (point : Point) (n rec : ℕ) (from : ProcId) (m : Machine) → Refines point.setup point.before m → IsReachable point.setup point.before → body_of m.net.in_flight n ≡ Some (Synced rec from) → rec < length m.teams.records
rec_there tested point n rec from m k l e =
    let begun : Known point.before rec = slice_get-each (λ b. Known point.before (record_of b)) (sent point.before) n (Synced rec from) (sound_of tested point.setup point.before l).sent_known (flies point.setup point.before m.net k.net n (Synced rec from) e).1 in
    let within : rec < length (records point.before) = slice_get_within (records point.before) rec begun.0 begun.1 in
    let same : length (map begun_of m.teams.records) ≡ length (records point.before) = ap length k.teams.records in
    let mapped : length (map begun_of m.teams.records) ≡ length m.teams.records = length-map m.teams.records begun_of in
    omega arith

pub all_same : (f g : ProcId → Bool) → ((p : ProcId) → f p ≡ g p) → (ps : List ProcId) → list_all f ps ≡ list_all g ps
all_same f g w [] = refl
all_same f g w (p ∷ ps) = ap₂ (λ a b. a && b) (w p) (all_same f g w ps)

-- the machine once a process's word is delivered
pub marks_now : Tested → MarkLeavesTeams → MarkIsOneMore → AckedByMark
    → (point : Point) (n rec : ℕ) (from : ProcId) (machine : Machine) (done : Bool) (net : NetState) (roster : Roster) → Refines point.setup point.before machine → IsReachable point.setup point.before
    → body_of machine.net.in_flight n ≡ Some (Synced rec from) → from.0 < length machine.net.until → is_clogged machine.net from.0 ≡ false
    → net ≡ without_message n machine.net → roster ≡ marked_by rec from.0 machine.teams → done ≡ is_acked roster rec
    → StepsTo point (Deliver n) (Marked done) (record machine { net = net; teams = roster })
marks_now tested same_teams more by_mark point n rec from machine done net roster k l e there x left is told = rw left (record {
  right = ap Marked (told ∙ ap (λ r. is_acked r rec) is ∙ acked_now rec ∙ acked_is) ∙ sym (deliver_reply c h point.by n (Synced rec from) false false f.0 f.1 (sym (clog_is c h machine.net from.0 there k.net) ∙ x) refl);
  stands = only_traffic point (Deliver n) (Marked done) machine (without_message n machine.net) roster refl (λ p. refl) k
      (net_left c m h machine.net n f.0 refl (λ i. swap_eq i n) refl refl refl k.net)
      (rw is (record {
        teams = same_teams machine.teams rec from.0 ∙ k.teams.teams ∙ sym (append-nil (teams h));
        records = records_same machine.teams ∙ k.teams.records ∙ sym (append-nil (records h));
        marks = marks_same;
        acked = acked_now;
      }));
})
  where
    c : Setup
    c = point.setup

    h : History
    h = point.before

    m : Step
    m = step_at point (Deliver n) (Marked done)

    marked_now : Roster
    marked_now = marked_by rec from.0 machine.teams

    f : (in_flight point.before n ≡ true) × (slice_get (sent point.before) n ≡ Some (Synced rec from))
    f = flies point.setup point.before machine.net k.net n (Synced rec from) e

    within : rec < length machine.teams.records
    within = rec_there tested point n rec from machine k l e

    eq_swap : (a b : ℕ) → (a == b) ≡ (b == a)
    eq_swap a b = swap_eq b a

    marks_is : (r p : ℕ) → marks m r p ≡ (r == rec && p == from.0)
    marks_is r p = ap (λ o. some_is (λ w. w.0 == r && w.1 == p) (option_and_then ack_of o)) f.1 ∙ ap₂ (λ a b. a && b) (eq_swap rec r) (eq_swap from.0 p)

    tells_is : (r : ℕ) → delivers_ack_of m r ≡ (r == rec)
    tells_is r = ap (λ o. some_is (λ w. w.0 == r) (option_and_then ack_of o)) f.1 ∙ eq_swap rec r

    marks_same : (r p : ℕ) → is_marked marked_now r p ≡ marked (m ∷ h) r p
    marks_same r p = more machine.teams rec from.0 r p within ∙ ap₂ (λ a b. a || b) (sym (marks_is r p)) (k.teams.marks r p)

    -- whether all members have a mark once the word is delivered
    all_then : ℕ → Bool
    all_then r = list_all (λ p. marked_after m r p.0 (acked h r) (marked h r p.0)) (members_for h r)

    acked_is : (acked h rec || delivers_ack_of m rec && all_then rec) ≡ is_acked_with h rec from.0
    acked_is = ap (λ o. acked (record m { message = o } ∷ h) rec) f.1

    acked_now : (r : ℕ) → is_acked marked_now r ≡ acked (m ∷ h) r
    acked_now r =
        by_mark machine.teams rec from.0 r it.0.team t.0.members (ap (option_map (λ (it : Record). it.team)) it.1) (ap (option_map (λ (it : Team). it.members)) (ap (λ ts. slice_get ts it.0.team) k.teams.teams ∙ t.1))
        ∙ ap₂ (λ a b. a || b) (k.teams.acked r) (ap (λ ps. r == rec && list_all (λ q. is_marked marked_now rec q.0) ps) (sym team_is) ∙ at (r == rec) refl)
      where
        sound : Sound c h
        sound = sound_of tested c h l

        it : (it : Record) × (slice_get machine.teams.records rec ≡ Some it)
        it = slice_get-some machine.teams.records rec within

        begun : slice_get (records h) rec ≡ Some (begun_of it.0)
        begun = record_is h machine.teams k.teams rec ∙ ap (option_map begun_of) it.1

        t : (t : Team) × (slice_get (teams h) it.0.team ≡ Some t)
        t = slice_get-each (λ b. (t : Team) × (slice_get (teams h) b.team ≡ Some t)) (records h) rec (begun_of it.0) sound.joined begun

        team_is : members_for h rec ≡ t.0.members
        team_is = team_known h rec (begun_of it.0) t.0 begun t.1

        at : (b : Bool) → (r == rec) ≡ b → (b && list_all (λ q. is_marked marked_now rec q.0) (members_for h rec)) ≡ (delivers_ack_of m r && all_then r)
        at true e =
            let same : r ≡ rec = eqb-true r rec e in
            all_same _ _ (λ q. marks_same rec q.0) (members_for h rec) ∙ ap all_then (sym same) ∙ sym (ap (λ b. b && all_then r) (tells_is r ∙ e))
        at false e = sym (ap (λ b. b && all_then r) (tells_is r ∙ e))

    set_same : (its : List Record) (i : ℕ) (it next : Record) → begun_of next ≡ begun_of it → slice_get its i ≡ Some it → map begun_of (slice_set its i next) ≡ map begun_of its
    set_same [] i it next b w = refl
    set_same (x ∷ its) zero it next b w = ap (λ (y : BegunRecord). y ∷ map begun_of its) (b ∙ ap begun_of (sym (some_is_same x it w)))
    set_same (x ∷ its) (suc i) it next b w = ap (λ ys. begun_of x ∷ ys) (set_same its i it next b w)

    records_same : (roster : Roster) → map begun_of (marked_by rec from.0 roster).records ≡ map begun_of roster.records
    records_same roster = into (slice_get roster.records rec) refl
      where
        into : (o : Option Record) → slice_get roster.records rec ≡ o → map begun_of (option_map_or (λ it. record roster { records = slice_set roster.records rec (with_mark roster from.0 it) }) o roster).records ≡ map begun_of roster.records
        into None s = refl
        into (Some it) s = set_same roster.records rec it (with_mark roster from.0 it) refl s

-- what is in flight and isn't held may be taken
pub may_be_taken : (net : NetState) (n : ℕ) (b : Body) → body_of net.in_flight n ≡ Some b → is_clogged net (process_of b) ≡ false → take_refusal net n ≡ None
may_be_taken net n b e x = rw e (rw x refl)
