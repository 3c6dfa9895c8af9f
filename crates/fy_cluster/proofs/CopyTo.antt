-- a record is copied
use Rattle.std.proofs.Common.{◌≡◌, ℕ, ◌+◌, ◌<◌, [], ◌∷◌, ◌++◌, Bool, true, false, ◌||◌, not, Option, Some, None, option_map, refl, sym, ◌∙◌, ap, nat_le, nat_lt, max, ◌≤◌, List, length, arith, slice_get}
use Rattle.std.proofs.lemmas.Bool.Decides.{nat_tests}
use Rattle.fy_locality.specs.declared.ProcId.{ProcId}
use Rattle.fy_locality.specs.declared.locality.Locality.{Locality}
use Rattle.fy_net.specs.declared.message.Body.TheVariants.{Store}
use Rattle.fy_net.specs.Net.{NetState, reserve_refusal, with_sent}
use Rattle.fy_team.specs.Teams.{Record}
use Rattle.fy_acts.specs.declared.act.Act.TheVariants.{CopyTo}
use Rattle.fy_acts.specs.declared.reply.Reply.TheVariants.{Sent, No}
use Rattle.fy_acts.specs.declared.reply.Refusal.TheVariants.{NoRecord, NoProcess, Gone, NotUp, NoCopy, NetFull}
use Rattle.fy_cluster.specs.declared.machine.Machine.{Machine}
use Rattle.fy_cluster.specs.Setup.{Setup}
use Rattle.fy_cluster.specs.History.{History, Step, gone, up, sent, records, has_synced}
use Rattle.fy_cluster.specs.Replies.{first_refusal_or, refusals, answer, is_full, no_process}
use Rattle.fy_cluster.specs.Standing.{Refines, Point, StepsTo, RefinesTeams, step_at, begun_of, numbered}
use Rattle.fy_cluster.proofs.Still.{teams_idle, only_traffic}
use Rattle.fy_cluster.proofs.Refusals.{refuse}
use Rattle.fy_cluster.proofs.Results.{some_not_none}
use Rattle.fy_cluster.proofs.Room.{net_sent, room_for}
use Rattle.fy_cluster.proofs.Formed.{past_policies, within_policies}
use Rattle.fy_cluster.proofs.Delivered.{record_is}

copy_reply : (c : Setup) (h : History) (by rec : ℕ) (from to : ProcId) (a b d e f g : Bool) → nat_le (length (records h)) rec ≡ a → (no_process c from.0 || no_process c to.0) ≡ b → gone h to.0 ≡ d → up h from.0 ≡ e → has_synced h rec from.0 ≡ f → is_full h 1 ≡ g
    → first_refusal_or (refusals c h (CopyTo from rec to)) (answer c h by (CopyTo from rec to)) ≡ first_refusal_or ((a, NoRecord) ∷ (b, NoProcess) ∷ (d, Gone) ∷ (not e, NotUp) ∷ (not f, NoCopy) ∷ (g, NetFull) ∷ []) (Sent (length (sent h)))
unfolding refusals answer
copy_reply c h by rec from to a b d e f g ea eb ed ee ef eg = λ i. first_refusal_or ((ea i, NoRecord) ∷ (eb i, NoProcess) ∷ (ed i, Gone) ∷ (not (ee i), NotUp) ∷ (not (ef i), NoCopy) ∷ (eg i, NetFull) ∷ []) (Sent (length (sent h)))

-- whether a record was begun, by the teams
pub not_begun : (h : History) (m : Machine) → RefinesTeams h m.teams → (rec : ℕ) → None ≡ option_map (λ (it : Record). it.team) (slice_get m.teams.records rec) → nat_le (length (records h)) rec ≡ true
not_begun h m k rec none = at (slice_get m.teams.records rec) refl none
  where
    at : (o : Option Record) → slice_get m.teams.records rec ≡ o → None ≡ option_map (λ (it : Record). it.team) o → nat_le (length (records h)) rec ≡ true
    at None s none = past_policies (records h) rec (record_is h m.teams k rec ∙ ap (option_map begun_of) s)
    at (Some it) s none = absurd (some_not_none it.team (sym none))

pub is_begun : (h : History) (m : Machine) → RefinesTeams h m.teams → (rec team : ℕ) → Some team ≡ option_map (λ (it : Record). it.team) (slice_get m.teams.records rec) → nat_le (length (records h)) rec ≡ false
is_begun h m k rec team named = at (slice_get m.teams.records rec) refl named
  where
    at : (o : Option Record) → slice_get m.teams.records rec ≡ o → Some team ≡ option_map (λ (it : Record). it.team) o → nat_le (length (records h)) rec ≡ false
    at None s named = absurd (some_not_none team named)
    at (Some it) s named = within_policies (records h) rec (begun_of it) (record_is h m.teams k rec ∙ ap (option_map begun_of) s)

pub no_record_to_copy : (point : Point) (rec : ℕ) (from to : ProcId) (m : Machine) → Refines point.setup point.before m → nat_le (length (records point.before)) rec ≡ true → StepsTo point (CopyTo from rec to) (No NoRecord) m
no_record_to_copy point rec from to m k a = refuse point (CopyTo from rec to) NoRecord m k (copy_reply point.setup point.before point.by rec from to true _ _ _ _ _ a refl refl refl refl refl)

-- both processes are there
pub record Between (point : Point) (rec : ℕ) (from to : ProcId) : Type 0 where
  pub begun : nat_le (length (records point.before)) rec ≡ false
  pub from_there : from.0 < length point.setup.processes
  pub to_there : to.0 < length point.setup.processes

both_there : (point : Point) (rec : ℕ) (from to : ProcId) → Between point rec from to → (no_process point.setup from.0 || no_process point.setup to.0) ≡ false
both_there point rec from to is = let f = is.from_there in let t = is.to_there in grind (arith, nat_tests)

pub one_missing : (point : Point) (rec : ℕ) (from to : ProcId) (m : Machine) → Refines point.setup point.before m → nat_le (length (records point.before)) rec ≡ false → (no_process point.setup from.0 || no_process point.setup to.0) ≡ true → StepsTo point (CopyTo from rec to) (No NoProcess) m
one_missing point rec from to m k a b = refuse point (CopyTo from rec to) NoProcess m k (copy_reply point.setup point.before point.by rec from to false true _ _ _ _ a b refl refl refl refl)

pub to_gone : (point : Point) (rec : ℕ) (from to : ProcId) (m : Machine) → Refines point.setup point.before m → Between point rec from to → gone point.before to.0 ≡ true → StepsTo point (CopyTo from rec to) (No Gone) m
to_gone point rec from to m k is d = refuse point (CopyTo from rec to) Gone m k (copy_reply point.setup point.before point.by rec from to false false true _ _ _ is.begun (both_there point rec from to is) d refl refl refl)

pub from_down : (point : Point) (rec : ℕ) (from to : ProcId) (m : Machine) → Refines point.setup point.before m → Between point rec from to → gone point.before to.0 ≡ false → up point.before from.0 ≡ false → StepsTo point (CopyTo from rec to) (No NotUp) m
from_down point rec from to m k is d e = refuse point (CopyTo from rec to) NotUp m k (copy_reply point.setup point.before point.by rec from to false false false false _ _ is.begun (both_there point rec from to is) d e refl refl)

pub no_copy : (point : Point) (rec : ℕ) (from to : ProcId) (m : Machine) → Refines point.setup point.before m → Between point rec from to → gone point.before to.0 ≡ false → up point.before from.0 ≡ true → has_synced point.before rec from.0 ≡ false → StepsTo point (CopyTo from rec to) (No NoCopy) m
no_copy point rec from to m k is d e f = refuse point (CopyTo from rec to) NoCopy m k (copy_reply point.setup point.before point.by rec from to false false false true false _ is.begun (both_there point rec from to is) d e f refl)

-- nothing but a full network speaks against the copy
pub record MayCopy (point : Point) (rec : ℕ) (from to : ProcId) : Type 0 where
  pub between : Between point rec from to
  pub still : gone point.before to.0 ≡ false
  pub awake : up point.before from.0 ≡ true
  pub holds : has_synced point.before rec from.0 ≡ true

pub copy_full : (point : Point) (rec : ℕ) (from to : ProcId) → MayCopy point rec from to → is_full point.before 1 ≡ true
    → first_refusal_or (refusals point.setup point.before (CopyTo from rec to)) (answer point.setup point.before point.by (CopyTo from rec to)) ≡ No NetFull
copy_full point rec from to may full = copy_reply point.setup point.before point.by rec from to false false false true true true may.between.begun (both_there point rec from to may.between) may.still may.awake may.holds full

pub copies : (point : Point) (rec : ℕ) (from to : ProcId) (machine : Machine) (room : NetState) (number : ℕ) (net : NetState) → Refines point.setup point.before machine
    → MayCopy point rec from to → reserve_refusal machine.net 1 ≡ None → room ≡ record machine.net { room = room.room } → number ≡ room.sent → net ≡ with_sent (Store rec to) room
    → StepsTo point (CopyTo from rec to) (Sent number) (record machine { net = net })
copies point rec from to machine room number net k may clear reserved n sent_is = rw number_is (record {
  right = sym (copy_reply c h point.by rec from to false false false true true false may.between.begun (both_there point rec from to may.between) may.still may.awake may.holds (room_for c h machine.net 1 k.net clear).0);
  stands = only_traffic point (CopyTo from rec to) (Sent (length (sent point.before))) machine net machine.teams refl (λ q. refl) k
      (net_sent c m h machine.net net (Store rec to ∷ []) refl (room_for c h machine.net 1 k.net clear).1 (λ n. refl) refl refl refl
      (ap (λ (r : NetState). r.in_flight) sent_is ∙ ap (λ (r : NetState). r.in_flight ++ numbered r.sent (Store rec to ∷ [])) reserved)
      (ap (λ (r : NetState). r.sent) sent_is ∙ ap (λ (r : NetState). r.sent + 1) reserved)
      (ap (λ (r : NetState). r.clock) sent_is ∙ ap (λ (r : NetState). r.clock) reserved)
      (ap (λ (r : NetState). r.until) sent_is ∙ ap (λ (r : NetState). r.until) reserved)
      k.net)
      (teams_idle point (CopyTo from rec to) (Sent (length (sent point.before))) machine.teams refl refl refl refl refl k.teams);
})
  where
    c : Setup
    c = point.setup

    h : History
    h = point.before

    m : Step
    m = step_at point (CopyTo from rec to) (Sent (length (sent point.before)))

    number_is : number ≡ length (sent point.before)
    number_is = n ∙ ap (λ (r : NetState). r.sent) reserved ∙ k.net.sent_so_far

-- what the greater of two numbers says of both
pub past_one : (c : Setup) (processes : List Locality) (from to top : ℕ) → processes ≡ c.processes → top ≡ max from to → length processes ≤ top → (no_process c from || no_process c to) ≡ true
past_one c processes from to top e m l = let same : length processes ≡ length c.processes = ap length e in grind (arith, nat_tests)

pub within_both : (c : Setup) (processes : List Locality) (from to top : ℕ) → processes ≡ c.processes → top ≡ max from to → top < length processes → (from < length c.processes) × (to < length c.processes)
within_both c processes from to top e m l =
    let same : length processes ≡ length c.processes = ap length e in
    let first : nat_lt from (length c.processes) ≡ true = grind (arith, nat_tests) in
    let second : nat_lt to (length c.processes) ≡ true = grind (arith, nat_tests) in
    (grind (arith, nat_tests), grind (arith, nat_tests))
