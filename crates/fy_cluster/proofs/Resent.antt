-- a record is sent once more
use Rattle.std.proofs.Common.{◌≡◌, ℕ, ◌+◌, ◌<◌, List, [], ◌∷◌, ◌++◌, Bool, true, false, not, Option, Some, None, option_map, refl, sym, ◌∙◌, ap, ap₂, nat_lt, nat_le, length, arith, slice_get, if◌then◌else◌, append-nil}
use Rattle.std.proofs.lemmas.Bool.Decides.{nat_tests}
use Rattle.std.proofs.lemmas.List.Elements.{All-contains}
use Rattle.std.specs.Option.{option_map_or}
use Rattle.fy_locality.specs.declared.ProcId.{ProcId}
use Rattle.fy_net.specs.declared.message.Body.TheVariants.{Store}
use Rattle.fy_net.specs.Net.{NetState, reserve_refusal, with_sent}
use Rattle.fy_team.specs.Teams.{Team, Record, Roster, is_among, IsFormed, members_in}
use Rattle.fy_acts.specs.declared.act.Act.TheVariants.{Resend}
use Rattle.fy_acts.specs.declared.reply.Reply.TheVariants.{Sent, No}
use Rattle.fy_acts.specs.declared.reply.Refusal.TheVariants.{NoRecord, NotMember, Acked, NetFull}
use Rattle.fy_cluster.specs.declared.machine.Machine.{Machine}
use Rattle.fy_cluster.specs.Setup.{Setup}
use Rattle.fy_cluster.specs.History.{History, Step, BegunRecord, sent, teams, records, members_for, acked}
use Rattle.fy_cluster.specs.Replies.{first_refusal_or, refusals, answer, is_full}
use Rattle.fy_cluster.specs.Standing.{Refines, Point, StepsTo, StepsToOrOom, step_at, RefinesTeams, begun_of, IsReachable}
use Rattle.fy_cluster.proofs.Still.{teams_idle, only_traffic, or_nothing}
use Rattle.fy_cluster.proofs.Refusals.{refuse}
use Rattle.fy_cluster.proofs.Results.{some_is_same, some_not_none}
use Rattle.fy_cluster.proofs.Room.{net_sent, room_for}
use Rattle.fy_cluster.proofs.Formed.{past_policies, within_policies}
use Rattle.fy_cluster.proofs.Records.{Tested, slice_get-each, slice_get-some}
use Rattle.fy_cluster.proofs.Delivered.{sound_of, record_is}
use Rattle.fy_cluster.proofs.Keepers.{among_is}
use Rattle.fy_acts.specs.declared.act.Act.TheVariants.{Begin}
use Rattle.fy_acts.specs.declared.reply.Reply.TheVariants.{Begun}
use Rattle.fy_acts.specs.declared.reply.Refusal.TheVariants.{NoTeam, Payload, TooMany}
use Rattle.fy_team.specs.declared.fault.TeamFault.{TeamFault}
use Rattle.fy_team.specs.declared.fault.TeamFault.TheVariants.{NoTeam as NoTeamThere, Payload as LongPayload, TooMany as TooManyThere}
use Rattle.fy_team.specs.Teams.{begin_refusal, with_record}
use Rattle.fy_team.specs.Standing.{BegunUnmarked, BegunUnacked}
use Rattle.fy_cluster.specs.History.{members_of, stores_of}
use Rattle.fy_cluster.specs.Standing.{reply_to_team_fault, numbered, Sends}
use Rattle.fy_cluster.proofs.Sending.{map-push}
use Rattle.std.specs.List.{All}
use Rattle.std.proofs.Common.{subst}
use Rattle.std.proofs.lemmas.List.{length-map}

resend_reply : (c : Setup) (h : History) (by rec : ℕ) (p : ProcId) (a b d e : Bool) → nat_le (length (records h)) rec ≡ a → is_among (members_for h rec) p.0 ≡ b → acked h rec ≡ d → is_full h 1 ≡ e
    → first_refusal_or (refusals c h (Resend rec p)) (answer c h by (Resend rec p)) ≡ first_refusal_or ((a, NoRecord) ∷ (not b, NotMember) ∷ (d, Acked) ∷ (e, NetFull) ∷ []) (Sent (length (sent h)))
unfolding refusals answer
resend_reply c h by rec p a b d e ea eb ed ee = rw (ea, eb, ed, ee) refl

-- the record is there, and the members are those of its team
pub record IsOf (h : History) (rec : ℕ) (members : List ProcId) : Type 0 where
  pub known : nat_le (length (records h)) rec ≡ false
  pub team : members_for h rec ≡ members

pub no_record : (point : Point) (rec : ℕ) (p : ProcId) (m : Machine) → Refines point.setup point.before m → None ≡ option_map (λ (it : Record). it.team) (slice_get m.teams.records rec) → StepsTo point (Resend rec p) (No NoRecord) m
no_record point rec p m k none = at (slice_get m.teams.records rec) refl none
  where
    at : (o : Option Record) → slice_get m.teams.records rec ≡ o → None ≡ option_map (λ (it : Record). it.team) o → StepsTo point (Resend rec p) (No NoRecord) m
    at None s none = refuse point (Resend rec p) NoRecord m k (resend_reply point.setup point.before point.by rec p true _ _ _ (past_policies (records point.before) rec (record_is point.before m.teams k.teams rec ∙ ap (option_map begun_of) s)) refl refl refl)
    at (Some it) s none = absurd (some_not_none it.team (sym none))

-- what the teams say of a number is what the history says
pub team_there : (h : History) (roster : Roster) → RefinesTeams h roster → (team : ℕ) (members : List ProcId) → Some members ≡ members_in roster team → (t : Team) × (slice_get (teams h) team ≡ Some t) × (t.members ≡ members)
team_there h roster k team members e = at (slice_get roster.teams team) refl e
  where
    at : (o : Option Team) → slice_get roster.teams team ≡ o → Some members ≡ option_map (λ (it : Team). it.members) o → (t : Team) × (slice_get (teams h) team ≡ Some t) × (t.members ≡ members)
    at None s e = absurd (some_not_none members e)
    at (Some t) s e = (t, ap (λ ts. slice_get ts team) (sym k.teams) ∙ s, sym (some_is_same members t.members e))

pub is_of : (h : History) (roster : Roster) → RefinesTeams h roster → (rec team : ℕ) (members : List ProcId) → Some team ≡ option_map (λ (it : Record). it.team) (slice_get roster.records rec) → Some members ≡ members_in roster team → IsOf h rec members
is_of h roster k rec team members named e = at (slice_get roster.records rec) refl named
  where
    at : (o : Option Record) → slice_get roster.records rec ≡ o → Some team ≡ option_map (λ (it : Record). it.team) o → IsOf h rec members
    at None s named = absurd (some_not_none team named)
    at (Some it) s named =
        let same : team ≡ it.team = some_is_same team it.team named in
        let begun : slice_get (records h) rec ≡ Some (begun_of it) = record_is h roster k rec ∙ ap (option_map begun_of) s in
        let t = team_there h roster k team members e in
        record {
          known = within_policies (records h) rec (begun_of it) begun;
          team = ap (λ (o : Option BegunRecord). option_map_or (λ b. members_of h b.team) o []) begun ∙ ap (members_of h) (sym same) ∙ ap (λ (o : Option Team). option_map_or (λ t. t.members) o []) t.1 ∙ t.2;
        }

-- members are processes
pub members_known : Tested → (point : Point) (m : Machine) → Refines point.setup point.before m → IsReachable point.setup point.before → (team : ℕ) (members : List ProcId) → Some members ≡ members_in m.teams team → All (λ p. p.0 < length point.setup.processes) members
members_known tested point m k l team members e =
    let t = team_there point.before m.teams k.teams team members e in
    let is = slice_get-each (IsFormed point.setup.processes point.setup.policies) (teams point.before) team t.0 (sound_of tested point.setup point.before l).formed t.1 in
    subst (All (λ p. p.0 < length point.setup.processes)) t.2 is.known

pub member_known : Tested → (point : Point) (m : Machine) → Refines point.setup point.before m → IsReachable point.setup point.before → (team : ℕ) (members : List ProcId) (p : ℕ) → Some members ≡ members_in m.teams team → is_among members p ≡ true → p < length m.net.until
member_known tested point m k l team members p e i =
    let a = among_is members p i in
    let within : a.1.0 < length point.setup.processes = All-contains (λ p. p.0 < length point.setup.processes) members a.1 (members_known tested point m k l team members e) (a.0, a.2, a.3) in
    let same : a.1.0 ≡ p = a.4 in
    let count = k.net.count in
    omega arith

pub team_missing : Tested → (point : Point) (m : Machine) → Refines point.setup point.before m → IsReachable point.setup point.before → (rec team : ℕ) → Some team ≡ option_map (λ (it : Record). it.team) (slice_get m.teams.records rec) → None ≡ members_in m.teams team → ⊥
team_missing tested point m k l rec team named none = at (slice_get m.teams.records rec) refl named
  where
    at : (o : Option Record) → slice_get m.teams.records rec ≡ o → Some team ≡ option_map (λ (it : Record). it.team) o → ⊥
    at None s named = some_not_none team named
    at (Some it) s named =
        let same : team ≡ it.team = some_is_same team it.team named in
        let begun : slice_get (records point.before) rec ≡ Some (begun_of it) = record_is point.before m.teams k.teams rec ∙ ap (option_map begun_of) s in
        let t = slice_get-each (λ b. (t : Team) × (slice_get (teams point.before) b.team ≡ Some t)) (records point.before) rec (begun_of it) (sound_of tested point.setup point.before l).joined begun in
        some_not_none t.0.members (sym (none ∙ ap (option_map (λ (it : Team). it.members)) (ap (λ ts. slice_get ts team) k.teams.teams ∙ ap (slice_get (teams point.before)) same ∙ t.1)))

pub not_member : (point : Point) (rec : ℕ) (p : ProcId) (members : List ProcId) (m : Machine) → Refines point.setup point.before m → IsOf point.before rec members → is_among members p.0 ≡ false → StepsTo point (Resend rec p) (No NotMember) m
not_member point rec p members m k is e = refuse point (Resend rec p) NotMember m k (resend_reply point.setup point.before point.by rec p false false _ _ is.known (ap (λ ps. is_among ps p.0) is.team ∙ e) refl refl)

pub is_acked_already : (point : Point) (rec : ℕ) (p : ProcId) (members : List ProcId) (m : Machine) → Refines point.setup point.before m → IsOf point.before rec members → is_among members p.0 ≡ true → acked point.before rec ≡ true → StepsTo point (Resend rec p) (No Acked) m
is_acked_already point rec p members m k is e a = refuse point (Resend rec p) Acked m k (resend_reply point.setup point.before point.by rec p false true true _ is.known (ap (λ ps. is_among ps p.0) is.team ∙ e) a refl)

pub resend_full : (point : Point) (rec : ℕ) (p : ProcId) (members : List ProcId) → IsOf point.before rec members → is_among members p.0 ≡ true → acked point.before rec ≡ false → is_full point.before 1 ≡ true
    → first_refusal_or (refusals point.setup point.before (Resend rec p)) (answer point.setup point.before point.by (Resend rec p)) ≡ No NetFull
resend_full point rec p members is e a full = resend_reply point.setup point.before point.by rec p false true false true is.known (ap (λ ps. is_among ps p.0) is.team ∙ e) a full

pub resends : (point : Point) (rec : ℕ) (p : ProcId) (members : List ProcId) (machine : Machine) (room : NetState) (number : ℕ) (net : NetState) → Refines point.setup point.before machine
    → IsOf point.before rec members → is_among members p.0 ≡ true → acked point.before rec ≡ false → reserve_refusal machine.net 1 ≡ None → room ≡ record machine.net { room = room.room } → number ≡ room.sent → net ≡ with_sent (Store rec p) room
    → StepsTo point (Resend rec p) (Sent number) (record machine { net = net })
resends point rec p members machine room number net k is e a clear reserved n sent_is = rw number_is (record {
  right = sym (resend_reply c h point.by rec p false true false false is.known (ap (λ ps. is_among ps p.0) is.team ∙ e) a (room_for c h machine.net 1 k.net clear).0);
  stands = only_traffic point (Resend rec p) (Sent (length (sent point.before))) machine net machine.teams refl (λ q. refl) k
      (net_sent c m h machine.net net (Store rec p ∷ []) refl (room_for c h machine.net 1 k.net clear).1 (λ n. refl) refl refl refl
      (ap (λ (r : NetState). r.in_flight) sent_is ∙ ap (λ (r : NetState). r.in_flight ++ numbered r.sent (Store rec p ∷ [])) reserved)
      (ap (λ (r : NetState). r.sent) sent_is ∙ ap (λ (r : NetState). r.sent + 1) reserved)
      (ap (λ (r : NetState). r.clock) sent_is ∙ ap (λ (r : NetState). r.clock) reserved)
      (ap (λ (r : NetState). r.until) sent_is ∙ ap (λ (r : NetState). r.until) reserved)
      k.net)
      (teams_idle point (Resend rec p) (Sent (length (sent point.before))) machine.teams refl refl refl refl refl k.teams);
})
  where
    c : Setup
    c = point.setup

    h : History
    h = point.before

    m : Step
    m = step_at point (Resend rec p) (Sent (length (sent point.before)))

    number_is : number ≡ length (sent point.before)
    number_is = n ∙ ap (λ (r : NetState). r.sent) reserved ∙ k.net.sent_so_far

-- ---- a record begins

begin_reply : (c : Setup) (h : History) (by team : ℕ) (payload : List ℕ) (a b d e : Bool) → nat_le (length (teams h)) team ≡ a → nat_lt 256 (length payload) ≡ b → nat_le 65536 (length (records h)) ≡ d → is_full h (length (members_of h team)) ≡ e
    → first_refusal_or (refusals c h (Begin team payload)) (answer c h by (Begin team payload)) ≡ first_refusal_or ((a, NoTeam) ∷ (b, Payload) ∷ (d, TooMany) ∷ (e, NetFull) ∷ []) (Begun (length (records h)) (length (sent h)))
unfolding refusals answer
begin_reply c h by team payload a b d e ea eb ed ee = rw (ea, eb, ed, ee) refl

pub record_count : (h : History) (roster : Roster) → RefinesTeams h roster → length roster.records ≡ length (records h)
record_count h roster k = sym (length-map roster.records begun_of) ∙ ap length k.records

-- no reason of the teams' speaks against the record
pub record Fits (h : History) (team : ℕ) (payload : List ℕ) : Type 0 where
  pub there : nat_le (length (teams h)) team ≡ false
  pub small : nat_lt 256 (length payload) ≡ false
  pub few : nat_le 65536 (length (records h)) ≡ false

pub fits : (h : History) (roster : Roster) (team : ℕ) (payload : List ℕ) → RefinesTeams h roster → begin_refusal roster team payload ≡ None → Fits h team payload
fits h roster team payload k e = at (nat_le (length roster.teams) team) (nat_lt 256 (length payload)) (nat_le 65536 (length roster.records)) refl refl refl e
  where
    at : (a b d : Bool) → nat_le (length roster.teams) team ≡ a → nat_lt 256 (length payload) ≡ b → nat_le 65536 (length roster.records) ≡ d → (if a then Some NoTeamThere else (if b then Some LongPayload else (if d then Some TooManyThere else None))) ≡ None → Fits h team payload
    at true b d ea eb ed e = absurd (some_not_none NoTeamThere e)
    at false true d ea eb ed e = absurd (some_not_none LongPayload e)
    at false false true ea eb ed e = absurd (some_not_none TooManyThere e)
    at false false false ea eb ed e = record { there = ap (λ ts. nat_le (length ts) team) (sym k.teams) ∙ ea; small = eb; few = ap (nat_le 65536) (sym (record_count h roster k)) ∙ ed }

pub unfit_begin : (point : Point) (team : ℕ) (payload : List ℕ) (m : Machine) (fault : TeamFault) → Refines point.setup point.before m → begin_refusal m.teams team payload ≡ Some fault → StepsToOrOom point (Begin team payload) (reply_to_team_fault fault) m
unfit_begin point team payload m fault k e = at (nat_le (length m.teams.teams) team) (nat_lt 256 (length payload)) (nat_le 65536 (length m.teams.records)) refl refl refl e
  where
    c : Setup
    c = point.setup

    h : History
    h = point.before

    at : (a b d : Bool) → nat_le (length m.teams.teams) team ≡ a → nat_lt 256 (length payload) ≡ b → nat_le 65536 (length m.teams.records) ≡ d → (if a then Some NoTeamThere else (if b then Some LongPayload else (if d then Some TooManyThere else None))) ≡ Some fault
        → StepsToOrOom point (Begin team payload) (reply_to_team_fault fault) m
    at true b d ea eb ed e = let same : fault ≡ NoTeamThere = cc in rw same (refuse point (Begin team payload) NoTeam m k (begin_reply c h point.by team payload true _ _ _ (ap (λ ts. nat_le (length ts) team) (sym k.teams.teams) ∙ ea) refl refl refl))
    at false true d ea eb ed e = let same : fault ≡ LongPayload = cc in rw same (refuse point (Begin team payload) Payload m k (begin_reply c h point.by team payload false true _ _ (ap (λ ts. nat_le (length ts) team) (sym k.teams.teams) ∙ ea) eb refl refl))
    at false false true ea eb ed e = let same : fault ≡ TooManyThere = cc in rw same (refuse point (Begin team payload) TooMany m k (begin_reply c h point.by team payload false false true _ (ap (λ ts. nat_le (length ts) team) (sym k.teams.teams) ∙ ea) eb (ap (nat_le 65536) (sym (record_count h m.teams k.teams)) ∙ ed) refl))
    at false false false ea eb ed e = absurd (cc)

pub no_members : (point : Point) (team : ℕ) (payload : List ℕ) (m : Machine) → Refines point.setup point.before m → Fits point.before team payload → None ≡ members_in m.teams team → ⊥
no_members point team payload m k f none =
    let low : team < length (teams point.before) = let t = f.there in grind (arith, nat_tests) in
    let t = slice_get-some (teams point.before) team low in
    some_not_none t.0.members (sym (none ∙ ap (option_map (λ (it : Team). it.members)) (ap (λ ts. slice_get ts team) k.teams.teams ∙ t.1)))

pub members_are : (point : Point) (team : ℕ) (members : List ProcId) (m : Machine) → Refines point.setup point.before m → Some members ≡ members_in m.teams team → members_of point.before team ≡ members
members_are point team members m k e = let t = team_there point.before m.teams k.teams team members e in ap (λ (o : Option Team). option_map_or (λ t. t.members) o []) t.1 ∙ t.2

pub begin_full : (point : Point) (team : ℕ) (payload : List ℕ) (members : List ProcId) (n : ℕ) → Fits point.before team payload → members_of point.before team ≡ members → n ≡ length members → is_full point.before n ≡ true
    → first_refusal_or (refusals point.setup point.before (Begin team payload)) (answer point.setup point.before point.by (Begin team payload)) ≡ No NetFull
begin_full point team payload members n f is count full = begin_reply point.setup point.before point.by team payload false false false true f.there f.small f.few (ap (λ ps. is_full point.before (length ps)) is ∙ ap (is_full point.before) (sym count) ∙ full)

pub begins_now : BegunUnmarked → BegunUnacked → (point : Point) (team : ℕ) (payload : List ℕ) (members : List ProcId) (machine : Machine) (room net : NetState) (roster : Roster) (rec first n : ℕ) → Refines point.setup point.before machine
    → Fits point.before team payload → members_of point.before team ≡ members → n ≡ length members → reserve_refusal machine.net n ≡ None → room ≡ record machine.net { room = room.room }
    → rec ≡ length machine.teams.records → roster ≡ with_record team payload machine.teams → first ≡ room.sent
    → Sends room (stores_of rec members) net
    → StepsTo point (Begin team payload) (Begun rec first) (record machine { net = net; teams = roster })
begins_now unmarked unacked point team payload members machine room net roster rec first n k f is count clear reserved rec_is begun first_is sends = rw (record_is_next, number_is) (record {
  right = sym (begin_reply c h point.by team payload false false false false f.there f.small f.few (ap (λ ps. is_full h (length ps)) is ∙ ap (is_full h) (sym count) ∙ (room_for c h machine.net n k.net clear).0));
  stands = only_traffic point (Begin team payload) (Begun (length (records point.before)) (length (sent point.before))) machine net roster refl (λ q. refl) k
      (net_sent c m h machine.net net (stores_of rec members) (ap₂ stores_of (sym record_is_next) is) (let few = (room_for c h machine.net n k.net clear).1 in let s = stores in omega arith) (λ j. refl) refl refl refl
      sent_now.in_flight
      sent_now.count
      sent_now.clock
      sent_now.until
      k.net)
      (rw begun (record {
        teams = k.teams.teams ∙ sym (append-nil (teams h));
        records = map-push begun_of machine.teams.records _ ∙ ap (λ rs. rs ++ record { team = team; payload = payload } ∷ []) k.teams.records;
        marks = λ r q. unmarked machine.teams team payload r q ∙ k.teams.marks r q;
        acked = λ r. unacked machine.teams team payload r ∙ k.teams.acked r ∙ sym (or_nothing (acked h r));
      }));
})
  where
    c : Setup
    c = point.setup

    h : History
    h = point.before

    m : Step
    m = step_at point (Begin team payload) (Begun (length (records point.before)) (length (sent point.before)))

    record_is_next : rec ≡ length (records point.before)
    record_is_next = rec_is ∙ record_count point.before machine.teams k.teams

    number_is : first ≡ length (sent point.before)
    number_is = first_is ∙ ap (λ (r : NetState). r.sent) reserved ∙ k.net.sent_so_far

    sent_now : Sends (record machine.net { room = room.room }) (stores_of rec members) net
    sent_now = subst (λ r. Sends r (stores_of rec members) net) reserved sends

    stores : length (stores_of rec members) ≡ length members
    stores = length-map members (λ (p : ProcId). Store rec p)

-- the same members, by another count of the same processes
pub there_all : (n k : ℕ) (ps qs : List ProcId) → n ≡ k → ps ≡ qs → All (λ p. p.0 < n) ps → All (λ p. p.0 < k) qs
there_all n k ps qs e f a = subst (λ j. All (λ p. p.0 < j) qs) e (subst (All (λ p. p.0 < n)) f a)
