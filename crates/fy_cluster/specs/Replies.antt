-- the reply to each act, and which journals are legal
use Rattle.std.specs.Prelude.{◌≡◌, ℕ, ◌+◌, ◌≤◌, ◌<◌, Bool, true, false, ◌&&◌, ◌||◌, not, List, [], ◌∷◌, length, find, nat_lt, nat_le, ◌==◌, slice_get, sum_by, Option, Some, is_some, unwrap_or}
use Rattle.std.specs.List.{list_any, range_with_len}
use Rattle.std.specs.Option.{option_map_or}
use Rattle.fy_grants.specs.declared.book.TheConstants.{MOST_GRANTS}
use Rattle.fy_policy.specs.Sat.{satisfies}
use Rattle.fy_kinds.specs.Kinds.{Clogging}
use Rattle.fy_team.specs.Teams.{is_among, swapped}
use Rattle.fy_team.specs.declared.limits.TheConstants.{MOST_TEAMS, MOST_RECORDS, MOST_BYTES}
use Rattle.fy_net.specs.declared.limits.TheConstants.{MOST_IN_FLIGHT, LAST_TICK}
use Rattle.fy_decide.specs.Verdicts.{targets, bar, verdict}
use Rattle.fy_net.specs.declared.message.Body.{Body}
use Rattle.fy_net.specs.declared.message.Body.TheVariants.{Synced as SyncedOf}
use Rattle.fy_net.specs.Net.{process_of}
use Rattle.fy_acts.specs.declared.act.Act.{Act}
use Rattle.fy_acts.specs.declared.act.Act.TheVariants.{Kill, Clog, Unclog, Form, Begin, Deliver, Lose, Resend, Sync, Up, Tick, Give, Take, Protect, Unprotect, CopyTo, Replace, Heal}
use Rattle.fy_acts.specs.declared.reply.Refusal.{Refusal}
use Rattle.fy_acts.specs.declared.reply.Refusal.TheVariants.{Stranger, WrongRole, TooMany, NoPolicy, NoProcess, Gone, TeamShort, NoTeam, Payload, NetFull, NoMessage, Clogged, NotUp, NoRecord, NotMember, Acked, IsUp, ClockEnd, NoActor, Full, NoSuch, NoCopy, IsMember, NotDestroyed, StillNeeds}
use Rattle.fy_acts.specs.declared.reply.Reply.{Reply}
use Rattle.fy_acts.specs.declared.reply.Reply.TheVariants.{Verdict, Ruled, Formed, Begun, Stored, Done, Marked, Sent, Synced, Time, No}
use Rattle.fy_acts.specs.declared.entry.Entry.{Entry}
use Rattle.fy_cluster.specs.declared.role.Role.{Role}
use Rattle.fy_cluster.specs.declared.role.Role.TheVariants.{Fault, Storage, Operator}
use Rattle.fy_cluster.specs.Setup.{Setup}
use Rattle.fy_cluster.specs.History.{History, Step, ProcessSet, some_is, destroyed, gone, left, up, teams, records, members_of, members_for, unsynced, sent, in_flight, in_flight_count, now, clogged, acked, has_synced, ack_of, stores_at, step_of, history}
use Rattle.fy_cluster.specs.Rules.{grants, situation}

-- the first refusal that holds, or else the answer
abbrev pub first_refusal_or : List (Bool × Refusal) → Reply → Reply
first_refusal_or [] answer = answer
first_refusal_or ((true, refusal) ∷ rest) answer = No refusal
first_refusal_or ((false, refusal) ∷ rest) answer = first_refusal_or rest answer

-- the role of who moves data, starts processes and lets time pass
abbrev pub is_storage : Role → Bool
is_storage Fault = false
is_storage Storage = true
is_storage Operator = false

-- the role of who gives and takes grants and protections
abbrev pub is_operator : Role → Bool
is_operator Fault = false
is_operator Storage = false
is_operator Operator = true

-- whether the role may make the act
abbrev pub may : Role → Act → Bool
may role (Kill order) = true
may role (Clog target n) = true
may role (Unclog target) = true
may role (Form members policy) = is_storage role
may role (Begin team payload) = is_storage role
may role (Deliver n) = is_storage role
may role (Lose n) = is_storage role
may role (Resend rec process) = is_storage role
may role (Sync process) = is_storage role
may role (Up process) = is_storage role
may role (Tick n) = is_storage role
may role (Give grant) = is_operator role
may role (Take actor index) = is_operator role
may role (Protect process kinds) = is_operator role
may role (Unprotect process kinds) = is_operator role
may role (CopyTo from rec to) = is_storage role
may role (Replace team out into) = is_storage role
may role (Heal process) = is_storage role

-- whether the message asks a process to store that isn't up
abbrev pub is_down_store : History → Body → Bool
is_down_store h body = some_is (λ p. not (up h p)) (stores_at body)

-- a step that delivers the process's Synced of the record
abbrev pub ack_delivered : (r p : ℕ) → Step
ack_delivered r p = record {
  entry = record { at = 0; by = 0; act = Deliver 0; reply = Marked true };
  targets = λ q. false;
  message = Some (SyncedOf r (record { 0 = p }));
  sends = [];
  removes = λ n. false;
}

-- the record is acknowledged once the process's Synced of it is delivered
abbrev pub is_acked_with : History → ℕ → ℕ → Bool
is_acked_with h r p = acked (ack_delivered r p ∷ h) r

-- a Store is stored, a Synced is a mark
abbrev pub on_delivery : History → Body → Reply
on_delivery h body = option_map_or (λ w. Marked (is_acked_with h w.0 w.1)) (ack_of body) Stored

-- the number is that of a policy, which the set satisfies
abbrev pub meets : Setup → ℕ → ProcessSet → Bool
meets c policy s =
    option_map_or (λ P. satisfies c.processes P s) (slice_get c.policies policy) false

-- how many grants all actors have
abbrev pub grant_count : Setup → History → ℕ
grant_count c h = sum_by (λ a. length (grants c h a)) (range_with_len 0 (length c.roles))

-- so many messages more would be more than may be in flight
abbrev pub is_full : History → ℕ → Bool
is_full h more = nat_lt MOST_IN_FLIGHT (in_flight_count h + more)

-- there is no process with the number
abbrev pub no_process : Setup → ℕ → Bool
no_process c p = nat_le (length c.processes) p

-- there is no actor with the number
abbrev pub no_actor : Setup → ℕ → Bool
no_actor c a = nat_le (length c.roles) a

-- the actor is there, and its role may make the act
abbrev pub may_make : Setup → ℕ → Act → Bool
may_make c by act = some_is (λ role. may role act) (slice_get c.roles by)

-- the policy of the team with a number
abbrev pub policy_of : History → ℕ → ℕ
policy_of h team = option_map_or (λ t. t.policy) (slice_get (teams h) team) 0

-- whether the record is of the team
abbrev pub is_of_team : History → (team r : ℕ) → Bool
is_of_team h team r = some_is (λ b. b.team == team) (slice_get (records h) r)

-- the least acknowledged record that passes a test and that the process hasn't synced
abbrev pub needed_by : History → (p : ℕ) → (test : ℕ → Bool) → Option ℕ
needed_by h p test =
    find (λ r. acked h r && test r && not (has_synced h r p))
    (range_with_len 0 (length (records h)))

-- who still needs a record is refused with the first
abbrev pub still_needs : Option ℕ → Bool × Refusal
still_needs need = (is_some need, StillNeeds (unwrap_or need 0))

-- why an act that its actor may make is refused: each reason, in order
unfoldable pub refusals : Setup → History → Act → List (Bool × Refusal)
refusals c h (Kill order) = []
refusals c h (Clog target n) = []
refusals c h (Unclog target) = []
refusals c h (Form members policy) =
    (nat_le MOST_TEAMS (length (teams h)), TooMany)
    ∷ (nat_le (length c.policies) policy, NoPolicy)
    ∷ (list_any (λ p. no_process c p.0) members, NoProcess)
    ∷ (list_any (λ p. gone h p.0) members, Gone)
    ∷ (not (meets c policy (is_among members)), TeamShort policy)
    ∷ []
refusals c h (Begin team payload) =
    (nat_le (length (teams h)) team, NoTeam)
    ∷ (nat_lt MOST_BYTES (length payload), Payload)
    ∷ (nat_le MOST_RECORDS (length (records h)), TooMany)
    ∷ (is_full h (length (members_of h team)), NetFull)
    ∷ []
refusals c h (Deliver n) =
    (not (in_flight h n), NoMessage)
    ∷ (some_is (λ body. clogged h (process_of body)) (slice_get (sent h) n), Clogged)
    ∷ (some_is (is_down_store h) (slice_get (sent h) n), NotUp)
    ∷ []
refusals c h (Lose n) = (not (in_flight h n), NoMessage) ∷ []
refusals c h (Resend rec process) =
    (nat_le (length (records h)) rec, NoRecord)
    ∷ (not (is_among (members_for h rec) process.0), NotMember)
    ∷ (acked h rec, Acked)
    ∷ (is_full h 1, NetFull)
    ∷ []
refusals c h (Sync process) =
    (no_process c process.0, NoProcess)
    ∷ (not (up h process.0), NotUp)
    ∷ (is_full h (length (unsynced h process.0)), NetFull)
    ∷ []
refusals c h (Up process) =
    (no_process c process.0, NoProcess)
    ∷ (gone h process.0, Gone)
    ∷ (up h process.0, IsUp)
    ∷ []
refusals c h (Tick n) = (nat_lt LAST_TICK (now h + n), ClockEnd) ∷ []
refusals c h (Give grant) =
    (no_actor c grant.actor, NoActor)
    ∷ (nat_le MOST_GRANTS (grant_count c h), Full)
    ∷ []
refusals c h (Take actor index) =
    (no_actor c actor, NoActor)
    ∷ (nat_le (length (grants c h actor)) index, NoSuch)
    ∷ []
refusals c h (Protect process kinds) = (no_process c process.0, NoProcess) ∷ []
refusals c h (Unprotect process kinds) = (no_process c process.0, NoProcess) ∷ []
refusals c h (CopyTo from rec to) =
    (nat_le (length (records h)) rec, NoRecord)
    ∷ (no_process c from.0 || no_process c to.0, NoProcess)
    ∷ (gone h to.0, Gone)
    ∷ (not (up h from.0), NotUp)
    ∷ (not (has_synced h rec from.0), NoCopy)
    ∷ (is_full h 1, NetFull)
    ∷ []
refusals c h (Replace team out into) =
    (nat_le (length (teams h)) team, NoTeam)
    ∷ (no_process c into.0, NoProcess)
    ∷ (not (is_among (members_of h team) out.0), NotMember)
    ∷ (is_among (members_of h team) into.0, IsMember)
    ∷ (gone h into.0, Gone)
    ∷ (
      not (meets c (policy_of h team) (is_among (swapped out into (members_of h team)))),
      TeamShort (policy_of h team),
    )
    ∷ still_needs (needed_by h into.0 (is_of_team h team))
    ∷ []
refusals c h (Heal process) =
    (no_process c process.0, NoProcess)
    ∷ (gone h process.0, Gone)
    ∷ (not (destroyed h process.0), NotDestroyed)
    ∷ (not (up h process.0), NotUp)
    ∷ still_needs (needed_by h process.0 (λ r. is_among (members_for h r) process.0))
    ∷ []

-- the reply to an act that isn't refused
unfoldable pub answer : Setup → History → ℕ → Act → Reply
answer c h by (Kill order) = Verdict (verdict (situation c h by) order)
answer c h by (Clog target n) =
    Ruled (bar (situation c h by) Clogging (targets c.processes (left c h) target))
answer c h by (Unclog target) =
    Ruled (bar (situation c h by) Clogging (targets c.processes (left c h) target))
answer c h by (Form members policy) = Formed (length (teams h))
answer c h by (Begin team payload) = Begun (length (records h)) (length (sent h))
answer c h by (Deliver n) = option_map_or (on_delivery h) (slice_get (sent h) n) Done
answer c h by (Lose n) = Done
answer c h by (Resend rec process) = Sent (length (sent h))
answer c h by (Sync process) = Synced (length (sent h)) (length (unsynced h process.0))
answer c h by (Up process) = Done
answer c h by (Tick n) = Time (now h + n)
answer c h by (Give grant) = Done
answer c h by (Take actor index) = Done
answer c h by (Protect process kinds) = Done
answer c h by (Unprotect process kinds) = Done
answer c h by (CopyTo from rec to) = Sent (length (sent h))
answer c h by (Replace team out into) = Done
answer c h by (Heal process) = Done

-- every reason to refuse the act, in order
unfoldable pub reasons : Setup → History → ℕ → Act → List (Bool × Refusal)
reasons c h by act =
    (no_actor c by, Stranger) ∷ (not (may_make c by act), WrongRole) ∷ refusals c h act

-- the first refusal that holds, or else the answer
unfoldable pub reply : Setup → History → ℕ → Act → Reply
reply c h by act = first_refusal_or (reasons c h by act) (answer c h by act)

-- the entry may come next
pub record IsNext (c : Setup) (h : History) (e : Entry) : Type 0 where
  pub place : e.at ≡ length h
  pub right : e.reply ≡ reply c h e.by e.act

-- the entry may come next in the journal: there is room for it, it has the next place, and its
-- reply is the one that the rules give
pub record MayFollow (c : Setup) (journal : List Entry) (e : Entry) : Type 0 where
  pub room : length journal < c.limit
  pub place : e.at ≡ length journal
  pub right : e.reply ≡ reply c (history c journal) e.by e.act

-- the rest of a journal is legal after this history
abbrev pub LegalAfter : Setup → History → List Entry → Type 0
LegalAfter c h [] = Unit {0}
LegalAfter c h (e ∷ later) = IsNext c h e × LegalAfter c (step_of c h e ∷ h) later

-- each entry has its place and its reply, and there are no more than the journal may have; under
-- either version of the rules (Versions says what the first asks besides)
abbrev pub Legal : Setup → List Entry → Type 0
Legal c journal = (length journal ≤ c.limit) × LegalAfter c [] journal
