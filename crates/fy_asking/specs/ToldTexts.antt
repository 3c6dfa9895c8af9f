-- how what is told is spelled, as one line
use Rattle.std.specs.Prelude.{◌≡◌, ℕ, List, [], ◌++◌, length, false, not, ◌&&◌, codes, decimal, Option, Some, None, option_map, slice_get}
use Rattle.std.specs.FinSet as sets
use Rattle.fy_locality.specs.Key.{key_text}
use Rattle.fy_locality.specs.Locality.{value_of}
use Rattle.fy_locality.specs.declared.locality.Locality.{Locality}
use Rattle.fy_locality.specs.declared.key.Key.TheVariants.{Process, Machine, Zone, DataHall, DataCenter}
use Rattle.fy_policy.specs.Text.{text}
use Rattle.fy_policy.specs.Tree.{Tree}
use Rattle.fy_kinds.specs.Kinds.{kind_text}
use Rattle.fy_kinds.specs.declared.kind.Kind.{Kind}
use Rattle.fy_kinds.specs.declared.verdict.Verdict.{Verdict as Verdicts}
use Rattle.fy_grants.specs.declared.grant.Grant.{Grant}
use Rattle.fy_grants.specs.declared.grant.Scope.{Scope}
use Rattle.fy_grants.specs.declared.grant.Scope.TheVariants.{All, Where}
use Rattle.fy_acts.specs.declared.reply.Refusal.{Refusal}
use Rattle.fy_acts.specs.declared.reply.Refusal.TheVariants.{NoProcess, NoRecord, NoActor, TeamShort, StillNeeds}
use Rattle.fy_acts.specs.declared.reply.Reply.{Reply}
use Rattle.fy_acts.specs.declared.reply.Reply.TheVariants as reply
use Rattle.fy_spelling.specs.Values.{in_order}
use Rattle.fy_spelling.specs.Pieces.{between_text, deeds_text, refusal_word, rule_text}
use Rattle.fy_cluster.specs.Setup.{Setup}
use Rattle.fy_cluster.specs.declared.role.Role.{Role}
use Rattle.fy_cluster.specs.declared.role.Role.TheVariants.{Fault, Storage, Operator}
use Rattle.fy_cluster.specs.declared.sight.Sight.{Sight}
use Rattle.fy_questions.specs.declared.told.ClusterNow.{ClusterNow}
use Rattle.fy_questions.specs.declared.told.Missing.{Missing}
use Rattle.fy_questions.specs.declared.told.Missing.TheVariants as missing
use Rattle.fy_questions.specs.declared.told.ProcessState.{ProcessState}
use Rattle.fy_questions.specs.declared.told.RecordState.{RecordState}
use Rattle.fy_questions.specs.declared.told.Told.{Told}
use Rattle.fy_questions.specs.declared.told.Told.TheVariants as tell
use Rattle.fy_asking.specs.ToldPieces.{counted_text, listed_text, members_text, optional_name_text, optional_text, quoted_text, truth_text}

-- ---- replies

-- the kind that struck, or null
abbrev pub struck_text : Option Kind → List ℕ
struck_text None = codes ",\"struck\":null}}"
struck_text (Some kind) = codes ",\"struck\":\"" ++ (kind_text kind ++ codes "\"}}")

-- the verdict on a kill
abbrev pub verdict_text : Verdicts → List ℕ
verdict_text verdict =
    codes "{\"verdict\":{\"rule\":" ++ (rule_text verdict.rule ++ struck_text verdict.struck)

-- what stands behind the word of a refusal
abbrev pub refusal_end : Refusal → List ℕ
refusal_end (TeamShort policy) = between_text (codes "\",") policy (codes "]}")
refusal_end (StillNeeds rec) = between_text (codes "\",") rec (codes "]}")
refusal_end _ = codes "\"]}"

-- a refusal
abbrev pub refusal_text : Refusal → List ℕ
refusal_text refusal = codes "{\"no\":[\"" ++ (refusal_word refusal ++ refusal_end refusal)

-- a reply, as it stands in an entry
abbrev pub reply_text : Reply → List ℕ
reply_text (reply.Verdict verdict) = verdict_text verdict
reply_text (reply.Ruled rule) = codes "{\"ruled\":" ++ (rule_text rule ++ codes "}")
reply_text (reply.Formed team) = between_text (codes "{\"formed\":") team (codes "}")
reply_text (reply.Begun rec first) =
    codes "{\"begun\":{\"first\":" ++ (decimal first
    ++ between_text (codes ",\"record\":") rec (codes "}}"))
reply_text reply.Stored = codes "\"stored\""
reply_text (reply.Marked acked) = truth_text (codes "{\"marked\":") acked ++ codes "}"
reply_text (reply.Sent message) = between_text (codes "{\"sent\":") message (codes "}")
reply_text (reply.Synced first count) =
    codes "{\"synced\":{\"count\":" ++ (decimal count
    ++ between_text (codes ",\"first\":") first (codes "}}"))
reply_text (reply.Time now) = between_text (codes "{\"time\":") now (codes "}")
reply_text reply.Done = codes "\"done\""
reply_text (reply.No refusal) = refusal_text refusal

-- ---- processes

-- what isn't there, as the refusal of an act that names it
abbrev pub missing_refusal : Missing → Refusal
missing_refusal missing.Actor = NoActor
missing_refusal missing.Process = NoProcess
missing_refusal missing.Record = NoRecord

-- the hardest kind by which a process could be struck, or null
abbrev pub hardest_text : Option Kind → List ℕ
hardest_text None = codes "null"
hardest_text (Some kind) = codes "\"" ++ (kind_text kind ++ codes "\"")

-- until when a process is clogged, and whether it is destroyed, down and gone
abbrev pub status_text : ProcessState → List ℕ
status_text state =
    optional_text (codes "{\"clogged\":") state.clogged_until
    ++ (truth_text (codes ",\"destroyed\":") state.status.destroyed
    ++ (truth_text (codes ",\"down\":") (not state.status.up && not state.status.gone)
    ++ truth_text (codes ",\"gone\":") state.status.gone))

-- the state of a process
abbrev pub state_text : ProcessState → List ℕ
state_text state =
    status_text state
    ++ (codes ",\"protected\":[" ++ (deeds_text false (in_order state.protected)
    ++ (truth_text (codes "],\"up\":") state.status.up ++ codes "}")))

-- ---- the cluster

-- the scope of a grant
abbrev pub scope_text : Scope → List ℕ
scope_text All = codes "\"all\""
scope_text (Where target) =
    codes "{\"key\":\"" ++ (key_text target.key
    ++ (quoted_text (codes "\",\"value\":") target.value ++ codes "}"))

-- a grant
abbrev pub grant_text : Grant → List ℕ
grant_text grant =
    codes "{\"kinds\":[" ++ (deeds_text false (in_order grant.kinds)
    ++ (codes "],\"scope\":" ++ (scope_text grant.scope ++ codes "}")))

-- the word of a role
abbrev pub role_word : Option Role → List ℕ
role_word (Some Storage) = codes "storage"
role_word (Some Operator) = codes "operator"
role_word (Some Fault) = codes "fault"
role_word None = codes "fault"

-- the grants of an actor, where it has some
abbrev pub grants_text : Option (List Grant) → List ℕ
grants_text None = []
grants_text (Some own) = listed_text grant_text false own

-- an actor: its grants, and its role
abbrev pub actor_text : Setup → Option (List Grant) → ℕ → List ℕ
actor_text setup own actor =
    codes "{\"grants\":[" ++ (grants_text own
    ++ (codes "],\"role\":\"" ++ (role_word (slice_get setup.roles actor) ++ codes "\"}")))

-- a process with all its places
abbrev pub process_text : List Locality → ℕ → List ℕ
process_text processes p =
    optional_name_text (codes "{\"data_hall\":") (value_of processes DataHall p)
    ++ (optional_name_text (codes ",\"dcid\":") (value_of processes DataCenter p)
    ++ (optional_name_text (codes ",\"machineid\":") (value_of processes Machine p)
    ++ (optional_name_text (codes ",\"processid\":") (value_of processes Process p)
    ++ (optional_name_text (codes ",\"zoneid\":") (value_of processes Zone p)
    ++ codes "}"))))

-- the actors, how many entries the journal has, and how many it may have
abbrev pub cluster_front_text : ClusterNow → List ℕ
cluster_front_text told =
    codes "{\"cluster\":{\"actor\":[" ++ (counted_text (λ actor. actor_text told.config.now
    (option_map (λ own. own.now) (slice_get told.grants.items actor)) actor)
    (length told.config.now.roles)
    ++ (codes "],\"entries\":" ++ (decimal told.entries
    ++ (codes ",\"journal_limit\":" ++ decimal told.config.now.limit))))

-- the policies, by their texts
abbrev pub policies_text : List Tree → List ℕ
policies_text policies = listed_text (λ policy. quoted_text [] (text policy)) false policies

-- what the cluster consists of
abbrev pub cluster_text : ClusterNow → List ℕ
cluster_text told =
    cluster_front_text told
    ++ (codes ",\"policies\":[" ++ (policies_text told.config.now.policies
    ++ (codes "],\"process\":[" ++ (counted_text (process_text told.config.now.processes)
    (length told.config.now.processes) ++ codes "]}}"))))

-- ---- all that is told

-- what has become of a record, in a cluster of so many processes
abbrev pub record_text : ℕ → RecordState → List ℕ
record_text count state =
    truth_text (codes "{\"record\":{\"acked\":") state.acked
    ++ (optional_text (codes ",\"keeper\":") (option_map (λ p. p.0) state.keeper)
    ++ (codes ",\"synced\":[" ++ (members_text (sets.contains state.synced) count
    ++ between_text (codes "],\"team\":") state.team (codes "}}"))))

-- the time, and what there is to do next
abbrev pub sight_text : Sight → List ℕ
sight_text sight =
    optional_text (codes "{\"sight\":{\"deliverable\":") sight.deliverable
    ++ (codes ",\"now\":" ++ (decimal sight.now
    ++ (optional_text (codes ",\"sleeping\":") (option_map (λ p. p.0) sight.sleeping)
    ++ (optional_text (codes ",\"unsynced\":") (option_map (λ p. p.0) sight.unsynced)
    ++ codes "}}"))))

-- the time, and the states of all processes
abbrev pub states_text : ℕ → List ProcessState → List ℕ
states_text now states =
    codes "{\"state\":{\"now\":" ++ (decimal now
    ++ (codes ",\"processes\":[" ++ (listed_text state_text false states ++ codes "]}}")))

-- the time, and the state of one process
abbrev pub one_state_text : ℕ → ProcessState → List ℕ
one_state_text now state =
    codes "{\"state\":{\"now\":" ++ (decimal now
    ++ (codes ",\"process\":" ++ (state_text state ++ codes "}}")))

-- the record that a process needs, or null
abbrev pub needed_text : Option ℕ → List ℕ
needed_text None = codes "{\"needed\":null}"
needed_text (Some rec) = between_text (codes "{\"needed\":") rec (codes "}")

-- the text stands for what is told. What a cluster bears stands there as `bears --json` writes it,
-- and no definition says how
abbrev pub Spells : Setup → Told → List ℕ → Type 0
Spells setup (tell.No missing) out = out ≡ refusal_text (missing_refusal missing)
Spells setup (tell.Judged reply) out = out ≡ reply_text reply
Spells setup (tell.Killable kinds) out =
    out ≡ codes "{\"killable\":[" ++ (listed_text hardest_text false kinds.items ++ codes "]}")
Spells setup (tell.States now states) out = out ≡ states_text now states.items
Spells setup (tell.State now state) out = out ≡ one_state_text now state
Spells setup (tell.Cluster told) out = out ≡ cluster_text told
Spells setup (tell.Targets set) out =
    out ≡ codes "{\"targets\":[" ++ (members_text (sets.contains set) (length setup.processes)
    ++ codes "]}")
Spells setup (tell.Record state) out = out ≡ record_text (length setup.processes) state
Spells setup (tell.Needed rec) out = out ≡ needed_text rec
Spells setup (tell.Sight sight) out = out ≡ sight_text sight
Spells setup (tell.Bears bearing) out =
    (found : List ℕ) × (out ≡ codes "{\"bears\":" ++ (found ++ codes "}"))

-- how the line of what is told begins, and no entry's does
abbrev pub told_head : List ℕ
told_head = codes "{\"told\":"

-- the text is the line of what is told, without its line feed
abbrev pub IsToldLine : Setup → Told → List ℕ → Type 0
IsToldLine setup told line =
    (out : List ℕ) × Spells setup told out × (line ≡ told_head ++ (out ++ codes "}"))
