-- what a storage actor does at its turn
use Rattle.std.specs.Prelude.{ℕ, ◌+◌, ◌-◌, ◌/◌, ◌%◌, ◌==◌, ◌&&◌, Bool, false, nat_lt, nat_le, max, List, map, filter, length, Option, Some, None, unwrap_or, option_and_then, slice_get, if◌then◌else◌}
use Rattle.std.specs.List.{range_with_len}
use Rattle.std.specs.Option.{option_map_or}
use Rattle.fy_locality.specs.declared.ProcId.{ProcId}
use Rattle.fy_locality.specs.declared.locality.Locality.{Locality}
use Rattle.fy_acts.specs.declared.act.Act.{Act}
use Rattle.fy_acts.specs.declared.act.Act.TheVariants as act
use Rattle.fy_cluster.specs.declared.sight.Sight.{Sight}
use Rattle.fy_actors.specs.Drives.{next_move}
use Rattle.fy_cluster.specs.declared.status.Status.{Status}
use Rattle.fy_cluster.specs.History.{left, keeper}
use Rattle.fy_cluster.specs.Sights.{status_of, needed_of}
use Rattle.fy_cluster.specs.Execution.{Execution, history_of}
use Rattle.fy_players.specs.declared.picks.TheConstants.{NOBODY, TICKS_AT_ONCE}
use Rattle.fy_players.specs.declared.draws.Words.{Words}
use Rattle.fy_players.specs.declared.storage.TheConstants.{MOST_BEHIND}
use Rattle.fy_players.specs.declared.storage.Choice.{Choice}
use Rattle.fy_players.specs.declared.storage.Choice.TheVariants as choice
use Rattle.fy_players.specs.declared.knowledge.Known.{Known}
use Rattle.fy_players.specs.declared.knowledge.Latest.{Latest}
use Rattle.fy_players.specs.declared.knowledge.Mending.{Mending}
use Rattle.fy_players.specs.declared.knowledge.Note.{Note}
use Rattle.fy_players.specs.declared.knowledge.Note.TheVariants.{Plain, Forms, Begins, Mends}
use Rattle.fy_players.specs.Picks.{pick, place_of, process_of, bytes_of, ticks_of}
use Rattle.fy_players.specs.Knowledge.{Knowledge}

-- what it chooses to do: of 32 words one forms a team, two begin a record, and so on
abbrev pub choice_of : ℕ → Choice
choice_of word =
    let k = word % 32 in
    if nat_lt k 1 then choice.Form
    else (if nat_lt k 3 then choice.Begin
    else (if nat_lt k 17 then choice.Move
    else (if nat_lt k 18 then choice.DeliverLate
    else (if nat_lt k 19 then choice.Lose
    else (if nat_lt k 20 then choice.Resend
    else (if nat_lt k 23 then choice.Sync
    else (if nat_lt k 24 then choice.Start
    else (if nat_lt k 29 then choice.Tend
    else (if nat_lt k 30 then choice.Replace
    else (if nat_lt k 31 then choice.Copy else choice.Wait))))))))))

-- ---- teams and members

-- a process that isn't there
abbrev pub nobody : ProcId
nobody = record { 0 = NOBODY }

-- every process, by number
abbrev pub all_processes : List Locality → List ProcId
all_processes processes = map (λ p. record { 0 = p }) (range_with_len 0 (length processes))

-- whether a process is a whole number of steps behind the first
abbrev pub is_on_step : (first step p : ℕ) → Bool
is_on_step first step p = nat_le first p && ((p - first) % step == 0)

-- whether a process is left, and on a step
abbrev pub is_taken : Execution → (first step : ℕ) → ProcId → Bool
is_taken x first step p = is_on_step first step p.0 && left x.setup (history_of x) p.0

-- every step-th process from the first on, of those that are left
abbrev pub spread : Execution → (first step : ℕ) → List ProcId
spread x first step = filter (is_taken x first step) (all_processes x.setup.processes)

-- how far apart the members of a new team stand: some one to seven of all
abbrev pub step_of : Execution → Words → ℕ
step_of x words = max 1 (length x.setup.processes / (1 + words.first % 7))

-- the number of a known team
abbrev pub team_at : List Known → ℕ → ℕ
team_at teams place = option_map_or (λ known. known.team) (slice_get teams place) NOBODY

-- one of these members, or a process that isn't there
abbrev pub member_of : List ProcId → ℕ → ProcId
member_of members word =
    unwrap_or (option_and_then (slice_get members) (place_of word (length members))) nobody

-- a member that a known team had
abbrev pub member_at : List Known → ℕ → ℕ → ProcId
member_at teams place word =
    option_map_or (λ known. member_of known.members word) (slice_get teams place) nobody

-- ---- acts

-- the first that is possible: deliver a message, sync a process, start one, let ticks pass
abbrev pub move_by : Sight → Act
move_by sight = next_move sight TICKS_AT_ONCE

-- a team of processes that stand evenly apart
abbrev pub forms : Execution → Words → Act × Note
forms x words =
    let step = step_of x words in
    let members = spread x (words.second % step) step in
    (act.Form members (pick words.third (length x.setup.policies)), Forms members)

-- whether too many messages were sent behind the first that can be delivered
abbrev pub is_behind : Knowledge → Sight → Bool
is_behind known sight =
    option_map_or (λ message. nat_lt MOST_BEHIND (known.newest - message)) sight.deliverable false

-- a record of a known team
abbrev pub begins_at : Knowledge → List ℕ → Option ℕ → Act × Note
begins_at known payload None = (act.Begin NOBODY payload, Plain)
begins_at known payload (Some place) =
    (act.Begin (team_at known.teams place) payload, Begins place)

-- a record is begun, or data is moved where too much is on its way
abbrev pub begins : Sight → Knowledge → Words → Act × Note
begins sight known words =
    if is_behind known sight then (move_by sight, Plain)
    else begins_at known (bytes_of words.second) (place_of words.first (length known.teams))

-- one of the last 64 messages
abbrev pub late : Knowledge → Words → ℕ
late known words = known.newest - words.first % 64

-- one of the last records is sent again, to a member of the last one's team
abbrev pub resends : Knowledge → Words → Option Latest → Act
resends known words None = act.Resend NOBODY nobody
resends known words (Some latest) =
    act.Resend (latest.rec - words.first % 4) (member_at known.teams latest.place words.second)

-- the process that is shown, or once in four any
abbrev pub mostly : Option ProcId → Words → List Locality → ProcId
mostly shown words processes =
    if words.first % 4 == 0 then process_of words.second processes
    else unwrap_or shown (process_of words.second processes)

-- an acknowledged record is copied from who keeps it
abbrev pub hands_over : Execution → ℕ → ProcId → Act
hands_over x rec to =
    option_map_or (λ from. act.CopyTo from rec to) (keeper x.setup (history_of x) rec) (act.Heal to)

-- a destroyed process is given the next record that it needs, and is healed once it needs none
abbrev pub refills : Execution → ProcId → Act
refills x process =
    option_map_or (λ rec. hands_over x rec process) (needed_of x.setup (history_of x) process.0)
    (act.Heal process)

-- a replacement that begins: a member of a known team, and any process in its place
abbrev pub new_mending : Execution → Knowledge → Words → Option ℕ → Mending
new_mending x known words place = record {
  team = option_map_or (team_at known.teams) place NOBODY;
  out = option_map_or (λ at. member_at known.teams at words.second) place nobody;
  into = process_of words.third x.setup.processes;
  lacks = None;
}

-- the replacement that isn't done, or a new one
abbrev pub mending_of : Execution → Knowledge → Words → Mending
mending_of x known words =
    let new = new_mending x known words (place_of words.first (length known.teams)) in
    if words.fifth % 16 == 0 then new else unwrap_or known.mending new

-- the heir is given what it lacks, and else takes the member's place
abbrev pub mends : Execution → Mending → Act
mends x mending =
    option_map_or (λ rec. hands_over x rec mending.into) mending.lacks
    (act.Replace mending.team mending.out mending.into)

-- the next act of a replacement, and how far it has come
abbrev pub replaces : Execution → Knowledge → Words → Act × Note
replaces x known words =
    let mending = mending_of x known words in (mends x mending, Mends mending)

-- the care of a member: once in eight it is healed, whatever its state; who is gone is replaced,
-- who is down is started, who is destroyed is filled and healed, and who is well is synced
abbrev pub tends_by : Execution → Knowledge → Words → ProcId → Status → Act × Note
tends_by x known words process status =
    if words.fourth % 8 == 0 then (act.Heal process, Plain)
    else (if status.gone then replaces x known words
    else (if status.up then
    (if status.destroyed then (refills x process, Plain) else (act.Sync process, Plain))
    else (act.Up process, Plain)))

-- the care of a member by its state
abbrev pub tends_member : Execution → Sight → Knowledge → Words → ProcId → Act × Note
tends_member x sight known words process =
    option_map_or (tends_by x known words process)
    (status_of x.setup (history_of x) process.0) (move_by sight, Plain)

-- the care of a member of a known team
abbrev pub tends : Execution → Sight → Knowledge → Words → Act × Note
tends x sight known words =
    option_map_or (λ place. tends_member x sight known words
    (member_at known.teams place words.second))
    (place_of words.first (length known.teams)) (move_by sight, Plain)

-- one of the last records is copied from any process to any
abbrev pub copies : Execution → Knowledge → Words → Act
copies x known words =
    act.CopyTo (process_of words.second x.setup.processes)
    (option_map_or (λ latest. latest.rec - words.first % 16) known.latest NOBODY)
    (process_of words.third x.setup.processes)

-- ---- turns

-- the act of a turn and what is to be remembered of it, by the choice
abbrev pub stores_by : Execution → Sight → Knowledge → Words → Choice → Act × Note
stores_by x sight known words choice.Form = forms x words
stores_by x sight known words choice.Begin = begins sight known words
stores_by x sight known words choice.Move = (move_by sight, Plain)
stores_by x sight known words choice.DeliverLate = (act.Deliver (late known words), Plain)
stores_by x sight known words choice.Lose = (act.Lose (late known words), Plain)
stores_by x sight known words choice.Resend = (resends known words known.latest, Plain)
stores_by x sight known words choice.Sync =
    (act.Sync (mostly sight.unsynced words x.setup.processes), Plain)
stores_by x sight known words choice.Start =
    (act.Up (mostly sight.sleeping words x.setup.processes), Plain)
stores_by x sight known words choice.Tend = tends x sight known words
stores_by x sight known words choice.Replace = replaces x known words
stores_by x sight known words choice.Copy = (copies x known words, Plain)
stores_by x sight known words choice.Wait = (act.Tick (ticks_of words.first), Plain)

-- the act of a turn and what is to be remembered of it
abbrev pub stores : Execution → Sight → Knowledge → Words → Act × Note
stores x sight known words = stores_by x sight known words (choice_of words.choice)
