-- teams, the records that were begun for them, and the marks of each record
use Rattle.std.specs.Prelude.{◌≡◌, ℕ, ◌+◌, ◌<◌, ◌≤◌, Bool, true, false, ◌||◌, ◌==◌, not, nat_le, nat_lt, List, [], ◌∷◌, ◌++◌, length, map, filter, slice_get, slice_set, Option, Some, None, option_map, if◌then◌else◌}
use Rattle.std.specs.List.{All, AllByRecursion, AllPairs, list_all, list_any}
use Rattle.std.specs.Option.{option_map_or}
use Rattle.std.specs.Ordering.{nat_cmp}
use Rattle.std.specs.FinSet as sets
use Rattle.fy_locality.specs.declared.ProcId.{ProcId}
use Rattle.fy_locality.specs.declared.locality.Locality.{Locality}
use Rattle.fy_policy.specs.Tree.{Tree}
use Rattle.fy_policy.specs.Sat.{Sat, satisfies}
use Rattle.fy_team.specs.declared.limits.TheConstants.{MOST_MEMBERS, MOST_TEAMS, MOST_RECORDS, MOST_BYTES}
use Rattle.fy_team.specs.declared.fault.TeamFault.{TeamFault}
use Rattle.fy_team.specs.declared.fault.TeamFault.TheVariants.{TooMany, NoPolicy, NoProcess, Gone, TeamShort, NoTeam, Payload}

-- a team: its members by rising number, and the number of the policy that it names
pub record Team : Type 0 where
  pub members : List ProcId
  pub policy : ℕ

-- a record: the number of its team, what it holds, the processes that have marked it, and whether
-- it is acknowledged
pub record Record : Type 0 where
  pub team : ℕ
  pub payload : List ℕ
  pub marks : sets.FinSet nat_cmp
  pub acked : Bool

-- the teams and the records, each by its number
pub record Roster : Type 0 where
  pub teams : List Team
  pub records : List Record

-- no team and no record
abbrev pub no_teams : Roster
no_teams = record { teams = []; records = [] }

-- ---- members

-- few enough processes, by rising number
pub record AreMembers (ps : List ProcId) : Type 0 where
  pub few : length ps ≤ MOST_MEMBERS
  pub rising : AllPairs (λ p q. p.0 < q.0) ps

-- whether the process with a number is one of these
abbrev pub is_among : List ProcId → ℕ → Bool
is_among ps q = list_any (λ p. p.0 == q) ps

-- the members once `into` replaces `out`: the others stay, those below `into` before it and those
-- above behind it
abbrev pub swapped : ProcId → ProcId → List ProcId → List ProcId
swapped out into members =
    let staying = filter (λ p. not (p.0 == out.0)) members in
    filter (λ p. nat_lt p.0 into.0) staying ++ into ∷ filter (λ p. nat_lt into.0 p.0) staying

-- ---- teams

-- the team names one of the policies, its members are processes, and they satisfy that policy
pub record IsFormed (processes : List Locality) (policies : List Tree) (team : Team) : Type 0 where
  pub need : Tree
  pub named : slice_get policies team.policy ≡ Some need
  pub known : All (λ p. p.0 < length processes) team.members
  pub satisfied : Sat processes need (is_among team.members)

-- every team is formed
abbrev pub AreFormed : List Locality → List Tree → List Team → Type 0
AreFormed processes policies teams = AllByRecursion (IsFormed processes policies) teams

-- why members may not form a team under a policy, in order
abbrev pub unfit :
    List Locality → Option Tree → sets.FinSet nat_cmp → List ProcId → ℕ → Option TeamFault
unfit processes None gone members policy = Some NoPolicy
unfit processes (Some need) gone members policy =
    if list_any (λ p. nat_le (length processes) p.0) members then Some NoProcess
    else (if list_any (λ p. sets.contains gone p.0) members then Some Gone
    else (if satisfies processes need (is_among members) then None else Some (TeamShort policy)))

-- why a team isn't formed, in order
abbrev pub form_refusal :
    Roster → List Locality → List Tree → sets.FinSet nat_cmp → List ProcId → ℕ → Option TeamFault
form_refusal roster processes policies gone members policy =
    if nat_le MOST_TEAMS (length roster.teams) then Some TooMany
    else unfit processes (slice_get policies policy) gone members policy

-- the teams once one more is formed
abbrev pub with_team : List ProcId → ℕ → Roster → Roster
with_team members policy roster =
    record roster { teams = roster.teams ++ record { members = members; policy = policy } ∷ [] }

-- the members of the team with a number
abbrev pub members_in : Roster → ℕ → Option (List ProcId)
members_in roster team = option_map (λ it. it.members) (slice_get roster.teams team)

-- whether there is such a team and process p is a member
abbrev pub is_member : Roster → ℕ → ℕ → Bool
is_member roster team p = option_map_or (λ members. is_among members p) (members_in roster team) false

-- the number of the policy that the team with a number names
abbrev pub policy_in : Roster → ℕ → Option ℕ
policy_in roster team = option_map (λ it. it.policy) (slice_get roster.teams team)

-- a team once `into` replaces `out` in it
abbrev pub with_member : ProcId → ProcId → Team → Team
with_member out into team = record team { members = swapped out into team.members }

-- the teams once `into` replaces `out` in one of them
abbrev pub replaced : ℕ → ProcId → ProcId → Roster → Roster
replaced team out into roster = record roster {
  teams = option_map_or
      (λ it. slice_set roster.teams team (with_member out into it))
      (slice_get roster.teams team)
      roster.teams;
}

-- there is such a team, `out` is a member and `into` a process that isn't, and with `into` for
-- `out` the members satisfy the policy that the team names
pub record MayReplace (processes : List Locality) (policies : List Tree) (roster : Roster)
    (team : ℕ) (out into : ProcId) : Type 0 where
  pub members : List ProcId
  pub policy : ℕ
  pub need : Tree
  pub there : members_in roster team ≡ Some members
  pub names : policy_in roster team ≡ Some policy
  pub named : slice_get policies policy ≡ Some need
  pub member : is_among members out.0 ≡ true
  pub stranger : is_among members into.0 ≡ false
  pub known : into.0 < length processes
  pub satisfied : Sat processes need (is_among (swapped out into members))

-- ---- records

-- the number of a record's team
abbrev pub team_number : Roster → ℕ → Option ℕ
team_number roster rec = option_map (λ it. it.team) (slice_get roster.records rec)

-- the places at which a number stands in a list whose first place is `at`, rising
abbrev pub places_from : ℕ → ℕ → List ℕ → List ℕ
places_from at number [] = []
places_from at number (n ∷ ns) =
    if n == number then at ∷ places_from (at + 1) number ns else places_from (at + 1) number ns

-- the numbers of a team's records, rising
abbrev pub records_of : Roster → ℕ → List ℕ
records_of roster team = places_from 0 team (map (λ it. it.team) roster.records)

-- what a record holds
abbrev pub payload_in : Roster → ℕ → Option (List ℕ)
payload_in roster rec = option_map (λ it. it.payload) (slice_get roster.records rec)

-- a record as it is begun: nobody has marked it, and it isn't acknowledged
abbrev pub unmarked : ℕ → List ℕ → Record
unmarked team payload =
    record { team = team; payload = payload; marks = sets.empty; acked = false }

-- why a record may not be begun, in order
abbrev pub begin_refusal : Roster → ℕ → List ℕ → Option TeamFault
begin_refusal roster team payload =
    if nat_le (length roster.teams) team then Some NoTeam
    else (if nat_lt MOST_BYTES (length payload) then Some Payload
    else (if nat_le MOST_RECORDS (length roster.records) then Some TooMany else None))

-- the records once one more is begun: nobody has marked it
abbrev pub with_record : ℕ → List ℕ → Roster → Roster
with_record team payload roster =
    record roster { records = roster.records ++ unmarked team payload ∷ [] }

-- whether each of these members is among the marks
abbrev pub all_marked : sets.FinSet nat_cmp → List ProcId → Bool
all_marked marks members = list_all (λ p. sets.contains marks p.0) members

-- whether there is such a team and each of its members is among the marks
abbrev pub is_complete : Roster → ℕ → sets.FinSet nat_cmp → Bool
is_complete roster team marks = option_map_or (all_marked marks) (members_in roster team) false

-- a record once process p has marked it: acknowledged if it was, or if each member of its team has
-- then marked it
abbrev pub with_mark : Roster → ℕ → Record → Record
with_mark roster p it =
    let marks = sets.insert it.marks p in
    record it { marks = marks; acked = it.acked || is_complete roster it.team marks }

-- the records once process p has marked one of them
abbrev pub marked_by : ℕ → ℕ → Roster → Roster
marked_by rec p roster = option_map_or
    (λ it. record roster { records = slice_set roster.records rec (with_mark roster p it) })
    (slice_get roster.records rec)
    roster

-- a record once process p is healed: without p's mark, unless it is acknowledged
abbrev pub healed_record : ℕ → Record → Record
healed_record p it = if it.acked then it else record it { marks = sets.remove it.marks p }

-- the records once process p is healed
abbrev pub healed : ℕ → Roster → Roster
healed p roster = record roster { records = map (healed_record p) roster.records }

-- whether there is such a record and process p has marked it
abbrev pub is_marked : Roster → ℕ → ℕ → Bool
is_marked roster rec p =
    option_map_or (λ it. sets.contains it.marks p) (slice_get roster.records rec) false

-- whether there is such a record and it is acknowledged
abbrev pub is_acked : Roster → ℕ → Bool
is_acked roster rec = option_map_or (λ it. it.acked) (slice_get roster.records rec) false

-- there is such a record, of a team that is there, and each member of the team has marked it
pub record IsMarkedByAll (roster : Roster) (rec : ℕ) : Type 0 where
  pub held : Record
  pub there : slice_get roster.records rec ≡ Some held
  pub members : List ProcId
  pub team : members_in roster held.team ≡ Some members
  pub marked : All (λ p. sets.contains held.marks p.0 ≡ true) members

-- ---- what holds of all teams and records

-- members rise, each record is of an existing team and small enough, and nothing is beyond its
-- limit
pub record IsRoster (roster : Roster) : Type 0 where
  pub rising : All (λ team. AreMembers team.members) roster.teams
  pub few_teams : length roster.teams ≤ MOST_TEAMS
  pub named : All (λ it. it.team < length roster.teams) roster.records
  pub small : All (λ it. length it.payload ≤ MOST_BYTES) roster.records
  pub few_records : length roster.records ≤ MOST_RECORDS
