-- laws of teams, records and marks
use Rattle.std.specs.Prelude.{◌≡◌, ◌↔◌, ◌<◌, ◌&&◌, ◌||◌, ◌==◌, ℕ, List, true, false, not, Some, None, option_map, length, slice_get, if◌then◌else◌}
use Rattle.std.specs.List.{list_all}
use Rattle.std.specs.Ordering.{nat_cmp}
use Rattle.std.specs.FinSet as sets
use Rattle.fy_locality.specs.declared.ProcId.{ProcId}
use Rattle.fy_locality.specs.declared.locality.Locality.{Locality}
use Rattle.fy_policy.specs.Tree.{Tree}
use Rattle.fy_team.specs.Members.{are_members}
use Rattle.fy_team.specs.Teams.{Roster, AreMembers, IsFormed, unfit, team_number, payload_in, members_in, policy_in, is_among, swapped, replaced, healed, is_acked, IsMarkedByAll, is_marked, marked_by, with_record}

-- the test of members passes exactly for members
abbrev pub MembersTested : Type 0
MembersTested = (ps : List ProcId) → (are_members ps ≡ true) ↔ AreMembers ps

-- members that aren't unfit satisfy the policy that the team names
abbrev pub FitIsFormed : Type 0
FitIsFormed = (processes : List Locality) (policies : List Tree) (gone : sets.FinSet nat_cmp)
    (members : List ProcId) (policy : ℕ) →
    unfit processes (slice_get policies policy) gone members policy ≡ None →
    IsFormed processes policies (record { members = members; policy = policy })

-- who is a member once `into` replaces `out`
abbrev pub SwappedMembers : Type 0
SwappedMembers = (out into : ProcId) (members : List ProcId) (q : ℕ) →
    is_among (swapped out into members) q
    ≡ (q == into.0 || (not (q == out.0) && is_among members q))

-- a replacement changes the members of one team
abbrev pub ReplacedMembers : Type 0
ReplacedMembers = (roster : Roster) (team t : ℕ) (out into : ProcId) →
    members_in (replaced team out into roster) t
    ≡ (if t == team then option_map (swapped out into) (members_in roster t)
    else members_in roster t)

-- a replacement leaves the policies that teams name
abbrev pub ReplacedPolicies : Type 0
ReplacedPolicies = (roster : Roster) (team t : ℕ) (out into : ProcId) →
    policy_in (replaced team out into roster) t ≡ policy_in roster t

-- a mark acknowledges a record that wasn't exactly if each member of its team has then marked it
abbrev pub MarkAcknowledges : Type 0
MarkAcknowledges = (roster : Roster) (rec p : ℕ) → rec < length roster.records →
    is_acked roster rec ≡ false →
    (is_acked (marked_by rec p roster) rec ≡ true) ↔ IsMarkedByAll (marked_by rec p roster) rec

-- a mark acknowledges no other record
abbrev pub AckedByMark : Type 0
AckedByMark = (roster : Roster) (rec p r team : ℕ) (members : List ProcId) →
    team_number roster rec ≡ Some team → members_in roster team ≡ Some members →
    is_acked (marked_by rec p roster) r
    ≡ (is_acked roster r
    || (r == rec && list_all (λ q. is_marked (marked_by rec p roster) rec q.0) members))

-- a mark leaves acknowledged what was
abbrev pub AckedStays : Type 0
AckedStays = (roster : Roster) (rec p r : ℕ) →
    is_acked roster r ≡ true → is_acked (marked_by rec p roster) r ≡ true

-- a mark leaves the teams
abbrev pub MarkLeavesTeams : Type 0
MarkLeavesTeams = (roster : Roster) (rec p : ℕ) → (marked_by rec p roster).teams ≡ roster.teams

-- a mark adds one process to the marks of one record
abbrev pub MarkIsOneMore : Type 0
MarkIsOneMore = (roster : Roster) (rec p r q : ℕ) → rec < length roster.records →
    is_marked (marked_by rec p roster) r q ≡ ((r == rec && q == p) || is_marked roster r q)

-- a second mark by a process changes nothing if the record is acknowledged
abbrev pub MarkTwice : Type 0
MarkTwice = (roster : Roster) (rec p : ℕ) →
    is_acked roster rec ≡ true → is_marked roster rec p ≡ true → marked_by rec p roster ≡ roster

-- nobody has marked a record that was just begun, and the marks of the others stay
abbrev pub BegunUnmarked : Type 0
BegunUnmarked = (roster : Roster) (team : ℕ) (payload : List ℕ) (r q : ℕ) →
    is_marked (with_record team payload roster) r q ≡ is_marked roster r q

-- a record that was just begun isn't acknowledged, and the others stay acknowledged or not
abbrev pub BegunUnacked : Type 0
BegunUnacked = (roster : Roster) (team : ℕ) (payload : List ℕ) (r : ℕ) →
    is_acked (with_record team payload roster) r ≡ is_acked roster r

-- a heal takes the marks of one process off each record that isn't acknowledged
abbrev pub HealedMarks : Type 0
HealedMarks = (roster : Roster) (p r q : ℕ) →
    is_marked (healed p roster) r q ≡ (is_marked roster r q && (is_acked roster r || not (q == p)))

-- a heal leaves each record acknowledged or not
abbrev pub HealedAcked : Type 0
HealedAcked = (roster : Roster) (p r : ℕ) → is_acked (healed p roster) r ≡ is_acked roster r

-- a heal leaves each record its team
abbrev pub HealedTeams : Type 0
HealedTeams = (roster : Roster) (p r : ℕ) → team_number (healed p roster) r ≡ team_number roster r

-- a heal leaves each record its payload
abbrev pub HealedPayloads : Type 0
HealedPayloads = (roster : Roster) (p r : ℕ) →
    payload_in (healed p roster) r ≡ payload_in roster r
