-- records in memory: each with the number of members of its team that haven't marked it
use Rattle.std.specs.Prelude.{◌≡◌, ◌&&◌, ◌==◌, ℕ, true, false, not, Some, List, length, map, filter, slice_get, if◌then◌else◌}
use Rattle.std.specs.List.{All}
use Rattle.std.specs.Ordering.{nat_cmp}
use Rattle.std.specs.FinSet as sets
use Rattle.fy_locality.specs.declared.ProcId.{ProcId}
use Rattle.fy_team.specs.Teams.{Team, Record, Roster, IsRoster, AreMembers, is_among, swapped}

-- a record, and the count of its team's members that have no mark
pub record Counted : Type 0 where
  pub held : Record
  pub missing : ℕ

-- how many of these members have no mark
abbrev pub missing_among : sets.FinSet nat_cmp → List ProcId → ℕ
missing_among marks members = length (filter (λ p. not (sets.contains marks p.0)) members)

-- the count is right for these members, unless the record is acknowledged
pub record CountsMissing (members : List ProcId) (it : Counted) : Type 0 where
  pub right : it.held.acked ≡ false → it.missing ≡ missing_among it.held.marks members

-- the count is right for the members before `into` came for `out`
pub record WasMissing (out into : ProcId) (members : List ProcId) (it : Counted) : Type 0 where
  pub was : List ProcId
  pub valid : AreMembers was
  pub member : is_among was out.0 ≡ true
  pub stranger : is_among was into.0 ≡ false
  pub now : members ≡ swapped out into was
  pub counted : CountsMissing was it

-- the count is right for the members of the record's team
abbrev pub CountsMissingIn : List Team → Counted → Type 0
CountsMissingIn teams it =
    (team : Team) → slice_get teams it.held.team ≡ Some team → CountsMissing team.members it

-- the teams and the records without their counts
abbrev pub roster_of : List Team → List Counted → Roster
roster_of teams records = record { teams = teams; records = map (λ it. it.held) records }

-- what always holds of the fields: they stand for a roster, and each count is right
pub record TeamsInvariant (teams : List Team) (records : List Counted) : Type 0 where
  pub roster : IsRoster (roster_of teams records)
  pub counted : All (CountsMissingIn teams) records

-- a record counted anew for these members, if it is of the team with a number and isn't
-- acknowledged
abbrev pub recounted : ℕ → List ProcId → Counted → Counted
recounted team members it =
    if it.held.team == team && not it.held.acked
    then record it { missing = missing_among it.held.marks members } else it
