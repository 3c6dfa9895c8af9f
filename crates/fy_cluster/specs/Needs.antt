-- which acknowledged records a process still needs, as the machine's parts say it
use Rattle.std.specs.Prelude.{ℕ, Bool, false, List, ◌&&◌, not, ◌==◌, length, find, min, Option, Some, None}
use Rattle.std.specs.List.{range_with_len}
use Rattle.std.specs.Option.{option_map_or}
use Rattle.fy_disk.specs.Disks.{disk_of, has_synced}
use Rattle.fy_team.specs.Teams.{is_among, is_acked, team_number, members_in}
use Rattle.fy_cluster.specs.declared.machine.Machine.{Machine}

-- the process has the record synced
abbrev pub has_on : Machine → (rec p : ℕ) → Bool
has_on m rec p = has_synced (disk_of m.disks p) rec

-- the record is of the team
abbrev pub is_of_team_on : Machine → (team rec : ℕ) → Bool
is_of_team_on m team rec = option_map_or (λ n. n == team) (team_number m.teams rec) false

-- the process is a member of the team
abbrev pub is_in_team_on : Machine → (p team : ℕ) → Bool
is_in_team_on m p team =
    option_map_or (λ members. is_among members p) (members_in m.teams team) false

-- the process is a member of the record's team
abbrev pub is_member_on : Machine → (p rec : ℕ) → Bool
is_member_on m p rec = option_map_or (is_in_team_on m p) (team_number m.teams rec) false

-- the least acknowledged record that passes a test and that the process hasn't synced
abbrev pub needed_on : Machine → (p : ℕ) → (test : ℕ → Bool) → Option ℕ
needed_on m p test =
    find (λ rec. is_acked m.teams rec && test rec && not (has_on m rec p))
    (range_with_len 0 (length m.teams.records))

-- of these records, the first acknowledged one that the process hasn't synced
abbrev pub first_needed_on : Machine → (p : ℕ) → List ℕ → Option ℕ
first_needed_on m p records =
    find (λ rec. is_acked m.teams rec && not (has_on m rec p)) records

-- the lesser of two records, or the one that is there
abbrev pub earlier : Option ℕ → Option ℕ → Option ℕ
earlier None other = other
earlier (Some one) None = Some one
earlier (Some one) (Some other) = Some (min one other)
