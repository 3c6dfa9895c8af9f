-- what is kept beside teams and records to find some of them, which callers don't see
use Rattle.std.specs.Prelude.{◌≡◌, ℕ, ◌+◌, ◌*◌, ◌<◌, ◌≤◌, ◌&&◌, ◌==◌, true, false, nat_le, nat_lt, List, [], length, map, get_or, slice_get, Some, option_map, if◌then◌else◌}
use Rattle.std.specs.List.{list_any}
use Rattle.std.specs.Ordering.{nat_cmp}
use Rattle.std.specs.FinSet as sets
use Rattle.fy_team.specs.declared.blocks.TheConstants.{BLOCK}
use Rattle.fy_team.specs.Teams.{Team, Record, is_member, records_of, healed_record}
use Rattle.fy_team.specs.Counts.{Counted, TeamsInvariant, roster_of}

-- the set of a block of records: nobody if none was made
abbrev pub set_of_block : List (sets.FinSet nat_cmp) → ℕ → sets.FinSet nat_cmp
set_of_block marked block = get_or marked block sets.empty

-- whoever has marked a record that isn't acknowledged is in the set of its block; each record has a
-- block, and at most one block has none
pub record MarksSeen (records : List Record) (marked : List (sets.FinSet nat_cmp)) : Type 0 where
  pub room : length records ≤ BLOCK * length marked
  pub few : BLOCK * length marked ≤ length records + BLOCK
  pub seen : (block rec p : ℕ) (it : Record) → BLOCK * block ≤ rec → rec < BLOCK * block + BLOCK →
      slice_get records rec ≡ Some it → it.acked ≡ false → sets.contains it.marks p ≡ true →
      sets.contains (set_of_block marked block) p ≡ true

-- the fields stand for a roster with right counts, each team has the
-- numbers of its records, and each block the processes that have marks to lose in it
pub record TeamsKept (teams : List Team) (records : List Counted) (numbers : List (List ℕ))
    (marked : List (sets.FinSet nat_cmp)) : Type 0 where
  pub counts : TeamsInvariant teams records
  pub lists : length teams ≤ length numbers
  pub each : (team : ℕ) → get_or numbers team [] ≡ records_of (roster_of teams records) team
  pub blocks : MarksSeen (map (λ it. it.held) records) marked

-- each team has the set of its members
pub record SetsRight (teams : List Team) (members : List (sets.FinSet nat_cmp)) : Type 0 where
  pub count : length members ≡ length teams
  pub each : (team p : ℕ) → sets.contains (get_or members team sets.empty) p
      ≡ is_member (roster_of teams []) team p

-- what always holds of the fields
pub record TeamsHeld (teams : List Team) (records : List Counted) (numbers : List (List ℕ))
    (marked members : List (sets.FinSet nat_cmp)) : Type 0 where
  pub kept : TeamsKept teams records numbers marked
  pub member_sets : SetsRight teams members

-- the records with these numbers are changed, and no others
abbrev pub ChangedAmong : List ℕ → (Counted → Counted) → List Counted → List Counted → Type 0
ChangedAmong numbers change old new = (rec : ℕ) → slice_get new rec
    ≡ (if list_any (λ n. n == rec) numbers then option_map change (slice_get old rec)
    else slice_get old rec)

-- the records from one number up to another are healed, and no others
abbrev pub HealedWithin : (first end p : ℕ) → List Record → List Record → Type 0
HealedWithin first end p old new = (rec : ℕ) → slice_get new rec
    ≡ (if nat_le first rec && nat_lt rec end then option_map (healed_record p) (slice_get old rec)
    else slice_get old rec)
