-- for each record the set of its holders: the processes that have it synced
use Rattle.std.specs.Prelude.{◌≡◌, ℕ, ◌<◌, ◌≤◌, ◌&&◌, ◌||◌, not, List, length, ◌==◌, get_or}
use Rattle.std.specs.List.{All}
use Rattle.std.specs.Ordering.{nat_cmp}
use Rattle.std.specs.FinSet as sets
use Rattle.fy_locality.specs.declared.TheConstants.{MOST_PROCESSES}
use Rattle.fy_disk.specs.declared.item.Item.{Item}
use Rattle.fy_disk.specs.Disk.{Stored}
use Rattle.fy_disk.specs.Disks.{disk_of, has_record, has_synced, has_unsynced}

-- the holders of a record: none if no set was made for it
abbrev pub holders_of : List (sets.FinSet nat_cmp) → ℕ → sets.FinSet nat_cmp
holders_of holders rec = get_or holders rec sets.empty

-- a process is put into the set of each item's record, and nothing else changes
pub record Gains (p : ℕ) (items : List Item) (old new : List (sets.FinSet nat_cmp)) : Type 0 where
  pub count : length new ≡ length old
  pub each : (rec q : ℕ) → sets.contains (holders_of new rec) q
      ≡ (sets.contains (holders_of old rec) q || q == p && has_record items rec)

-- a process is taken out of the set of each item's record, and nothing else changes
pub record Loses (p : ℕ) (items : List Item) (old new : List (sets.FinSet nat_cmp)) : Type 0 where
  pub count : length new ≡ length old
  pub each : (rec q : ℕ) → sets.contains (holders_of new rec) q
      ≡ (sets.contains (holders_of old rec) q && not (q == p && has_record items rec))

-- the sets agree with the disks: a record's set has exactly the processes that have it synced,
-- `with_unsynced` exactly those with an unsynced item, and each unsynced item's record has a set
pub record DisksInvariant (disks : List Stored) (holders : List (sets.FinSet nat_cmp))
    (with_unsynced : sets.FinSet nat_cmp) : Type 0 where
  pub few : length disks ≤ MOST_PROCESSES
  pub synced : (rec p : ℕ) →
      sets.contains (holders_of holders rec) p ≡ has_synced (disk_of disks p) rec
  pub room : (p : ℕ) → All (λ item. item.rec < length holders) (disk_of disks p).unsynced
  pub unsynced : (p : ℕ) → sets.contains with_unsynced p ≡ has_unsynced (disk_of disks p)
