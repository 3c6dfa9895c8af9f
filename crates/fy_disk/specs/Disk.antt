-- what a disk holds, and what survives a crash
use Rattle.std.specs.Prelude.{ℕ, ◌+◌, Bool, ◌&&◌, ◌==◌, nat_lt, List, [], ◌∷◌, ◌++◌, if◌then◌else◌}
use Rattle.std.specs.Int.{bit_at}
use Rattle.fy_disk.specs.declared.item.Item.{Item}

-- a disk: the items that survive every crash, and those that a crash may lose, in order of writing
pub record Stored : Type 0 where
  pub synced : List Item
  pub unsynced : List Item

-- a disk with nothing on it
abbrev pub empty_disk : Stored
empty_disk = record { synced = []; unsynced = [] }

-- the disk with one item more, behind all others and not synced
abbrev pub written : Item → Stored → Stored
written item disk = record disk { unsynced = disk.unsynced ++ item ∷ [] }

-- the disk once every item is synced
abbrev pub all_synced : Stored → Stored
all_synced disk = record { synced = disk.synced ++ disk.unsynced; unsynced = [] }

-- whether the unsynced item at a place survives a crash: its place is below 64, and the bit of tear
-- at that place is 1
abbrev pub outlives : ℕ → ℕ → Bool
outlives tear place = nat_lt place 64 && bit_at tear place == 1

-- the items whose places pass a test, the first item being at the place given
abbrev pub filter_by_place : (ℕ → Bool) → ℕ → List Item → List Item
filter_by_place test place [] = []
filter_by_place test place (item ∷ items) =
    if test place then item ∷ filter_by_place test (place + 1) items else filter_by_place test (place + 1) items

-- the unsynced items that survive a crash
abbrev pub survivors : ℕ → List Item → List Item
survivors tear items = filter_by_place (outlives tear) 0 items

-- the disk once its process has crashed
abbrev pub crashed : ℕ → Stored → Stored
crashed tear disk = record { synced = disk.synced ++ survivors tear disk.unsynced; unsynced = [] }
