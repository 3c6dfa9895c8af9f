-- the disks of all processes: each process's disk, and what it has
use Rattle.std.specs.Prelude.{ℕ, Bool, List, length, nat_lt, ◌==◌, slice_index_or}
use Rattle.std.specs.List.{list_any}
use Rattle.fy_disk.specs.declared.item.Item.{Item}
use Rattle.fy_disk.specs.Disk.{Stored, empty_disk}

-- the disk of a process, or an empty one if there is no such process
abbrev pub disk_of : List Stored → ℕ → Stored
disk_of disks p = slice_index_or disks p empty_disk

-- whether one of the items is of the record
abbrev pub has_record : List Item → ℕ → Bool
has_record items rec = list_any (λ item. item.rec == rec) items

-- whether the disk has the record synced
abbrev pub has_synced : Stored → ℕ → Bool
has_synced disk rec = has_record disk.synced rec

-- whether the disk has an item that isn't synced
abbrev pub has_unsynced : Stored → Bool
has_unsynced disk = nat_lt 0 (length disk.unsynced)
