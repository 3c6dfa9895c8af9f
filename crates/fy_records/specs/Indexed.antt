-- a history's lines in tables, sorted by key
use Rattle.std.specs.Prelude.{◌≡◌, ℕ, ◌==◌, List, map, filter, filter_map}
use Rattle.std.specs.List.Sorted.{IsPermutation, IsNonDecreasingBy}
use Rattle.fy_history.specs.declared.history.Write.{Write}
use Rattle.fy_records.specs.declared.disks.Found.{Found}
use Rattle.fy_records.specs.declared.index.Index.{Index}
use Rattle.fy_records.specs.declared.seen.Seen.{Seen}
use Rattle.fy_records.specs.Found.{AreGathered}
use Rattle.fy_records.specs.Founds.{found_of, AreExtents}
use Rattle.fy_records.specs.Lines.{Lines, all_reads}

-- the key of a write
abbrev pub write_key : Write → ℕ
write_key write = write.key

-- the key of a read
abbrev pub read_key : Seen → ℕ
read_key seen = seen.read.key

-- the key of what was found
abbrev pub found_key : Found → ℕ
found_key found = found.key

-- a table that is sorted by key, with the column of its keys
pub record IsTable {X : Type 0} (key : X → ℕ) (items : List X) (keys : List ℕ) : Type 0 where
  pub order : IsNonDecreasingBy key items
  pub column : keys ≡ map key items

-- the tables are in order, and the reads of each key stand together by process
pub record IsInOrder (index : Index) : Type 0 where
  pub write_table : IsTable write_key index.writes.items index.write_keys.items
  pub read_table : IsTable read_key index.reads.items index.read_keys.items
  pub found_table : IsTable found_key index.founds.items index.found_keys.items
  pub gathered : (key : ℕ) → AreGathered (filter (λ seen. seen.read.key == key) index.reads.items)

-- they have the lines of the history
pub record IsIndexOf (h : Lines) (index : Index) : Type 0 where
  pub order : IsInOrder index
  pub writes : IsPermutation h.writes index.writes.items
  pub reads : IsPermutation (all_reads h) index.reads.items
  pub founds : IsPermutation (filter_map found_of h.disks) index.founds.items
  pub extents : AreExtents h.disks h.processes index.extents.items
  pub written : index.written ≡ h.written
  pub names : index.names ≡ h.names
