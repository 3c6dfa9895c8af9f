-- what was found on the disks of processes
use Rattle.std.specs.Prelude.{ℕ, suc, zero, Bool, true, false, not, ◌&&◌, ◌||◌, ◌==◌, List}
use Rattle.std.specs.List.{list_any}
use Rattle.fy_history.specs.declared.history.DiskLine.{DiskLine}
use Rattle.fy_history.specs.declared.history.Trace.{Trace}
use Rattle.fy_history.specs.declared.history.Trace.TheVariants as trace

-- the folder has a record of this key and value
abbrev pub has : (key value : ℕ) → Trace → Bool
has key value (trace.Has k v) = (k == key) && (v == value)
has key value _ = false

-- something of the key stands in the files
abbrev pub stands : (key : ℕ) → Trace → Bool
stands key (trace.Stands k) = k == key
stands key _ = false

-- all records of the folder were told
abbrev pub is_all : Trace → Bool
is_all trace.All = true
is_all _ = false

-- of no key but those told does anything stand in the files
abbrev pub is_nothing_else : Trace → Bool
is_nothing_else trace.NothingElse = true
is_nothing_else _ = false

-- a line of a process's disk says so
abbrev pub says : List DiskLine → (process : ℕ) → (Trace → Bool) → Bool
says disks process test = list_any (λ line. (line.node == process) && test line.trace) disks

-- some disk has the record
abbrev pub is_on_disk : List DiskLine → (key value : ℕ) → Bool
is_on_disk disks key value = list_any (λ line. has key value line.trace) disks

-- a disk was looked through for a key: all of its records were told, or nothing of that key stands
-- in its files
abbrev pub is_looked_through : List DiskLine → (key process : ℕ) → Bool
is_looked_through disks key process =
    says disks process is_all
    || (says disks process is_nothing_else && not (says disks process (stands key)))

-- each of the first numbers passes a test
abbrev pub all_below : ℕ → (ℕ → Bool) → Bool
all_below zero test = true
all_below (suc n) test = all_below n test && test n

-- no disk has the record, and the disk of each process was looked through for it
abbrev pub is_on_no_disk : List DiskLine → (processes key value : ℕ) → Bool
is_on_no_disk disks processes key value =
    not (is_on_disk disks key value) && all_below processes (is_looked_through disks key)
