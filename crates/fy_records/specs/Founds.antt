-- what was found of keys on disks
use Rattle.std.specs.Prelude.{◌≡◌, ◌<◌, ℕ, Bool, false, not, ◌&&◌, ◌||◌, ◌==◌, List, length, slice_get, Option, Some, None, is_none}
use Rattle.std.specs.List.{list_any}
use Rattle.fy_history.specs.declared.history.DiskLine.{DiskLine}
use Rattle.fy_history.specs.declared.history.Trace.{Trace}
use Rattle.fy_history.specs.declared.history.Trace.TheVariants as trace
use Rattle.fy_records.specs.declared.disks.Extent.{Extent}
use Rattle.fy_records.specs.declared.disks.Found.{Found}
use Rattle.fy_records.specs.Traces.{says, is_all, is_nothing_else}

-- what a trace says of a key
abbrev pub found_in : (node : ℕ) → Trace → Option Found
found_in node (trace.Has key value) = Some record { key = key; value = Some value; node = node }
found_in node (trace.Stands key) = Some record { key = key; value = None; node = node }
found_in node trace.All = None
found_in node trace.Some = None
found_in node trace.NothingElse = None

-- what a line says of a key
abbrev pub found_of : DiskLine → Option Found
found_of line = found_in line.node line.trace

-- what was found is a record of this value
abbrev pub has_value : (value : ℕ) → Found → Bool
has_value value found = of found.value
  where
    of : Option ℕ → Bool
    of None = false
    of (Some v) = v == value

-- a record of this value is among what was found of its key
abbrev pub is_found : List Found → (value : ℕ) → Bool
is_found founds value = list_any (has_value value) founds

-- an extent with one line more
abbrev pub extent_with : Extent → Trace → Extent
extent_with extent trace =
    record { whole = extent.whole || is_all trace; plain = extent.plain || is_nothing_else trace }

-- a disk of this extent was looked through for the key of which so much was found
abbrev pub is_clear : Option Extent → List Found → (node : ℕ) → Bool
is_clear None founds node = false
is_clear (Some extent) founds node =
    extent.whole
    || (extent.plain
    && not (list_any (λ found. (found.node == node) && is_none found.value) founds))

-- the disk of a process was
abbrev pub is_clear_of : List Extent → List Found → (node : ℕ) → Bool
is_clear_of extents founds node = is_clear (slice_get extents node) founds node

-- how far the disk of each process was looked through, by these lines
pub record AreExtents (lines : List DiskLine) (processes : ℕ) (extents : List Extent) : Type 0 where
  pub each : length extents ≡ processes
  pub so_far : (node : ℕ) → node < processes → slice_get extents node
      ≡ Some record { whole = says lines node is_all; plain = says lines node is_nothing_else }
