-- a trail as its fields keep it
use Rattle.std.specs.Prelude.{◌≤◌, List, map}
use Rattle.std.specs.Vec.{vec_capacity}
use Rattle.fy_acts.specs.declared.entry.Entry.{Entry}
use Rattle.fy_cluster.specs.declared.config.TheConstants.{MOST_JOURNAL_ENTRIES}
use Rattle.fy_cluster.specs.declared.trail.Trail.TheInside.{Inside}

-- the entries that the snapshots are of
abbrev pub seen_entries : Inside → List Entry
seen_entries trail = map (λ snapshot. snapshot.value) trail.entries.items

-- there is room for as many entries as a journal may have
abbrev pub HasRoom : Inside → Type 0
HasRoom trail = MOST_JOURNAL_ENTRIES ≤ vec_capacity trail.entries
