use Rattle.std.proofs.Common.{◌≡◌, ◌+◌, ◌≤◌, length, take, vec_len}
use Rattle.std.specs.Vec.{vec_capacity}
use Rattle.fy_acts.proofs.journal.Journal.try_copy.Given as goal

-- the entries so far, with room for all and for as many more
abbrev pub invariant-loop-entry : goal.invariant-loop-entry
invariant-loop-entry l = record {
  entries : l.entries.items ≡ take l.entry-index l.entry-items;
  count : vec_len l.entries ≡ l.entry-index;
  room : length l.self.entries + l.self.room ≤ vec_capacity l.entries;
}
