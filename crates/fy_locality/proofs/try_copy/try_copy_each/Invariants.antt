use Rattle.std.proofs.Common.{◌≡◌, ◌≤◌, length, take, vec_len}
use Rattle.std.specs.Vec.{vec_capacity}
use Rattle.fy_locality.proofs.try_copy.try_copy_each.Given as goal

-- the items so far, with room for all
abbrev pub invariant-loop-item : goal.invariant-loop-item
invariant-loop-item g l = record {
  items : l.copies.items ≡ take l.item-index l.items;
  count : vec_len l.copies ≡ l.item-index;
  room : length l.items ≤ vec_capacity l.copies;
}
