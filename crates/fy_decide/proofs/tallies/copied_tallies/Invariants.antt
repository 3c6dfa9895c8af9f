use Rattle.std.proofs.Common.{◌≡◌, ◌≤◌, length, take, vec_len}
use Rattle.std.specs.Vec.{vec_capacity}
use Rattle.fy_decide.proofs.tallies.copied_tallies.Given as goal

-- the tallies so far, with room for all
abbrev pub invariant-loop-tally : goal.invariant-loop-tally
invariant-loop-tally l = record {
  items : l.copies.items ≡ take l.tally-index l.tallies;
  count : vec_len l.copies ≡ l.tally-index;
  room : length l.tallies ≤ vec_capacity l.copies;
}
