use Rattle.std.proofs.Common.{◌≡◌, ◌≤◌, map, length, take, vec_len}
use Rattle.std.specs.Vec.{vec_capacity}
use Rattle.fy_grants.proofs.book.copied_grants.Given as goal

-- the lists so far, with room for all
abbrev pub invariant-loop-own : goal.invariant-loop-own
invariant-loop-own l = record {
  lists : map (λ own. own.items) l.copies.items ≡ map (λ own. own.items) (take l.own-index l.lists);
  count : vec_len l.copies ≡ l.own-index;
  room : length l.lists ≤ vec_capacity l.copies;
}
