use Rattle.std.proofs.Common.{◌≡◌, ◌++◌}
use Rattle.std.specs.FinSet as sets
use Rattle.std.specs.List.{filter}
use Rattle.fy_svg.specs.Marks.{AreMarked, is_mark}
use Rattle.fy_svg.proofs.glyphs.Open.take.Given as goal

-- the processes that have a mark are those left, and their marks come behind those taken
abbrev pub invariant-loop-p : goal.invariant-loop-p
invariant-loop-p l = record {
  marked : AreMarked l.self-inside.marks.items l.self-inside.marked;
  all : l.taken.items ++ filter is_mark l.self-inside.marks.items ≡ filter is_mark l.fn.self;
}

abbrev pub decreases-loop-p : goal.decreases-loop-p
decreases-loop-p l = sets.len l.self-inside.marked
