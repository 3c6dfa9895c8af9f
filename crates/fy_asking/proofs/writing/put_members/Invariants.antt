use Rattle.std.proofs.Common.{◌≡◌, ◌++◌}
use Rattle.std.specs.FinSet as sets
use Rattle.fy_asking.specs.ToldPieces.{any_below, members_text}
use Rattle.fy_asking.proofs.writing.put_members.Given as goal

abbrev pub invariant-loop-p : goal.invariant-loop-p
invariant-loop-p l = record {
  text : l.out.items ≡ l.fn.out.items ++ members_text (sets.contains l.set) l.p;
  later : l.later ≡ any_below (sets.contains l.set) l.p;
}
