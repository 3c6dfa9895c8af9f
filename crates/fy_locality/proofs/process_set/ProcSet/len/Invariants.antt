use Rattle.std.proofs.Common.{◌≡◌, ◌*◌}
use Rattle.std.specs.FinSet as sets
use Rattle.fy_locality.specs.Members.{members_below}
use Rattle.fy_locality.proofs.process_set.ProcSet.len.Given as goal

abbrev pub invariant-loop-word : goal.invariant-loop-word
invariant-loop-word l = l.count ≡ sets.len (members_below l.word-items (l.word-index * 64))
