use Rattle.std.proofs.Common.{◌≡◌}
use Rattle.std.specs.FinSet as sets
use Rattle.fy_picture.proofs.Moving.{IsMovedBut}
use Rattle.fy_picture.proofs.tallied_set.move_those.Given as goal

-- outside the rest the set is the one that it is moved to
abbrev pub invariant-loop-p : goal.invariant-loop-p
invariant-loop-p l = record {
  processes : l.tally.processes ≡ l.initial.tally.processes;
  policy : l.tally.policy ≡ l.initial.tally.policy;
  set : IsMovedBut l.rest l.tally.set l.to;
}

abbrev pub decreases-loop-p : goal.decreases-loop-p
decreases-loop-p l = sets.len l.rest
