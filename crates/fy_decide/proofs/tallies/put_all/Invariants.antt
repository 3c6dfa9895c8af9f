use Rattle.std.proofs.Common.{◌≡◌}
use Rattle.std.specs.FinSet as sets
use Rattle.fy_decide.proofs.tallies.put_all.Given as goal

-- those that came, and those of the rest, are all
abbrev pub invariant-loop-p : goal.invariant-loop-p
invariant-loop-p l = record {
  processes : l.tally.processes ≡ l.initial.tally.processes;
  policy : l.tally.policy ≡ l.initial.tally.policy;
  set : sets.union l.tally.set l.rest ≡ sets.union l.initial.tally.set l.set;
}

abbrev pub decreases-loop-p : goal.decreases-loop-p
decreases-loop-p l = sets.len l.rest
