use Rattle.std.proofs.Common.{◌≡◌}
use Rattle.std.specs.FinSet as sets
use Rattle.fy_decide.proofs.tallies.drop_all.Given as goal

-- those that went, and those of the rest, are all
abbrev pub invariant-loop-p : goal.invariant-loop-p
invariant-loop-p l = record {
  processes : l.tally.processes ≡ l.initial.tally.processes;
  policy : l.tally.policy ≡ l.initial.tally.policy;
  set : sets.difference l.tally.set l.rest ≡ sets.difference l.initial.tally.set l.set;
}

abbrev pub decreases-loop-p : goal.decreases-loop-p
decreases-loop-p l = sets.len l.rest
