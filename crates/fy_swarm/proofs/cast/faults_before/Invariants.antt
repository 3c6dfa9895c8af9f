use Rattle.std.proofs.Common.{◌≡◌, ◌≤◌}
use Rattle.fy_swarm.specs.Swarm.{faults_before}
use Rattle.fy_swarm.proofs.cast.faults_before.Given as goal

abbrev pub invariant-loop-other : goal.invariant-loop-other
invariant-loop-other l =
    (l.count ≡ faults_before l.config.roles l.other) × (l.count ≤ l.other)
