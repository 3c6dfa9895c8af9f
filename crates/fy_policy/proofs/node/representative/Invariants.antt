use Rattle.std.proofs.Common.{◌≡◌}
use Rattle.std.specs.FinSet as sets
use Rattle.fy_policy.specs.Counted.{group_at}
use Rattle.fy_policy.proofs.Counts.{number_of}
use Rattle.fy_policy.proofs.Leaders.{Looked}
use Rattle.fy_policy.proofs.node.representative.Given as goal

abbrev pub invariant-loop-q : goal.invariant-loop-q
invariant-loop-q l = record {
  group : l.group ≡ group_at l.places l.p.0;
  looked : Looked l.map l.fn.key (group_at l.places) l.p.0 l.rest;
}

abbrev pub decreases-loop-q : goal.decreases-loop-q
decreases-loop-q l = number_of (sets.contains l.rest) 1024
