use Rattle.std.proofs.Common.{◌≡◌}
use Rattle.std.specs.Prelude.{replicate}
use Rattle.fy_kinds.specs.Kinds.{no_deed}
use Rattle.fy_grants.proofs.protections.no_protections.Given as goal

abbrev pub invariant-loop-process : goal.invariant-loop-process
invariant-loop-process l = l.sets.items ≡ replicate l._process no_deed
