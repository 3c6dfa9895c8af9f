use Rattle.std.proofs.Common.{◌≡◌}
use Rattle.std.specs.Prelude.{replicate}
use Rattle.fy_grants.specs.Covers.{bare}
use Rattle.fy_grants.proofs.book.bare_covers.Given as goal

abbrev pub invariant-loop-actor : goal.invariant-loop-actor
invariant-loop-actor l = l.covers.items ≡ replicate l._actor bare
