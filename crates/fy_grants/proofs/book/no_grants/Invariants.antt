use Rattle.std.proofs.Common.{◌≡◌, [], map}
use Rattle.std.specs.Prelude.{replicate}
use Rattle.fy_grants.proofs.book.no_grants.Given as goal

abbrev pub invariant-loop-actor : goal.invariant-loop-actor
invariant-loop-actor l = map (λ own. own.items) l.lists.items ≡ replicate l._actor []
