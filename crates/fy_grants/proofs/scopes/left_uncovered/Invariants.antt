use Rattle.std.proofs.Common.{◌≡◌, ◌&&◌, not, ℕ, take}
use Rattle.std.specs.FinSet as sets
use Rattle.fy_grants.specs.Rights.{is_covered}
use Rattle.fy_grants.proofs.scopes.left_uncovered.Given as goal

abbrev pub invariant-loop-grant : goal.invariant-loop-grant
invariant-loop-grant l = (q : ℕ) → sets.contains l.left q ≡ (sets.contains l.set q && not (is_covered l.map (take l.grant-index l.grants) l.kinds q))
