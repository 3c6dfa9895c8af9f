use Rattle.std.proofs.Common.{◌≡◌, ℕ, take}
use Rattle.std.specs.FinSet as sets
use Rattle.fy_team.specs.Teams.{is_among}
use Rattle.fy_cluster.proofs.replacing.set_with.Given as goal

abbrev pub invariant-loop-p : goal.invariant-loop-p
invariant-loop-p l = (q : ℕ) → sets.contains l.set q ≡ is_among (take l.p-index l.members) q
