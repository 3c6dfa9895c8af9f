use Rattle.std.proofs.Common.{◌≡◌, ◌&&◌, ℕ, length, take}
use Rattle.std.specs.Prelude.{nat_lt}
use Rattle.std.specs.FinSet as sets
use Rattle.fy_team.specs.Teams.{is_among}
use Rattle.fy_check_by_rules.proofs.policies.set_of.Given as goal

abbrev pub invariant-loop-p : goal.invariant-loop-p
invariant-loop-p l = (q : ℕ) → sets.contains l.set q ≡ (nat_lt q (length l.map) && is_among (take l.p-index l.members) q)
