use Rattle.std.proofs.Common.{◌≡◌, drop}
use Rattle.fy_team.specs.Members.{rises_from}
use Rattle.fy_team.proofs.members.rise.Given as goal

abbrev pub invariant-loop-p : goal.invariant-loop-p
invariant-loop-p l = rises_from 0 l.processes ≡ rises_from l.low (drop l.p-index l.processes)
