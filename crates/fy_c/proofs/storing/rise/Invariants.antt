use Rattle.std.proofs.Common.{◌≡◌, drop}
use Rattle.fy_team.specs.Members.{rises_from}
use Rattle.fy_c.specs.Making.{processes}
use Rattle.fy_c.proofs.storing.rise.Given as goal

abbrev pub invariant-loop-number : goal.invariant-loop-number
invariant-loop-number l =
    rises_from 0 (processes l.numbers)
    ≡ rises_from l.low (processes (drop l.number-index l.numbers))
