use Rattle.std.proofs.Common.{◌≡◌, ◌≤◌, take}
use Rattle.fy_kinds.specs.Kinds.{rank}
use Rattle.fy_actors.specs.Schedules.{attrition_acts}
use Rattle.fy_actors.proofs.attrition.attrition_acts.Given as goal

abbrev pub invariant-loop-machine : goal.invariant-loop-machine
invariant-loop-machine l =
    (ordered : rank l.floor ≤ rank l.kind)
    → l.acts.items ≡ attrition_acts l.kind l.floor l.tear ordered (take l.machine-index l.machines)
