use Rattle.std.proofs.Common.{arith}
use Rattle.fy_cluster.proofs.Grants.{protect_nobody, protected}
use Rattle.fy_cluster.proofs.machine.Machine.protect.Goals as goal

pub returns-then-process-processes : goal.returns-then-process-processes
returns-then-process-processes g c = protect_nobody g.point c.args.process c.args.kinds _ c.requires (omega arith)

pub returns : goal.returns
returns g c =
    protected c.protections_after_change.ensures.kinds c.protections_after_change.ensures.processes c.members_together.ensures.either g.point c.args.process c.args.kinds c.args.self.now c.protect.new.self c.requires
    (omega arith)
    c.protect.ensures
