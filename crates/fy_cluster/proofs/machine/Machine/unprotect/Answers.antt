use Rattle.std.proofs.Common.{arith}
use Rattle.fy_cluster.proofs.Grants.{unprotect_nobody, unprotected}
use Rattle.fy_cluster.proofs.machine.Machine.unprotect.Goals as goal

pub returns-then-process-processes : goal.returns-then-process-processes
returns-then-process-processes g c = unprotect_nobody g.point c.args.process c.args.kinds _ c.requires (omega arith)

pub returns : goal.returns
returns g c =
    unprotected c.protections_after_change.ensures.kinds c.protections_after_change.ensures.processes c.members_together.ensures.first g.point c.args.process c.args.kinds c.args.self.now c.unprotect.new.self c.requires
    (omega arith)
    c.unprotect.ensures
