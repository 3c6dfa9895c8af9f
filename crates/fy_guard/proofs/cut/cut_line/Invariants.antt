use Rattle.std.proofs.Common.{◌-◌}
use Rattle.fy_audit.specs.declared.audit.TheConstants.{MOST_AUDIT_BYTES}
use Rattle.fy_guard.proofs.CutLemmas.{HasDropped}
use Rattle.fy_guard.proofs.cut.cut_line.Given as goal

abbrev pub invariant-loop-next : goal.invariant-loop-next
invariant-loop-next g l =
    HasDropped (g.A.Read.remaining l.fn.audit) (g.A.Read.remaining l.audit) l.window l.line l.whole

abbrev pub decreases-loop-next : goal.decreases-loop-next
decreases-loop-next g l = MOST_AUDIT_BYTES - l.whole
