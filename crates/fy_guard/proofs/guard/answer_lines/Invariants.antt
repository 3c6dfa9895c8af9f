use Rattle.std.proofs.Common.{◌-◌, ◌^◌}
use Rattle.fy_guard.proofs.Guarding.{HasAnswered}
use Rattle.fy_guard.proofs.guard.answer_lines.Given as goal

abbrev pub invariant-lines : goal.invariant-lines
invariant-lines g l =
    HasAnswered l.fn.questions l.fn.cluster (g.R.Read.remaining l.fn.reader) (g.R.Read.remaining l.reader)
    (g.W.Write.contents l.fn.writer) (g.W.Write.contents l.writer) l.cluster l.answered

abbrev pub decreases-lines : goal.decreases-lines
decreases-lines g l = 2 ^ 64 - l.answered
