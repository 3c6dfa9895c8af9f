use Rattle.std.proofs.Common.{take}
use Rattle.fy_judge.specs.JudgeViews.{IsToken}
use Rattle.fy_judge.proofs.line.split_at_blank.Given as goal

abbrev pub invariant-loop-i : goal.invariant-loop-i
invariant-loop-i l = IsToken (take l.i l.line)
