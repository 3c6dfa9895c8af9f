use Rattle.fy_registers.proofs.EachPart.{JudgedSoFar}
use Rattle.fy_registers.proofs.keyed.judge_each.Given as goal

-- each part so far is judged
abbrev pub invariant-loop-part : goal.invariant-loop-part
invariant-loop-part l = JudgedSoFar l.part-items l.part-index l.judged.items
