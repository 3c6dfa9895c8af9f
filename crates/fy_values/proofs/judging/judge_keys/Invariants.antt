use Rattle.fy_values.proofs.Parts.{JudgedSoFar}
use Rattle.fy_values.proofs.judging.judge_keys.Given as goal

-- each part so far is judged
abbrev pub invariant-loop-part : goal.invariant-loop-part
invariant-loop-part l = JudgedSoFar l.part-items l.part-index l.judged.items
