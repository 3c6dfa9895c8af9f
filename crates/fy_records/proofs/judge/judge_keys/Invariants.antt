use Rattle.fy_records.specs.Lines.{Lines}
use Rattle.fy_records.specs.Indexed.{IsIndexOf}
use Rattle.fy_records.specs.Verdicts.{AreJudgedBelow}
use Rattle.fy_records.proofs.judge.judge_keys.Given as goal

abbrev pub invariant-loop-key : goal.invariant-loop-key
invariant-loop-key l = (h : Lines) → IsIndexOf h l.index → AreJudgedBelow h l.key l.records.items
