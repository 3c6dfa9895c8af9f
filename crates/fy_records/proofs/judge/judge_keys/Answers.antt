use Rattle.std.proofs.Common.{◌≡◌, ◌+◌, ℕ, suc, subst, arith}
use Rattle.fy_records.specs.Verdicts.{AreJudgedBelow}
use Rattle.fy_records.proofs.judge.judge_keys.Goals as goal

pub loop-key-preserved : goal.loop-key-preserved
loop-key-preserved c h is =
    let key = c.loop-key.key in
    let one : suc key ≡ key + 1 = omega arith in
    subst (λ (n : ℕ). AreJudgedBelow h n c.add.new.records.items) one
    (c.loop-key.records.items, c.judge_key.result, c.loop-key.invariant h is, c.judge_key.ensures h is, c.in_ok-add.ensures)
