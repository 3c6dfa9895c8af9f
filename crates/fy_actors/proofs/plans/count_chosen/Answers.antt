use Rattle.std.proofs.Common.{arith, ap, length}
use Rattle.fy_locality.specs.declared.ProcId.{ProcId}
use Rattle.fy_actors.proofs.Drawing.{one_chosen, one_passed, all_chosen}
use Rattle.fy_actors.proofs.plans.count_chosen.Goals as goal
use Rattle.fy_actors.proofs.plans.count_chosen.Goals.{then-words-index-eq1, else-words-index-eq1}

pub loop-index-preserved : goal.loop-index-preserved
loop-index-preserved c =
    let d : ProcId = record { 0 = 0 } in
    elim c.if-words-index-eq1.branch [
      | then-words-index-eq1 w ↦
          let e = ap length (one_chosen c.args.words.now c.args.candidates.now c.loop-index.index d (omega arith) (omega arith) w.if-words-index-eq1.true) in
          record { counted = omega arith; few = omega arith }
      | else-words-index-eq1 w ↦
          let e = ap length (one_passed c.args.words.now c.args.candidates.now c.loop-index.index d (omega arith) (omega arith) w.if-words-index-eq1.false) in
          record { counted = omega arith; few = omega arith }
    ]

pub returns-clause-count : goal.returns-clause-count
returns-clause-count c =
    let e = ap length (all_chosen c.args.words.now c.args.candidates.now c.loop-index.index (omega arith)) in
    omega arith
