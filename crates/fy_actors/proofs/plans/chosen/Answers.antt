use Rattle.std.proofs.Common.{◌∙◌, sym, ap, arith, drop, get_or, ◌+◌, ◌∷◌, [], ◌++◌, append-nil, append_assoc}
use Rattle.fy_locality.specs.declared.ProcId.{ProcId}
use Rattle.fy_actors.specs.Plans.{chosen}
use Rattle.fy_actors.proofs.Drawing.{one_chosen, one_passed, all_chosen}
use Rattle.fy_actors.proofs.plans.chosen.Goals as goal
use Rattle.fy_actors.proofs.plans.chosen.Goals.{then-words-index-eq1+in_ok-push, else-words-index-eq1}

pub loop-index-preserved : goal.loop-index-preserved
loop-index-preserved c =
    let d : ProcId = record { 0 = 0 } in
    let rest = chosen (drop (c.loop-index.index + 1) c.args.words.now) (drop (c.loop-index.index + 1) c.args.candidates.now) in
    elim c.if-words-index-eq1.branch [
      | then-words-index-eq1+in_ok-push w ↦
          let e = one_chosen c.args.words.now c.args.candidates.now c.loop-index.index d (omega arith) (omega arith) w.if-words-index-eq1.true in
          ap (λ v. v.items ++ rest) w.chosen-is
          ∙ ap (λ xs. xs ++ rest) w.in_ok-push.ensures.items
          ∙ append_assoc c.loop-index.chosen.items (get_or c.args.candidates.now c.loop-index.index d ∷ []) rest
          ∙ ap (λ xs. c.loop-index.chosen.items ++ xs) (sym e)
          ∙ c.loop-index.invariant
      | else-words-index-eq1 w ↦
          let e = one_passed c.args.words.now c.args.candidates.now c.loop-index.index d (omega arith) (omega arith) w.if-words-index-eq1.false in
          ap (λ v. v.items ++ rest) w.chosen-is
          ∙ ap (λ xs. c.loop-index.chosen.items ++ xs) (sym e)
          ∙ c.loop-index.invariant
    ]

pub returns : goal.returns
returns c =
    let e = all_chosen c.args.words.now c.args.candidates.now c.loop-index.index (omega arith) in
    sym (append-nil c.loop-index.chosen.items)
    ∙ ap (λ xs. c.loop-index.chosen.items ++ xs) (sym e) ∙ c.loop-index.invariant
