use Rattle.std.proofs.Common.{◌∙◌, List, take, drop, sym, ap, subst, arith}
use Rattle.std.specs.Prelude.{◌==◌}
use Rattle.std.specs.List.{prefix_len}
use Rattle.fy_records.specs.Reads.{process_of}
use Rattle.fy_records.specs.declared.seen.Seen.{Seen}
use Rattle.fy_records.specs.Found.{AreOfOne, AreApart, AreGathered}
use Rattle.fy_records.proofs.Processes.{gathered_behind, front_of_one, split_apart, front_some}
use Rattle.fy_records.proofs.judge.split_process.Goals as goal

pub returns-clause-one : goal.returns-clause-one
returns-clause-one c =
    let n = c.count_of_process.ensures.count in
    subst AreOfOne (sym (c.split_at.ensures.front ∙ ap (λ k. take k c.args.reads.now) n))
    (front_of_one c.process-process.result c.args.reads.now)

pub returns-clause-apart : goal.returns-clause-apart
returns-clause-apart c =
    let reads = c.args.reads.now in
    let n = c.count_of_process.ensures.count in
    let front = c.split_at.ensures.front ∙ ap (λ k. take k reads) n in
    let back = c.split_at.ensures.back ∙ ap (λ k. drop k reads) n in
    let apart = split_apart reads _ c.process-process.result c.requires.some c.requires.gathered c.process-process.ensures in
    subst (λ (ys : List Seen). AreApart c.split_at.result.0.now ys) (sym back)
    (subst (λ (ys : List Seen). AreApart ys (drop (prefix_len (λ s. process_of s == c.process-process.result) reads) reads)) (sym front) apart)

pub returns-clause-shorter : goal.returns-clause-shorter
returns-clause-shorter c =
    let some = front_some c.args.reads.now _ c.process-process.result c.requires.some c.process-process.ensures in
    omega (arith, some, c.count_of_process.ensures.count, c.split_at.ensures.back_len)

pub returns-clause-rest : goal.returns-clause-rest
returns-clause-rest c =
    subst AreGathered (sym c.split_at.ensures.back) (gathered_behind c.count_of_process.result c.args.reads.now c.requires.gathered)
