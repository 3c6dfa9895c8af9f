use Rattle.std.proofs.Common.{◌∙◌, ◌∷◌, ◌++◌, ◌+◌, [], length, refl, ap, sym, subst, arith, Err}
use Rattle.std.proofs.lemmas.List.{length_push}
use Rattle.fy_judge.specs.JudgeLines.{empty_input}
use Rattle.fy_judge.specs.JudgeTexts.{Judges, IfJudgeRefusal}
use Rattle.fy_judge.proofs.InputLemmas.{empty_list}
use Rattle.fy_judge.proofs.LineLemmas.{FollowLines-push, split-push, line_refused, line_stop-other, faultless}
use Rattle.fy_judge.proofs.judge.read_lines.Goals as goal

pub returns-in-Err-clause-refused : goal.returns-in-Err-clause-refused
returns-in-Err-clause-refused c =
    subst (λ stop. IfJudgeRefusal stop (Judges c.args.bytes.now (Err stop))) (sym c.line_stop.ensures.stop)
    (line_refused c.args.bytes.now c.loop-rest.invariant.good c.loop-rest.input c.loop-rest.rest.now c.first_line.result.0.now c.first_line.result.1.now c.loop-rest.number c.in-Err.fault c.requires c.loop-rest.invariant.split c.first_line.ensures.first c.loop-rest.invariant.said c.loop-rest.invariant.count c.in-Err.ensures.refused)

pub returns-in-Err-clause-no_other : goal.returns-in-Err-clause-no_other
returns-in-Err-clause-no_other c = rw c.line_stop.ensures.stop (line_stop-other (c.loop-rest.number + 1) c.in-Err.fault)

pub loop-rest-preserved : goal.loop-rest-preserved
loop-rest-preserved c = record {
  good = c.loop-rest.invariant.good ++ c.first_line.result.0.now ∷ [];
  split = split-push c.args.bytes.now c.loop-rest.invariant.good c.loop-rest.rest.now c.first_line.result.0.now c.first_line.result.1.now c.loop-rest.invariant.split c.first_line.ensures.first;
  said = FollowLines-push empty_input c.loop-rest.invariant.good c.loop-rest.input c.first_line.result.0.now c.take_line.new.self c.loop-rest.invariant.said c.in_default.ensures.taken;
  count = ap (λ n. n + 1) c.loop-rest.invariant.count ∙ sym (length_push c.loop-rest.invariant.good c.first_line.result.0.now);
  room = omega (arith, c.first_line.ensures.shorter, c.loop-rest.invariant.room);
}

pub returns-clause-read : goal.returns-clause-read
returns-clause-read c =
    faultless c.args.bytes.now c.loop-rest.invariant.good c.loop-rest.rest.now c.loop-rest.input c.requires c.loop-rest.invariant.split
    (empty_list c.loop-rest.rest.now (length c.loop-rest.rest.now) _ c.is_empty.ensures refl c.loop-rest-test.false) c.loop-rest.invariant.said
