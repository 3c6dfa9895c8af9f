use Rattle.std.proofs.Common.{◌≡◌, ◌∙◌, ◌<◌, ◌++◌, ◌+◌, [], List, length, drop, slice_index_or, refl, ap, sym, subst}
use Rattle.std.specs.List.{flat_map, AllByRecursion}
use Rattle.fy_decide.specs.declared.dead_book.Loss.TheVariants.{Emptied}
use Rattle.fy_judge.specs.JudgeBooks.{RecordsGranted}
use Rattle.fy_judge.specs.declared.line.Ask.{Ask}
use Rattle.fy_judge.specs.JudgeTexts.{answer_line, answer_of, answers_of, granted_after}
use Rattle.fy_judge.proofs.AnswerLemmas.{stands_first, next_answer, all_answered, each_there, nil-append}
use Rattle.fy_judge.proofs.answer.answer_asks.Goals as goal

pub loop-ask-init : goal.loop-ask-init
loop-ask-init c = record {
  granted = [];
  stands = stands_first c.args.input.now c.args.dead.now c.requires;
  written = sym (ap (λ text. text ++ flat_map answer_line (answers_of c.args.input.now [] c.asks-ask-items.result.now)) c.new-text.ensures.items ∙ nil-append _);
}

pub loop-ask-preserved : goal.loop-ask-preserved
loop-ask-preserved c =
    let asks : List Ask = c.asks-ask-items.result.now in
    let d : Ask = record { loss = Emptied; process = record { 0 = 0 } } in
    let a : Ask = slice_index_or asks c.loop-ask.ask-index d in
    let here : a.process.0 < length c.args.input.now.processes =
    each_there (length c.args.input.now.processes) asks c.loop-ask.ask-index d
    (subst (λ xs. AllByRecursion (λ b. b.process.0 < length c.args.input.now.processes) xs) (sym c.asks-ask-items.ensures.asks) c.asks-ask-items.ensures.input.there) c.loop-ask-test.true in
    let step : (c.answer_ask-answer.result ≡ answer_of c.args.input.now c.loop-ask.invariant.granted a) × RecordsGranted c.args.input.now (granted_after c.loop-ask.invariant.granted a c.answer_ask-answer.result) c.answer_ask-answer.new.dead =
    c.answer_ask-answer.ensures c.args.input.now c.loop-ask.invariant.granted c.loop-ask.invariant.stands here in
    record {
      granted = granted_after c.loop-ask.invariant.granted a c.answer_ask-answer.result;
      stands = step.1;
      written =
          next_answer c.args.input.now asks c.loop-ask.ask-index a d c.loop-ask.invariant.granted c.answer_ask-answer.result _ _ c.loop-ask-test.true refl step.0 c.loop-ask.invariant.written
          ∙ ap (λ text. text ++ flat_map answer_line (answers_of c.args.input.now (granted_after c.loop-ask.invariant.granted a c.answer_ask-answer.result) (drop (c.loop-ask.ask-index + 1) asks)))
          (sym (c.in_ok-extend_from_slice.ensures.items ∙ ap (λ line. c.loop-ask.text.items ++ line) (c.as_bytes.ensures.value ∙ c.line.ensures)));
    }

pub returns : goal.returns
returns c =
    all_answered c.args.input.now c.asks-ask-items.result.now c.loop-ask.invariant.granted c.loop-ask.ask-index _ _ c.loop-ask-test.false c.loop-ask.invariant.written
    ∙ ap (λ asks. flat_map answer_line (answers_of c.args.input.now [] asks)) c.asks-ask-items.ensures.asks
