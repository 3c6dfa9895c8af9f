use Rattle.std.proofs.Common.{◌≡◌, ◌++◌, [], List, drop}
use Rattle.std.specs.List.{flat_map}
use Rattle.fy_judge.specs.declared.line.Ask.{Ask}
use Rattle.fy_judge.specs.JudgeTexts.{answer_line, answers_of}
use Rattle.fy_judge.specs.JudgeBooks.{RecordsGranted}
use Rattle.fy_judge.proofs.answer.answer_asks.Given as goal

-- the asks answered yes so far, and what is still to be written
abbrev pub invariant-loop-ask : goal.invariant-loop-ask
invariant-loop-ask l = record {
  granted : List Ask;
  stands : RecordsGranted l.input granted l.dead;
  written : flat_map answer_line (answers_of l.input [] l.ask-items) ≡ l.text.items ++ flat_map answer_line (answers_of l.input granted (drop l.ask-index l.ask-items));
}
