use Rattle.std.proofs.Common.{◌≤◌, ◌∙◌, length, arith, sym}
use Rattle.serde_json.specs.View.{view}
use Rattle.fy_spelling.specs.declared.command.TheConstants.{MOST_LINE_BYTES}
use Rattle.fy_asking.proofs.Asked.{floor_asked, nothing_asked}
use Rattle.fy_asking.proofs.reading.read_question.Goals as goal

pub returns-in_default-question_of : goal.returns-in_default-question_of
returns-in_default-question_of c =
    let short : length c.args.line.now ≤ MOST_LINE_BYTES = omega arith in
    nothing_asked c.args.line.now (view c.in-Some.value) short (rw c.in-Some.is at c.in_ok-value.ensures.found)
    (sym c.question_of.ensures ∙ c.in_default-question_of.is)

pub returns-in-Ok : goal.returns-in-Ok
returns-in-Ok c =
    let short : length c.args.line.now ≤ MOST_LINE_BYTES = omega arith in (
      short,
      record {
        value = view c.in-Some.value;
        json = rw c.in-Some.is at c.in_ok-value.ensures.found;
        asked = c.in-Some-question_of.asked;
        found = sym c.question_of.ensures ∙ c.in-Some-question_of.is;
        comes = c.in-Ok.ensures;
      },
    )

pub returns : goal.returns
returns c =
    let short : length c.args.line.now ≤ MOST_LINE_BYTES = omega arith in
    floor_asked c.args.line.now (view c.in-Some.value) c.in-Some-question_of.asked c.in-Err.fault
    short (rw c.in-Some.is at c.in_ok-value.ensures.found) (sym c.question_of.ensures ∙ c.in-Some-question_of.is)
    c.in-Err.ensures
