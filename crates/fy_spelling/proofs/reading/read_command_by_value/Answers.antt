use Rattle.std.proofs.Common.{◌≤◌, length, sym, ◌∙◌, arith}
use Rattle.serde_json.specs.View.{view}
use Rattle.fy_spelling.specs.declared.command.TheConstants.{MOST_LINE_BYTES}
use Rattle.fy_spelling.proofs.Lines.{spelled, inverted, nothing}
use Rattle.fy_spelling.proofs.reading.read_command_by_value.Goals as goal

pub returns-in_default-2 : goal.returns-in_default-2
returns-in_default-2 c =
    let short : length c.args.line.now ≤ MOST_LINE_BYTES = omega arith in
    nothing c.args.line.now (view c.in-Some.value) short (rw c.in-Some.is at c.in_ok-value.ensures.found)
    (sym c.in_ok-by.ensures ∙ c.in_default-2.is)

pub returns-in-Ok : goal.returns-in-Ok
returns-in-Ok c =
    let short : length c.args.line.now ≤ MOST_LINE_BYTES = omega arith in (
      short,
      spelled c.args.line.now (view c.in-Some.value) c.in-Some-2.by c.in-Some-2.asked c.in-Ok.act
          (rw c.in-Some.is at c.in_ok-value.ensures.found) (sym c.in_ok-by.ensures ∙ c.in-Some-2.is)
          c.in-Ok.ensures,
    )

pub returns : goal.returns
returns c =
    let short : length c.args.line.now ≤ MOST_LINE_BYTES = omega arith in
    inverted c.args.line.now (view c.in-Some.value) c.in-Some-2.by c.in-Some-2.asked c.in-Err.fault
    short (rw c.in-Some.is at c.in_ok-value.ensures.found) (sym c.in_ok-by.ensures ∙ c.in-Some-2.is)
    c.in-Err.ensures
