use Rattle.std.proofs.Common.{◌≡◌, ◌∙◌, Err, Ok, OnOk, IfErr, Result, sym, subst, ap}
use Rattle.json.specs.Value.{value_view}
use Rattle.fy_events.specs.Events.{IsJson}
use Rattle.fy_history.specs.Histories.{LineOf, json, no_json}
use Rattle.fy_history.specs.Progress.{state_of}
use Rattle.fy_history.proofs.Tellings.{taken, untaken}
use Rattle.fy_history.proofs.reader.take_line.Goals as goal

pub returns-in-Ok-clause-ok : goal.returns-in-Ok-clause-ok
returns-in-Ok-clause-ok c =
    let is : IsJson c.args.bytes.now (value_view c.in-Ok.value) =
    record { text = c.in-Ok.ensures.ok.0; reads = c.in-Ok.ensures.ok.1 } in
    taken c.args.known (state_of c.args.progress.now) (state_of c.take_value.new.progress)
    c.args.bytes.now (value_view c.in-Ok.value) c.take_value.result is c.take_value.ensures.taken

pub returns-in-Ok-clause-err : goal.returns-in-Ok-clause-err
returns-in-Ok-clause-err c =
    let is : IsJson c.args.bytes.now (value_view c.in-Ok.value) =
    record { text = c.in-Ok.ensures.ok.0; reads = c.in-Ok.ensures.ok.1 } in
    untaken c.args.known (state_of c.args.progress.now) (state_of c.take_value.new.progress)
    c.args.bytes.now (value_view c.in-Ok.value) c.take_value.result is c.take_value.ensures.taken

pub returns-in-Invalid-clause-err : goal.returns-in-Invalid-clause-err
returns-in-Invalid-clause-err c =
    no_json (λ value is. let none = c.in-Err.ensures.invalid (ap Err c.in-Invalid.is) is.text in
    let some = is.reads in absurd (cc))
