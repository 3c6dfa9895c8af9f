use Rattle.std.proofs.Common.{Err, sym, subst, ap}
use Rattle.json.specs.Value.{value_view}
use Rattle.fy_events.specs.Events.{LineOf, json, no_json, IsJson}
use Rattle.fy_events.proofs.event.read_line.Goals as goal

pub returns-in-Ok-told-clause-ok : goal.returns-in-Ok-told-clause-ok
returns-in-Ok-told-clause-ok c =
    let is : IsJson c.args.line.now (value_view c.in-Ok.value) =
    record { text = c.in-Ok.ensures.ok.0; reads = c.in-Ok.ensures.ok.1 } in
    subst (LineOf c.args.count c.args.last c.args.line.now) (sym c.in-Ok-told.ensures.said)
    (json (value_view c.in-Ok.value) is)

pub returns-in-Ok-clause-err : goal.returns-in-Ok-clause-err
returns-in-Ok-clause-err c =
    let is : IsJson c.args.line.now (value_view c.in-Ok.value) =
    record { text = c.in-Ok.ensures.ok.0; reads = c.in-Ok.ensures.ok.1 } in
    subst (LineOf c.args.count c.args.last c.args.line.now) (sym c.in-Err-told.ensures.said)
    (json (value_view c.in-Ok.value) is)

pub returns-in-Invalid-clause-err : goal.returns-in-Invalid-clause-err
returns-in-Invalid-clause-err c =
    no_json (λ value is. let none = c.in-Err.ensures.invalid (ap Err c.in-Invalid.is) is.text in
    let some = is.reads in absurd (cc))
