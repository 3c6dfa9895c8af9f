use Rattle.std.proofs.Common.{Ok, Err, subst}
use Rattle.std.proofs.lemmas.Result.{IfOk-weaker, IfErr-weaker, err_from_is_err_and}
use Rattle.std.specs.Prelude.{IfSome}
use Rattle.fy_events.specs.Events.{EventsOf}
use Rattle.fy_streams.specs.Stops.{IfEventsFault}
use Rattle.fy_show.proofs.Timing.{holds_known, map_events}
use Rattle.fy_show.proofs.by_time.load_events.Goals as goal

pub returns-in_err-lines-clause-refused : goal.returns-in_err-lines-clause-refused
returns-in_err-lines-clause-refused g c =
    let known = g.R.Read.remaining c.args.reader.now in
    let p = err_from_is_err_and c.from_residual.result c.from_residual.ensures.1 in
    rw (p.1, p.2)
    (map_events c.in_err-lines.field-0.0 _ (λ fault. IfSome known (λ lines. EventsOf c.args.count lines (Err fault)))
    (λ fault told. told c.args.count) c.in_err-lines.ensures.refused)

pub returns-clause-read : goal.returns-clause-read
returns-clause-read g c =
    let known = g.R.Read.remaining c.args.reader.now in
    IfOk-weaker c.events_of.result _ (λ events. IfSome known (λ lines. EventsOf c.args.count lines (Ok events.items)))
    (λ events are. holds_known known c.in_ok-lines.lines.items (λ lines. EventsOf c.args.count lines (Ok events.items))
    c.in_ok-lines.ensures.read (subst (λ lines. EventsOf c.args.count lines (Ok events.items)) c.deref.ensures.value are))
    c.events_of.ensures.read

pub returns-clause-refused : goal.returns-clause-refused
returns-clause-refused g c =
    let known = g.R.Read.remaining c.args.reader.now in
    IfErr-weaker c.events_of.result _ (λ stop. IfEventsFault stop (λ fault. IfSome known (λ lines. EventsOf c.args.count lines (Err fault))))
    (λ stop told. map_events stop _ _ (λ fault is. holds_known known c.in_ok-lines.lines.items (λ lines. EventsOf c.args.count lines (Err fault))
    c.in_ok-lines.ensures.read (subst (λ lines. EventsOf c.args.count lines (Err fault)) c.deref.ensures.value is)) told)
    c.events_of.ensures.refused
