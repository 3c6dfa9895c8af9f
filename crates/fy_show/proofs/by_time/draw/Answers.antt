use Rattle.std.proofs.Common.{Some, subst}
use Rattle.std.proofs.lemmas.Result.{IfOk-weaker}
use Rattle.fy_audit.specs.Audit.{audit_of}
use Rattle.fy_events.specs.Columns.{AreTimeColumns, events_before}
use Rattle.fy_picture.specs.declared.TheConstants.{MOST_COLUMNS}
use Rattle.fy_show.specs.Shows.{HasDrawn, HasDrawnByTime}
use Rattle.fy_show.proofs.by_time.draw.Goals as goal

pub returns : goal.returns
returns c =
    let events = c.args.events.now in
    let good = c.unwrap_or-good.result in
    IfOk-weaker c.draw_in.result (HasDrawn c.args.config.now (audit_of c.args.journal.now) (Some c.in_ok-columns.columns.ends.items))
    (HasDrawnByTime c.args.config.now (audit_of c.args.journal.now) c.args.finding events)
    (λ drawing is. record {
      columns = c.in_ok-columns.columns;
      are_columns = subst (λ n. AreTimeColumns (events_before events n) n MOST_COLUMNS c.in_ok-columns.columns) c.unwrap_or-good.ensures
          (subst (λ es. AreTimeColumns es good MOST_COLUMNS c.in_ok-columns.columns) c.events_before-drawn.ensures.those c.in_ok-columns.ensures.columns);
      drawn = is;
    })
    c.draw_in.ensures
