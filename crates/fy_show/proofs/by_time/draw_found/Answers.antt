use Rattle.std.proofs.Common.{sym, subst}
use Rattle.fy_audit.specs.Audit.{audit_of}
use Rattle.fy_replay.specs.Replayed.{HasFirstBad}
use Rattle.fy_picture.proofs.Recorders.{first_of}
use Rattle.fy_show.specs.Shows.{HasDrawnByTime}
use Rattle.fy_show.proofs.Timing.{none_where}
use Rattle.fy_show.proofs.by_time.draw_found.Goals as goal

pub returns-then-is_none-clause-first : goal.returns-then-is_none-clause-first
returns-then-is_none-clause-first c =
    subst (HasFirstBad c.args.held.now.journal.version c.args.config.now c.args.held.now.journal.entries) (sym c.first_bad.ensures)
    (first_of c.args.held.now.journal.version c.args.config.now c.args.held.now.journal.entries c.in_ok-drawing.drawing c.in_ok-drawing.ensures.drawn.those
    c.in_ok-drawing.ensures.drawn.version)

pub returns-clause-first : goal.returns-clause-first
returns-clause-first c =
    subst (HasFirstBad c.args.held.now.journal.version c.args.config.now c.args.held.now.journal.entries) (sym c.first_bad.ensures)
    (first_of c.args.held.now.journal.version c.args.config.now c.args.held.now.journal.entries c.in_ok-drawing.drawing c.in_ok-drawing.ensures.drawn.those
    c.in_ok-drawing.ensures.drawn.version)

pub returns-then-is_none-clause-drawn : goal.returns-then-is_none-clause-drawn
returns-then-is_none-clause-drawn c =
    let none = none_where c.first_bad.result c.is_none.result (sym c.is_none.ensures) c.if-is_none.true in
    subst (λ first. HasDrawnByTime c.args.config.now (audit_of c.args.held.now.journal) (record { count = c.args.held.now.count; first_bad = first }) c.args.events.now c.in_ok-drawing.drawing)
    (sym none) c.in_ok-drawing.ensures
