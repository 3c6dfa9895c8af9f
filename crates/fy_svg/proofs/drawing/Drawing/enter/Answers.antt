use Rattle.std.proofs.Common.{◌∙◌, ◌++◌, ◌∷◌, [], ap, sym, subst}
use Rattle.fy_picture.specs.Recording.{HasRecorded, Recording}
use Rattle.fy_picture.proofs.Recorders.{recorded_alike}
use Rattle.fy_svg.proofs.Marking.{ended_laid}
use Rattle.fy_svg.proofs.drawing.Drawing.enter.Goals as goal

pub returns-then-is_some-clause-entered : goal.returns-then-is_some-clause-entered
returns-then-is_some-clause-entered c = λ s so_far has.
    c.in_ok-enter.ensures.entered s so_far
    (subst (HasRecorded s so_far) (sym c.self.view_is) (recorded_alike s so_far c.args.self.now c.end_due.new.self c.in_ok-end_due.ensures.same has))

pub returns-clause-entered : goal.returns-clause-entered
returns-clause-entered c = λ s so_far has.
    subst (HasRecorded s (so_far ++ c.args.entry ∷ [])) (sym (c.in_ok-draw_time.ensures ∙ c.in_ok-draw_order.ensures))
    (c.in_ok-enter.ensures.entered s so_far
    (subst (HasRecorded s so_far) (sym c.self.view_is) (recorded_alike s so_far c.args.self.now c.end_due.new.self c.in_ok-end_due.ensures.same has)))

pub returns-then-is_some-clause-laid : goal.returns-then-is_some-clause-laid
returns-then-is_some-clause-laid c =
    c.in_ok-enter.ensures.laid ∙ ap (λ (r : Recording). r.columns.laid) c.self.view_is
    ∙ ended_laid c.args.self.now c.end_due.new.self c.in_ok-end_due.ensures

pub returns-clause-laid : goal.returns-clause-laid
returns-clause-laid c =
    ap (λ (r : Recording). r.columns.laid) (c.in_ok-draw_time.ensures ∙ c.in_ok-draw_order.ensures)
    ∙ c.in_ok-enter.ensures.laid ∙ ap (λ (r : Recording). r.columns.laid) c.self.view_is
    ∙ ended_laid c.args.self.now c.end_due.new.self c.in_ok-end_due.ensures
