use Rattle.std.proofs.Common.{◌∙◌, ap, sym, subst}
use Rattle.fy_picture.specs.Recording.{Recording}
use Rattle.fy_picture.proofs.Recorders.{first_of}
use Rattle.fy_replay.specs.Replayed.{HasFirstBad}
use Rattle.fy_svg.proofs.drawing.svg.Goals as goal

pub enter_all-requires : goal.enter_all-requires
enter_all-requires c = (c.args.config.now, c.in_ok-drawing.ensures.recorded)

pub returns-in-Some-clause-bad : goal.returns-in-Some-clause-bad
returns-in-Some-clause-bad c =
    let setup = c.args.config.now in
    let journal = c.args.journal.now in
    subst (HasFirstBad journal.version setup journal.entries) (sym c.first_bad.ensures ∙ c.in-Some.is)
    (first_of journal.version setup journal.entries c.enter_all.new.self
    (c.in_ok-enter_all.ensures.entered setup c.in_ok-drawing.ensures.recorded)
    (c.in_ok-enter_all.ensures.version ∙ ap (λ (r : Recording). r.version) c.in_ok-drawing.ensures.begun ∙ c.version.ensures))

pub returns-clause-legal : goal.returns-clause-legal
returns-clause-legal c =
    let setup = c.args.config.now in
    let journal = c.args.journal.now in
    subst (HasFirstBad journal.version setup journal.entries) (sym c.first_bad.ensures ∙ c.in_default.is)
    (first_of journal.version setup journal.entries c.enter_all.new.self
    (c.in_ok-enter_all.ensures.entered setup c.in_ok-drawing.ensures.recorded)
    (c.in_ok-enter_all.ensures.version ∙ ap (λ (r : Recording). r.version) c.in_ok-drawing.ensures.begun ∙ c.version.ensures))
