use Rattle.std.proofs.Common.{◌∙◌}
use Rattle.fy_picture.proofs.Recorders.{next_place}
use Rattle.fy_show.proofs.Showing.{all_on_ok}
use Rattle.fy_show.proofs.sketch.SketchSink.enter.Goals as goal

pub enter-requires : goal.enter-requires
enter-requires c = λ none.
    let has = c.requires in
    has.3 ∙ next_place has.0.0.execution.setup has.1 c.args.self.now.0 has.2.0 none

pub returns : goal.returns
returns c =
    all_on_ok c.enter.result _ _ _ _
    (λ entered version laid begun so_far has. (entered begun.0.execution.setup so_far has.0, version ∙ has.1, laid ∙ has.2))
    c.enter.ensures.entered c.enter.ensures.version c.enter.ensures.laid
