use Rattle.std.proofs.Common.{◌∙◌, ap}
use Rattle.fy_picture.specs.Recording.{Recording}
use Rattle.fy_show.proofs.by_time.draw_in.Goals as goal

pub enter_all-requires : goal.enter_all-requires
enter_all-requires c = (c.args.config.now, c.in_ok-drawing.ensures.recorded)

pub returns : goal.returns
returns c = record {
  version = c.in_ok-enter_all.ensures.version ∙ ap (λ (r : Recording). r.version) c.in_ok-drawing.ensures.begun ∙ c.version-version.ensures;
  those = c.in_ok-enter_all.ensures.entered c.args.config.now c.in_ok-drawing.ensures.recorded;
  laid_is = c.in_ok-enter_all.ensures.laid ∙ ap (λ (r : Recording). r.columns.laid) c.in_ok-drawing.ensures.begun;
}
