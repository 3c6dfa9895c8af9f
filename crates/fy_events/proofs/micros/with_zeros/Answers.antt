use Rattle.std.proofs.Common.{◌∙◌, ◌*◌, min, ap}
use Rattle.fy_events.specs.declared.TheConstants.{MOST_MICROS}
use Rattle.fy_events.proofs.Zeros.{as_good}
use Rattle.fy_events.proofs.micros.with_zeros.Goals as goal

pub returns : goal.returns
returns c more e =
    c.min.ensures ∙ ap (λ tens. min (c.args.value * tens) MOST_MICROS) c.ten_to.ensures
    ∙ as_good c.args.value c.args.zeros more e
