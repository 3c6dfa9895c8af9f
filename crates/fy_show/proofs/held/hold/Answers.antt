use Rattle.std.proofs.Common.{◌∙◌, ap}
use Rattle.fy_acts.specs.Journal.{Log}
use Rattle.fy_show.proofs.Timing.{is_held}
use Rattle.fy_show.proofs.held.hold.Goals as goal

pub returns-clause-held : goal.returns-clause-held
returns-clause-held g c =
    let known = g.R.Read.remaining c.args.reader.now in
    is_held known c.in_ok-input.input.version c.of_version.result.version _
    (ap (λ (log : Log). log.version) c.of_version.ensures ∙ c.version.ensures)
    (c.in_ok-count.ensures.read known c.in_ok-input.ensures.begun)
