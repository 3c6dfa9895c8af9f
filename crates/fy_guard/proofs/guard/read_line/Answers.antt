use Rattle.std.proofs.Common.{◌∙◌, ap, sym}
use Rattle.std.specs.Prelude.{Err}
use Rattle.fy_streams.specs.Stops.{input_stop}
use Rattle.fy_guard.proofs.Guarding.{no_line, not_long}
use Rattle.fy_guard.proofs.guard.read_line.Goals as goal

pub returns-in-Err-clause-err : goal.returns-in-Err-clause-err
returns-in-Err-clause-err g c =
    no_line (g.R.Read.remaining c.args.reader.now) c.args.number c.in-Err.fault c.input_stop.result
    (λ is. c.in-Err.ensures.too_long (ap Err is))
    (c.input_stop.ensures ∙ ap (λ stop. input_stop stop c.in-Err.fault) c.line_stop.ensures)

pub returns-in-Err-clause-cut : goal.returns-in-Err-clause-cut
returns-in-Err-clause-cut g c is =
    c.in-Err.ensures.inside
    (not_long c.args.number c.in-Err.fault
    (ap (λ stop. input_stop stop c.in-Err.fault) (sym c.line_stop.ensures) ∙ sym c.input_stop.ensures
    ∙ is))
