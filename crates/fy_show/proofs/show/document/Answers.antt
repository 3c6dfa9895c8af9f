use Rattle.std.proofs.Common.{◌∙◌, ap, sym}
use Rattle.std.specs.Prelude.{is_some}
use Rattle.fy_show.proofs.Showing.{checked_known, none_is}
use Rattle.fy_show.proofs.show.document.Goals as goal

pub returns-clause-done : goal.returns-clause-done
returns-clause-done g c = (
  c.in_ok-drawn.drawn.drawing,
  checked_known c.args.config.now (g.R.Read.remaining c.args.reader.now) c.in_ok-drawn.drawn c.is_none-legal.result
      (none_is c.in_ok-drawn.drawn.drawing.first_bad c.is_none-legal.result (sym c.is_none-legal.ensures ∙ ap is_some c.first_bad.ensures)) c.in_ok-drawn.ensures.drawn,
  c.in_ok-finish.ensures,
)
