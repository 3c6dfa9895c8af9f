use Rattle.std.proofs.Common.{sym, subst}
use Rattle.fy_lines.specs.Prefixes.{AppendsProperPrefix}
use Rattle.fy_svg.specs.Documents.{IsDocument}
use Rattle.fy_show.proofs.Showing.{has_document}
use Rattle.fy_show.proofs.show.run_show.Goals as goal

pub returns-in_err-write_bytes-clause-front_out : goal.returns-in_err-write_bytes-clause-front_out
returns-in_err-write_bytes-clause-front_out g c _ =
    let done = c.in_ok-legal.ensures.done in (
      c.in_ok-legal.legal,
      has_document c.args.config.now (g.R.Read.remaining c.args.reader.now) c.in_ok-legal.legal done.0
          (AppendsProperPrefix (g.W.Write.contents c.args.writer.now)
          (g.W.Write.contents c.write_bytes.new.writer))
          done.1 c.as_bytes.result.now (subst (IsDocument done.0) (sym c.as_bytes.ensures.value) done.2)
          c.in_err-write_bytes.ensures.short,
    )
