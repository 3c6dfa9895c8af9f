use Rattle.std.proofs.Common.{sym, subst}
use Rattle.std.proofs.lemmas.Result.{err_from_is_err_and}
use Rattle.std.specs.Io.KnownBytes.{Appends}
use Rattle.fy_audit.specs.Audit.{audit_of}
use Rattle.fy_lines.specs.Prefixes.{AppendsProperPrefix}
use Rattle.fy_svg.specs.Documents.{IsDocument}
use Rattle.fy_show.specs.Shows.{AreRefused, HasDrawnByTime}
use Rattle.fy_show.proofs.Timing.{map_events, are_refused, has_timed_document}
use Rattle.fy_show.proofs.by_time.run_show_by_time.Goals as goal

pub returns-in_err-told-clause-events_refused : goal.returns-in_err-told-clause-events_refused
returns-in_err-told-clause-events_refused g c =
    let setup = c.args.config.now in
    let audit = g.R.Read.remaining c.args.reader.now in
    let events = g.E.Read.remaining c.args.events.now in
    let p = err_from_is_err_and c.from_residual-in_err-told.result c.from_residual-in_err-told.ensures.1 in
    rw (p.1, p.2)
    (map_events c.in_err-told.field-0.0 _ (AreRefused setup audit events)
    (λ fault told. are_refused setup audit events c.in_ok-held.held fault c.journals_have_findings.ensures c.in_ok-held.ensures.held told)
    c.in_err-told.ensures.refused)

pub returns-in_err-write_bytes-clause-front_out : goal.returns-in_err-write_bytes-clause-front_out
returns-in_err-write_bytes-clause-front_out g c _ =
    let setup = c.args.config.now in
    let done = c.in_ok-legal.ensures in (
      c.in_ok-legal.legal,
      has_timed_document setup (g.R.Read.remaining c.args.reader.now) (g.E.Read.remaining c.args.events.now)
          c.in_ok-held.held c.in_ok-told.told.items c.in_ok-legal.legal
          (AppendsProperPrefix (g.W.Write.contents c.args.writer.now)
          (g.W.Write.contents c.write_bytes.new.writer))
          c.in_ok-held.ensures.held c.in_ok-told.ensures.read
          done.0 done.1 done.2 done.3
          done.4 (subst (λ es. HasDrawnByTime setup (audit_of c.in_ok-held.held.journal) done.0 es done.4) c.deref.ensures.value done.5)
          c.as_bytes.result.now (subst (IsDocument done.4) (sym c.as_bytes.ensures.value) done.6)
          c.in_err-write_bytes.ensures.short,
    )

pub returns-clause-done : goal.returns-clause-done
returns-clause-done g c =
    let setup = c.args.config.now in
    let done = c.in_ok-legal.ensures in
    has_timed_document setup (g.R.Read.remaining c.args.reader.now) (g.E.Read.remaining c.args.events.now)
    c.in_ok-held.held c.in_ok-told.told.items c.in_ok-legal.legal
    (Appends (g.W.Write.contents c.args.writer.now)
    (g.W.Write.contents c.write_bytes.new.writer))
    c.in_ok-held.ensures.held c.in_ok-told.ensures.read
    done.0 done.1 done.2 done.3
    done.4 (subst (λ es. HasDrawnByTime setup (audit_of c.in_ok-held.held.journal) done.0 es done.4) c.deref.ensures.value done.5)
    c.as_bytes.result.now (subst (IsDocument done.4) (sym c.as_bytes.ensures.value) done.6)
    c.in_ok-write_bytes.ensures.ok
