use Rattle.std.proofs.Common.{◌∙◌, refl, sym}
use Rattle.std.specs.Io.KnownBytes.{Appends}
use Rattle.fy_lines.specs.Prefixes.{AppendsProperPrefix}
use Rattle.fy_verdict.specs.Found.{worst_of}
use Rattle.fy_verdict.proofs.Telling.{tells, worst_is_legal}
use Rattle.fy_verdict.proofs.engine.tell.Goals as goal

pub returns-clause-told : goal.returns-clause-told
returns-clause-told g c =
    tells c.args.outages.now.setup c.args.outages.now.journal (g.R.Read.remaining c.args.reader.now)
    (g.S.Spelling.spells c.args.form.now)
    (Appends (g.W.Write.contents c.args.writer.now) (g.W.Write.contents c.write_bytes.new.writer)) c.args.known
    c.in_ok-history.history c.in_ok-findings.findings c.in_ok-text.text.items c.worst_of.result
    c.in_ok-history.ensures.read c.in_ok-findings.ensures c.in_ok-text.ensures
    (rw (← c.deref.ensures.value) c.in_ok-write_bytes.ensures.ok) c.worst_of.ensures

pub returns-clause-legal : goal.returns-clause-legal
returns-clause-legal g c = λ is. worst_is_legal c.in_ok-findings.findings.counts (sym c.worst_of.ensures ∙ is)

pub returns-in_err-write_bytes-clause-front_out : goal.returns-in_err-write_bytes-clause-front_out
returns-in_err-write_bytes-clause-front_out g c = λ _. (
  worst_of c.in_ok-findings.findings.counts,
  tells c.args.outages.now.setup c.args.outages.now.journal (g.R.Read.remaining c.args.reader.now)
      (g.S.Spelling.spells c.args.form.now)
      (AppendsProperPrefix (g.W.Write.contents c.args.writer.now) (g.W.Write.contents c.write_bytes.new.writer))
      c.args.known c.in_ok-history.history c.in_ok-findings.findings c.in_ok-text.text.items
      (worst_of c.in_ok-findings.findings.counts) c.in_ok-history.ensures.read c.in_ok-findings.ensures
      c.in_ok-text.ensures (rw (← c.deref.ensures.value) c.in_err-write_bytes.ensures.short) refl,
)
