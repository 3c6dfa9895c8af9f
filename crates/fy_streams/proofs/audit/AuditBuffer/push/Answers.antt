use Rattle.std.proofs.Common.{rules, []}
use Rattle.std.proofs.KnownBytes.{Appends-nil}
use Rattle.fy_spelling.specs.Values.{text_of}
use Rattle.fy_audit.specs.AuditText.{entry_line}
use Rattle.fy_streams.proofs.Moving.{stuck}
use Rattle.fy_streams.proofs.audit.AuditBuffer.push.Goals as goal

pub returns-in_err-flush_if_full-clause-short : goal.returns-in_err-flush_if_full-clause-short
returns-in_err-flush_if_full-clause-short g c =
    let before = g.W.Write.contents c.args.writer.now in
    let short =
    c.short_after_whole.ensures before before (g.W.Write.contents c.flush_if_full.new.writer) []
    c.args.self.now (entry_line c.args.entry.now) (Appends-nil before)
    c.in_err-flush_if_full.ensures.short in
    search rules

pub returns-in_err-push_entry_line-clause-short : goal.returns-in_err-push_entry_line-clause-short
returns-in_err-push_entry_line-clause-short g c =
    let short =
    stuck (g.W.Write.contents c.args.writer.now) (g.W.Write.contents c.flush_if_full.new.writer)
    c.args.self.now c.flush_if_full.new.self (text_of c.args.entry.now)
    c.in_ok-flush_if_full.ensures.ok in
    search rules
