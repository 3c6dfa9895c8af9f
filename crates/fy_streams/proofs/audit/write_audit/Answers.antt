use Rattle.std.proofs.Common.{rules, ◌∙◌, ◌++◌, ◌+◌, drop, sym, ap, subst}
use Rattle.std.specs.List.{flat_map}
use Rattle.fy_lines.specs.Prefixes.{AppendsProperPrefix}
use Rattle.fy_audit.specs.AuditText.{entry_line, audit_text}
use Rattle.fy_streams.proofs.Moving.{moved_on, with_next}
use Rattle.fy_streams.proofs.audit.write_audit.Goals as goal

pub loop-entry-preserved : goal.loop-entry-preserved
loop-entry-preserved g c =
    let (done, appended, is) = c.loop-entry.invariant in
    let items = c.entries-entry-items.result.now in
    let i = c.loop-entry.entry-index in
    let item = c.entry-item.result in
    let line = entry_line item in
    let next =
    with_next (audit_text c.args.journal.now.version items) done c.loop-entry.buffer
    items i item c.loop-entry-test.true c.entry-item.is is in
    moved_on (g.W.Write.contents c.args.writer.now) (g.W.Write.contents c.loop-entry.writer)
    (g.W.Write.contents c.push.new.writer) done (c.loop-entry.buffer ++ line)
    c.push.new.self (audit_text c.args.journal.now.version items)
    (flat_map entry_line (drop (i + 1) items)) appended c.in_ok-push.ensures.ok next

pub returns-in_err-push-clause-short : goal.returns-in_err-push-clause-short
returns-in_err-push-clause-short g c =
    let (done, appended, is) = c.loop-entry.invariant in
    let items = c.entries-entry-items.result.now in
    let i = c.loop-entry.entry-index in
    let item = c.entry-item.result in
    let next =
    with_next (audit_text c.args.journal.now.version items) done c.loop-entry.buffer
    items i item c.loop-entry-test.true c.entry-item.is is in
    let short =
    c.short_after_whole.ensures (g.W.Write.contents c.args.writer.now)
    (g.W.Write.contents c.loop-entry.writer) (g.W.Write.contents c.push.new.writer) done
    (c.loop-entry.buffer ++ entry_line item) (flat_map entry_line (drop (i + 1) items))
    appended c.in_err-push.ensures.short in
    let told =
    subst
    (AppendsProperPrefix (g.W.Write.contents c.args.writer.now) (g.W.Write.contents c.push.new.writer))
    (sym next ∙ ap (audit_text c.args.journal.now.version) c.entries-entry-items.ensures) short in
    search rules

pub returns-in_err-flush-clause-short : goal.returns-in_err-flush-clause-short
returns-in_err-flush-clause-short g c =
    let (done, appended, is) = c.loop-entry.invariant in
    let items = c.entries-entry-items.result.now in
    let short =
    c.short_after_whole.ensures (g.W.Write.contents c.args.writer.now)
    (g.W.Write.contents c.loop-entry.writer) (g.W.Write.contents c.flush.new.writer) done
    c.loop-entry.buffer (flat_map entry_line (drop c.loop-entry.entry-index items))
    appended c.in_err-flush.ensures.short in
    let told =
    subst
    (AppendsProperPrefix (g.W.Write.contents c.args.writer.now) (g.W.Write.contents c.flush.new.writer))
    (sym is ∙ ap (audit_text c.args.journal.now.version) c.entries-entry-items.ensures) short in
    search rules
