use Rattle.std.proofs.Common.{◌∙◌, sym, subst}
use Rattle.fy_audit.specs.Reading.{HasRead}
use Rattle.fy_audit.proofs.audit.read_audit.Goals as goal

pub loop-reader-preserved : goal.loop-reader-preserved
loop-reader-preserved c =
    let read = c.in_ok-entry.ensures.read in
    let entries = c.loop-reader.journal.entries in
    let more = c.an_audit_is_read_entry_by_entry.ensures.more c.args.bytes.now entries
    c.in_ok-entry.entry c.loop-reader.reader c.next_entry.new.self
    c.loop-reader.invariant.0 read in (
      subst (λ es. HasRead c.args.bytes.now es c.next_entry.new.self)
          (sym c.in_default.ensures.entries) more,
      c.enter.ensures.version ∙ c.loop-reader.invariant.1 ∙ sym read.version,
    )
