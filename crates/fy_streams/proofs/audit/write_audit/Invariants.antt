use Rattle.std.proofs.Common.{◌≡◌, ℕ, List, ◌++◌, drop}
use Rattle.std.specs.List.{flat_map}
use Rattle.std.specs.Io.KnownBytes.{Appends}
use Rattle.fy_audit.specs.AuditText.{entry_line, audit_text}
use Rattle.fy_streams.proofs.audit.write_audit.Given as goal

abbrev pub invariant-loop-entry : goal.invariant-loop-entry
invariant-loop-entry g l =
    (done : List ℕ)
    × Appends (g.W.Write.contents l.fn.writer) (g.W.Write.contents l.writer) done
    × (audit_text l.journal.version l.entry-items
    ≡ done ++ (l.buffer ++ flat_map entry_line (drop l.entry-index l.entry-items)))
