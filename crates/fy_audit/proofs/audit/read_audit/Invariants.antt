use Rattle.std.proofs.Common.{◌≡◌, length}
use Rattle.fy_audit.specs.Reading.{HasRead}
use Rattle.fy_audit.proofs.audit.read_audit.Given as goal

-- what was read are the entries of the journal so far
abbrev pub invariant-loop-reader : goal.invariant-loop-reader
invariant-loop-reader l = HasRead l.bytes l.journal.entries l.reader × (l.journal.version ≡ l.reader.version)

abbrev pub decreases-loop-reader : goal.decreases-loop-reader
decreases-loop-reader l = length l.reader.rest
