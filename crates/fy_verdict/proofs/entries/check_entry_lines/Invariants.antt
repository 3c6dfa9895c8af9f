use Rattle.fy_verdict.proofs.Wholes.{InOrderUpTo}
use Rattle.fy_verdict.proofs.entries.check_entry_lines.Given as goal

abbrev pub invariant-loop-entry : goal.invariant-loop-entry
invariant-loop-entry l = InOrderUpTo l.count l.entries l.entry-index l.last
