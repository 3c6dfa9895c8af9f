use Rattle.fy_spelling.proofs.ScannedLists.{HasRead}
use Rattle.fy_spelling.proofs.scan.lists.kinds.Given as goal

abbrev pub invariant-loop-kind : goal.invariant-loop-kind
invariant-loop-kind l = HasRead l.line l.found l.later l.rest l.kind-index
