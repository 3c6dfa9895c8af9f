use Rattle.fy_registers.proofs.Splitting.{SplitSoFar}
use Rattle.fy_registers.proofs.keyed.split_by_key.Given as goal

-- each part has the operations of its key so far
abbrev pub invariant-loop-keyed : goal.invariant-loop-keyed
invariant-loop-keyed l = SplitSoFar l.operations l.keyed-index l.count l.parts.items
