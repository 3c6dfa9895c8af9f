use Rattle.std.proofs.Common.{◌≡◌, true}
use Rattle.fy_records.specs.Traces.{all_below}
use Rattle.fy_records.specs.Founds.{is_clear_of}
use Rattle.fy_records.proofs.disks.are_clear.Given as goal

abbrev pub invariant-loop-node : goal.invariant-loop-node
invariant-loop-node l = all_below l.node (is_clear_of l.extents l.founds) ≡ true
