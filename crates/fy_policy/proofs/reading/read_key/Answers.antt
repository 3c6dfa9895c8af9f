use Rattle.std.proofs.Common.{arith}
use Rattle.fy_locality.specs.declared.key.Key.TheVariants.{Process, Machine, Zone, DataHall, DataCenter}
use Rattle.fy_policy.proofs.reading.read_key.Goals as goal

pub returns : goal.returns
returns c Process rest e = c.loop-key.invariant 0 Process (omega arith) rest e
returns c Machine rest e = c.loop-key.invariant 1 Process (omega arith) rest e
returns c Zone rest e = c.loop-key.invariant 2 Process (omega arith) rest e
returns c DataHall rest e = c.loop-key.invariant 3 Process (omega arith) rest e
returns c DataCenter rest e = c.loop-key.invariant 4 Process (omega arith) rest e
