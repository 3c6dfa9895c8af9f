use Rattle.std.proofs.Common.{Ok, Err}
use Rattle.fy_cluster.proofs.Times.{tick_step}
use Rattle.fy_cluster.proofs.machine.Machine.tick.Goals as goal

pub returns-in-Ok : goal.returns-in-Ok
returns-in-Ok g c = tick_step g.point c.args.ticks c.args.self.now c.advance.new.self (Ok c.in-Ok.now) c.requires c.in-Ok.ensures.refused c.in-Ok.ensures.passed

pub returns-in-Err : goal.returns-in-Err
returns-in-Err g c = tick_step g.point c.args.ticks c.args.self.now c.advance.new.self (Err c.in-Err.field-0) c.requires c.in-Err.ensures.refused c.in-Err.ensures.passed
