use Rattle.std.proofs.Common.{Ok, Err}
use Rattle.fy_cluster.proofs.Losing.{lose_step}
use Rattle.fy_cluster.proofs.machine.Machine.lose.Goals as goal

pub returns-in-Ok : goal.returns-in-Ok
returns-in-Ok g c = lose_step g.point c.args.message c.args.self.now c.lose.new.self (Ok c.in-Ok.field-0) c.requires c.in-Ok.ensures.refused c.in-Ok.ensures.lost

pub returns-in-Err : goal.returns-in-Err
returns-in-Err g c = lose_step g.point c.args.message c.args.self.now c.lose.new.self (Err c.in-Err.field-0) c.requires c.in-Err.ensures.refused c.in-Err.ensures.lost
