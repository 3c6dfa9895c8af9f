use Rattle.std.proofs.Common.{Ok, Err}
use Rattle.fy_cluster.proofs.Grants.{take_ok, take_err}
use Rattle.fy_cluster.proofs.Results.{told_all}
use Rattle.fy_cluster.proofs.machine.Machine.take.Goals as goal

pub returns-in-Ok : goal.returns-in-Ok
returns-in-Ok g c =
    take_ok c.grants_after_take.ensures.lists c.grants_after_take.ensures.actors g.point c.args.actor c.args.index c.args.self.now c.take.new.self c.requires
    (told_all _ (Ok c.in-Ok.field-0) c.in-Ok.ensures.refused c.in-Ok.ensures.accepted)
    c.in-Ok.ensures.taken

pub returns-in-Err : goal.returns-in-Err
returns-in-Err g c =
    rw c.reply_to_fault.ensures
    (take_err g.point c.args.actor c.args.index c.args.self.now c.take.new.self c.in-Err.fault c.requires
    (told_all _ (Err c.in-Err.fault) c.in-Err.ensures.refused c.in-Err.ensures.accepted)
    c.in-Err.ensures.err)
