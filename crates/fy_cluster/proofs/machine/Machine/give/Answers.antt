use Rattle.std.proofs.Common.{Ok, Err}
use Rattle.fy_grants.specs.declared.book.BookFault.TheVariants.{NoMemory}
use Rattle.fy_cluster.proofs.Grants.{give_ok, give_err}
use Rattle.fy_cluster.proofs.Results.{told}
use Rattle.fy_cluster.proofs.machine.Machine.give.Goals as goal

pub returns-in-Ok : goal.returns-in-Ok
returns-in-Ok g c =
    give_ok c.grants_after_give.ensures.lists c.grants_after_give.ensures.actors g.point c.args.grant c.args.self.now c.give.new.self c.requires
    (told _ NoMemory (Ok c.in-Ok.field-0) c.in-Ok.ensures.refused c.in-Ok.ensures.memory)
    c.in-Ok.ensures.given

pub returns-in-Err : goal.returns-in-Err
returns-in-Err g c =
    rw c.reply_to_fault.ensures
    (give_err g.point c.args.grant c.args.self.now c.give.new.self c.in-Err.fault c.requires
    (told _ NoMemory (Err c.in-Err.fault) c.in-Err.ensures.refused c.in-Err.ensures.memory)
    c.in-Err.ensures.err)
