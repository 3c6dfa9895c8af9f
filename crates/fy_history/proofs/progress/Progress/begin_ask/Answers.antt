use Rattle.fy_history.proofs.progress.Progress.begin_ask.Goals as goal

pub returns-in-Write : goal.returns-in-Write
returns-in-Write c = rw c.in-Write.is c.begin_write.ensures
