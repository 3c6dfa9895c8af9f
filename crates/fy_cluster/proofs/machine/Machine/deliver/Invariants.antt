use Rattle.fy_cluster.proofs.machine.Machine.deliver.Given as goal

abbrev pub ghost-store : goal.ghost-store
ghost-store g a = g.point

abbrev pub ghost-mark : goal.ghost-mark
ghost-mark g a = g.point
