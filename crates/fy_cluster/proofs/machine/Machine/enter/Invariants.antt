use Rattle.fy_cluster.proofs.machine.Machine.enter.Given as goal

abbrev pub ghost-reply : goal.ghost-reply
ghost-reply g a = g.point
