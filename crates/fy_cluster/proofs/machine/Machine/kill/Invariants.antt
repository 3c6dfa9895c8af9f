use Rattle.fy_cluster.proofs.machine.Machine.kill.Given as goal

abbrev pub ghost-strike : goal.ghost-strike
ghost-strike g a = g.point
