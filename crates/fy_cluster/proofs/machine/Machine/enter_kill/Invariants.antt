use Rattle.fy_cluster.proofs.machine.Machine.enter_kill.Given as goal

abbrev pub ghost-kill_process : goal.ghost-kill_process
ghost-kill_process g a = g.point
