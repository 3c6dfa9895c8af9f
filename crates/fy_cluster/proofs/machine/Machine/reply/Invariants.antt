use Rattle.fy_cluster.proofs.machine.Machine.reply.Given as goal

abbrev pub ghost-act : goal.ghost-act
ghost-act g a = g.point
