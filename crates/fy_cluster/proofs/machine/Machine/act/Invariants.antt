use Rattle.fy_cluster.proofs.machine.Machine.act.Given as goal

abbrev pub ghost-kill : goal.ghost-kill
ghost-kill g a = g.point

abbrev pub ghost-clog : goal.ghost-clog
ghost-clog g a = g.point

abbrev pub ghost-unclog : goal.ghost-unclog
ghost-unclog g a = g.point

abbrev pub ghost-form : goal.ghost-form
ghost-form g a = g.point

abbrev pub ghost-begin : goal.ghost-begin
ghost-begin g a = g.point

abbrev pub ghost-deliver : goal.ghost-deliver
ghost-deliver g a = g.point

abbrev pub ghost-lose : goal.ghost-lose
ghost-lose g a = g.point

abbrev pub ghost-resend : goal.ghost-resend
ghost-resend g a = g.point

abbrev pub ghost-sync : goal.ghost-sync
ghost-sync g a = g.point

abbrev pub ghost-start : goal.ghost-start
ghost-start g a = g.point

abbrev pub ghost-tick : goal.ghost-tick
ghost-tick g a = g.point

abbrev pub ghost-give : goal.ghost-give
ghost-give g a = g.point

abbrev pub ghost-take : goal.ghost-take
ghost-take g a = g.point

abbrev pub ghost-protect : goal.ghost-protect
ghost-protect g a = g.point

abbrev pub ghost-unprotect : goal.ghost-unprotect
ghost-unprotect g a = g.point

abbrev pub ghost-copy_record : goal.ghost-copy_record
ghost-copy_record g a = g.point

abbrev pub ghost-replace : goal.ghost-replace
ghost-replace g a = g.point

abbrev pub ghost-heal : goal.ghost-heal
ghost-heal g a = g.point
