use Rattle.std.proofs.Common.{◌<◌, sym, subst}
use Rattle.fy_cluster.proofs.Judged.{targets_below, clogging, clogs_barred, clogs_changed}
use Rattle.fy_cluster.proofs.machine.Machine.clog.Goals as goal

pub clog_targets-requires : goal.clog_targets-requires
clog_targets-requires g c p member = subst (λ n. p < n) (sym c.requires.0.net.count) (targets_below c.requires.0 c.args.target.now c.in-Ok.targets c.in-Ok.ensures.targets p member)

pub returns-in-Ok : goal.returns-in-Ok
returns-in-Ok g c = clogs_changed c.in-Ok.targets (clogging g.point c.args.target.now c.args.ticks) c.requires.0 c.requires.1.1 c.in-Ok.ensures.rule c.in-Ok.ensures.targets c.clog_targets.ensures

pub returns-in-Err : goal.returns-in-Err
returns-in-Err g c = clogs_barred (clogging g.point c.args.target.now c.args.ticks) c.requires.0 c.requires.1.1 c.in-Err.ensures.rule
