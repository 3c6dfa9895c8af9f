use Rattle.std.proofs.Common.{◌<◌, sym, subst}
use Rattle.fy_cluster.proofs.Judged.{targets_below, unclogging, clogs_barred, clogs_changed}
use Rattle.fy_cluster.proofs.machine.Machine.unclog.Goals as goal

pub unclog_targets-requires : goal.unclog_targets-requires
unclog_targets-requires g c p member = subst (λ n. p < n) (sym c.requires.0.net.count) (targets_below c.requires.0 c.args.target.now c.in-Ok.targets c.in-Ok.ensures.targets p member)

pub returns-in-Ok : goal.returns-in-Ok
returns-in-Ok g c = clogs_changed c.in-Ok.targets (unclogging g.point c.args.target.now) c.requires.0 c.requires.1.1 c.in-Ok.ensures.rule c.in-Ok.ensures.targets c.unclog_targets.ensures

pub returns-in-Err : goal.returns-in-Err
returns-in-Err g c = clogs_barred (unclogging g.point c.args.target.now) c.requires.0 c.requires.1.1 c.in-Err.ensures.rule
