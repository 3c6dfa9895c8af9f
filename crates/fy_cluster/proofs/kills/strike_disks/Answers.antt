use Rattle.fy_cluster.proofs.Targets.{visits_below, visits_more, visits_all}
use Rattle.fy_cluster.proofs.kills.strike_disks.Goals as goal

pub loop-p-preserved : goal.loop-p-preserved
loop-p-preserved c =
    let least = c.in-Some.ensures.steps.0 in
    visits_more c.requires least c.in-Some.ensures.steps.1 c.strike_disk.ensures c.loop-p.invariant

pub strike_disk-requires : goal.strike_disk-requires
strike_disk-requires c = visits_below c.requires c.in-Some.ensures.steps.0 c.loop-p.invariant

pub returns : goal.returns
returns c = visits_all c.in-None.ensures.steps.0 c.loop-p.invariant
