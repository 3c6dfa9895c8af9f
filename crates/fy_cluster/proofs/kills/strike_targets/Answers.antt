use Rattle.std.proofs.Common.{◌≡◌, true, ap, subst}
use Rattle.std.specs.FinSet as sets
use Rattle.fy_disk.specs.Disk.{empty_disk}
use Rattle.fy_decide.specs.Targets.{targeted}
use Rattle.fy_cluster.specs.Standing.{ChangesAt, disk_after_strike}
use Rattle.fy_cluster.proofs.Targets.{unchanged, passed_over, lone_changed, lone_member}
use Rattle.fy_cluster.proofs.kills.strike_targets.Goals as goal

pub returns-in-RebootProcess : goal.returns-in-RebootProcess
returns-in-RebootProcess c = unchanged (λ disk. ap (λ kind. disk_after_strike kind c.args.tear disk) c.in-RebootProcess.is)

pub strike_disk-requires : goal.strike_disk-requires
strike_disk-requires c = c.requires c.in-Some.p.0 (lone_member (targeted c.args.targets.now) c.in-Some.p.0 c.in-Some.ensures.alone)

pub returns-in-Some : goal.returns-in-Some
returns-in-Some c = lone_changed (targeted c.args.targets.now) c.in-Some.p.0 c.in-Some.ensures.alone (c.requires c.in-Some.p.0 (lone_member (targeted c.args.targets.now) c.in-Some.p.0 c.in-Some.ensures.alone)) c.strike_disk.ensures

pub strike_disks-requires : goal.strike_disks-requires
strike_disks-requires c = λ p member. c.requires p (subst (λ s. sets.contains s p ≡ true) c.set.ensures (c.changed_by-changed.ensures.within p member))

pub returns-in-None : goal.returns-in-None
returns-in-None c =
    subst (λ s. ChangesAt (sets.contains s) (disk_after_strike c.args.kind c.args.tear) empty_disk c.args.disks.now c.strike_disks.new.disks) c.set.ensures
    (passed_over c.changed_by-changed.ensures.within (λ p there out. c.changed_by-changed.ensures.same p c.args.tear there out) c.strike_disks.ensures)
