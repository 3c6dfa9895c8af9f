use Rattle.std.proofs.Common.{◌<◌, refl, sym, subst}
use Rattle.std.specs.FinSet as sets
use Rattle.fy_decide.specs.Verdicts.{situation_of}
use Rattle.fy_decide.specs.DeadBook.{MayLose}
use Rattle.fy_decide.specs.Targets.{targeted}
use Rattle.fy_disk.specs.Disk.{empty_disk}
use Rattle.fy_cluster.specs.Standing.{ChangesAt, disk_after_strike}
use Rattle.fy_cluster.proofs.Judged.{targets_below, spares, strikes_now, chosen}
use Rattle.fy_cluster.proofs.machine.Machine.strike.Goals as goal

pub returns-in_default : goal.returns-in_default
returns-in_default g c = spares c.args.order.now c.requires.0 c.requires.1.0 c.judge_targets-verdict.ensures c.in_default.is

pub strike_targets-requires : goal.strike_targets-requires
strike_targets-requires g c p member =
    subst (λ n. p < n) (sym c.requires.0.disks.count)
    (targets_below c.requires.0 c.args.order.now.target (targeted c.args.found.now) c.requires.1.1 p member)

pub record_losses-requires : goal.record_losses-requires
record_losses-requires g c loss brings =
    let dead = c.args.self.now.dead in
    subst (λ s. MayLose dead s loss)
    (λ i p. sym (c.requires.1.1 p) i)
    (c.struck_may_be_destroyed.ensures (situation_of dead c.args.self.now.book c.args.by) c.args.order.now c.in-Some.kind loss (chosen c.judge_targets-verdict.ensures c.in-Some.is) brings)

pub returns : goal.returns
returns g c =
    strikes_now c.args.order.now (targeted c.args.found.now) _ c.requires.0 c.requires.1.0 c.judge_targets-verdict.ensures c.in-Some.is
    c.requires.1.1
    (subst (λ t. ChangesAt (sets.contains (targeted c.args.found.now)) (disk_after_strike c.in-Some.kind t) empty_disk c.args.self.now.disks c.strike_targets.new.disks) c.tear.ensures c.strike_targets.ensures)
    c.drop_from.ensures
    c.record_losses.ensures
    refl
    refl
    refl
