use Rattle.std.proofs.Common.{◌∙◌, sym, refl, arith, get_or}
use Rattle.std.proofs.lemmas.Option.{slice_get-get_or}
use Rattle.fy_disk.specs.Disk.{empty_disk}
use Rattle.fy_cluster.proofs.Delivered.{is_held, is_down, payload_there, payload_is, stores, may_be_taken}
use Rattle.fy_cluster.proofs.machine.Machine.store.Goals as goal

pub returns-then-clogged : goal.returns-then-clogged
returns-then-clogged g c = is_held g.point c.args.message _ _ c.requires.0 c.requires.1.1.0 c.requires.1.1.1 (sym c.if-clogged.ensures)

pub returns-then-not-contains : goal.returns-then-not-contains
returns-then-not-contains g c = is_down g.point c.args.message c.args.rec c.args.to _ c.requires.0 c.requires.1.1.0 c.requires.1.1.1 (sym c.if-clogged.ensures) (sym c.if-not-contains.ensures)

pub unreachable-requires : goal.unreachable-requires
unreachable-requires g c = payload_there c.test_is_satisfaction.ensures g.point c.args.message c.args.rec c.args.to c.args.self.now c.requires.0 c.requires.1.0 c.requires.1.1.0 c.in_default.ensures

pub write_to-requires : goal.write_to-requires
write_to-requires g c = let a = c.requires.0.net.count in let b = c.requires.0.disks.count in let l = c.requires.1.1.1 in omega arith

pub take_out-requires : goal.take_out-requires
take_out-requires g c = may_be_taken c.args.self.now.net c.args.message _ c.requires.1.1.0 (sym c.if-clogged.ensures)

pub returns : goal.returns
returns g c =
    stores g.point c.args.message c.args.rec c.args.to c.args.self.now (get_or c.args.self.now.disks c.args.to.0 empty_disk) c.in_ok-payload.payload _ c.requires.0 c.requires.1.1.0 c.requires.1.1.1
    (sym c.if-clogged.ensures)
    (sym c.if-not-contains.ensures)
    (c.in_ok-payload.ensures ∙ payload_is g.point.before c.args.self.now.teams c.requires.0.teams c.args.rec c.in-Some.payload.now c.in-Some.ensures)
    (slice_get-get_or c.args.self.now.disks c.args.to.0 empty_disk (let a = c.requires.0.net.count in let b = c.requires.0.disks.count in let l = c.requires.1.1.1 in omega arith))
    refl
    refl
    refl
    c.take_out.ensures
    refl
    c.in_ok-write_to.ensures.written
