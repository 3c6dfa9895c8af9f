use Rattle.std.proofs.Common.{true, false, ap, sym, ◌∙◌, arith}
use Rattle.std.specs.FinSet as sets
use Rattle.fy_cluster.proofs.Starts.{past_processes, within_processes, left_tells, up_tells}
use Rattle.fy_cluster.proofs.Needed.{needed_is, member_is}
use Rattle.fy_cluster.proofs.Healed.{nobody_to_heal, gone_to_heal, not_destroyed, down_to_heal, needs_to_heal, heals_now}
use Rattle.fy_cluster.proofs.machine.Machine.heal.Goals as goal

pub returns-then-process-len : goal.returns-then-process-len
returns-then-process-len g c = nobody_to_heal g.point c.args.process _ c.requires.0 (past_processes g.point.setup c.args.map.now c.args.process.0 c.requires.1 (omega arith))

pub returns-then-not-contains : goal.returns-then-not-contains
returns-then-not-contains g c =
    let there = within_processes g.point.setup c.args.map.now c.args.process.0 c.requires.1 (omega arith) in
    gone_to_heal g.point c.args.process _ c.requires.0 there.0
    (left_tells g.point _ c.requires.0 c.args.process.0 there.1 c.left.result c.left.ensures.left false c.contains.result c.contains.ensures c.if-not-contains.true)

pub returns-then-not-contains-2 : goal.returns-then-not-contains-2
returns-then-not-contains-2 g c =
    let there = within_processes g.point.setup c.args.map.now c.args.process.0 c.requires.1 (omega arith) in
    not_destroyed g.point c.args.process _ c.requires.0 there.0
    (left_tells g.point _ c.requires.0 c.args.process.0 there.1 c.left.result c.left.ensures.left true c.contains.result c.contains.ensures c.if-not-contains.false)
    (sym (c.requires.0.dead.destroyed c.args.process.0) ∙ ap (λ s. sets.contains s c.args.process.0) (sym c.destroyed.ensures.destroyed) ∙ sym c.contains-2.ensures ∙ c.if-not-contains-2.true)

pub returns-then-not-contains-3 : goal.returns-then-not-contains-3
returns-then-not-contains-3 g c =
    let there = within_processes g.point.setup c.args.map.now c.args.process.0 c.requires.1 (omega arith) in
    down_to_heal g.point c.args.process _ c.requires.0 there.0
    (left_tells g.point _ c.requires.0 c.args.process.0 there.1 c.left.result c.left.ensures.left true c.contains.result c.contains.ensures c.if-not-contains.false)
    (sym (c.requires.0.dead.destroyed c.args.process.0) ∙ ap (λ s. sets.contains s c.args.process.0) (sym c.destroyed.ensures.destroyed) ∙ sym c.contains-2.ensures ∙ c.if-not-contains-2.false)
    (up_tells g.point _ c.requires.0 c.args.process.0 there.1 false c.contains-3.result c.contains-3.ensures c.if-not-contains-3.true)

pub returns-in-Some : goal.returns-in-Some
returns-in-Some g c =
    let there = within_processes g.point.setup c.args.map.now c.args.process.0 c.requires.1 (omega arith) in
    needs_to_heal g.point c.args.process c.in-Some.rec _ c.requires.0 there.0
    (left_tells g.point _ c.requires.0 c.args.process.0 there.1 c.left.result c.left.ensures.left true c.contains.result c.contains.ensures c.if-not-contains.false)
    (sym (c.requires.0.dead.destroyed c.args.process.0) ∙ ap (λ s. sets.contains s c.args.process.0) (sym c.destroyed.ensures.destroyed) ∙ sym c.contains-2.ensures ∙ c.if-not-contains-2.false)
    (up_tells g.point _ c.requires.0 c.args.process.0 there.1 true c.contains-3.result c.contains-3.ensures c.if-not-contains-3.false)
    (c.in-Some.ensures ∙ needed_is g.point.setup g.point.before c.args.self.now c.requires.0 c.args.process.0 there.1 _ _ (member_is g.point.before c.args.self.now c.requires.0.teams c.args.process.0))

pub returns : goal.returns
returns g c =
    let there = within_processes g.point.setup c.args.map.now c.args.process.0 c.requires.1 (omega arith) in
    rw (c.heal.ensures, c.void.ensures, c.heal-2.ensures)
    (heals_now c.a_heal_takes_marks_off.ensures.marks c.a_heal_takes_marks_off.ensures.acked g.point c.args.process c.args.self.now c.requires.0 there.0
    (left_tells g.point _ c.requires.0 c.args.process.0 there.1 c.left.result c.left.ensures.left true c.contains.result c.contains.ensures c.if-not-contains.false)
    (sym (c.requires.0.dead.destroyed c.args.process.0) ∙ ap (λ s. sets.contains s c.args.process.0) (sym c.destroyed.ensures.destroyed) ∙ sym c.contains-2.ensures ∙ c.if-not-contains-2.false)
    (up_tells g.point _ c.requires.0 c.args.process.0 there.1 true c.contains-3.result c.contains-3.ensures c.if-not-contains-3.false)
    (c.in_default.ensures ∙ needed_is g.point.setup g.point.before c.args.self.now c.requires.0 c.args.process.0 there.1 _ _ (member_is g.point.before c.args.self.now c.requires.0.teams c.args.process.0)))
