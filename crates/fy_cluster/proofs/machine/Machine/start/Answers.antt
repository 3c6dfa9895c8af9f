use Rattle.std.proofs.Common.{true, false, sym, ◌∙◌, ap, arith}
use Rattle.std.specs.FinSet as sets
use Rattle.fy_cluster.proofs.Starts.{nobody, is_gone, is_up, starts, past_processes, within_processes, gone_is}
use Rattle.fy_cluster.proofs.machine.Machine.start.Goals as goal

pub returns-then-process-len : goal.returns-then-process-len
returns-then-process-len g c = nobody g.point c.args.process _ c.requires.0 (past_processes g.point.setup c.args.map.now c.args.process.0 c.requires.1 (omega arith))

pub returns-then-not-contains : goal.returns-then-not-contains
returns-then-not-contains g c =
    let there = within_processes g.point.setup c.args.map.now c.args.process.0 c.requires.1 (omega arith) in
    is_gone g.point c.args.process _ c.requires.0 there.0
    (gone_is g.point.setup g.point.before c.args.process.0 false there.1
    (sym c.if-not-contains.true ∙ c.contains.ensures ∙ ap (λ s. sets.contains s c.args.process.0) c.left.ensures.left ∙ c.requires.0.dead.left c.args.process.0))

pub returns-then-contains : goal.returns-then-contains
returns-then-contains g c =
    let there = within_processes g.point.setup c.args.map.now c.args.process.0 c.requires.1 (omega arith) in
    is_up g.point c.args.process _ c.requires.0 there.0
    (gone_is g.point.setup g.point.before c.args.process.0 true there.1
    (sym c.if-not-contains.false ∙ c.contains.ensures ∙ ap (λ s. sets.contains s c.args.process.0) c.left.ensures.left ∙ c.requires.0.dead.left c.args.process.0))
    (sym (c.requires.0.up.each c.args.process.0 there.1) ∙ sym c.contains-2.ensures ∙ c.if-contains.true)

pub returns : goal.returns
returns g c =
    let there = within_processes g.point.setup c.args.map.now c.args.process.0 c.requires.1 (omega arith) in
    rw c.put.ensures
    (starts g.point c.args.process c.args.self.now c.requires.0 there.0
    (gone_is g.point.setup g.point.before c.args.process.0 true there.1
    (sym c.if-not-contains.false ∙ c.contains.ensures ∙ ap (λ s. sets.contains s c.args.process.0) c.left.ensures.left ∙ c.requires.0.dead.left c.args.process.0))
    (sym (c.requires.0.up.each c.args.process.0 there.1) ∙ sym c.contains-2.ensures ∙ c.if-contains.false))
