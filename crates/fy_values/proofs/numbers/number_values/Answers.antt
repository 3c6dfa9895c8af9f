use Rattle.std.proofs.Common.{◌+◌, ◌≡◌, length, take, None, sym, subst, arith}
use Rattle.fy_registers.specs.declared.operation.Operation.{Operation}
use Rattle.fy_registers.specs.declared.operation.Act.TheVariants.{Write}
use Rattle.fy_values.specs.Values.{AreNumbered}
use Rattle.fy_values.proofs.Numbering.{numbered_more, numbered_all}
use Rattle.fy_values.proofs.numbers.number_values.Goals as goal

abbrev no_operation : Operation
no_operation = record { act = Write 0; began = 0; ended = None }

pub loop-operation-preserved : goal.loop-operation-preserved
loop-operation-preserved c =
    subst (λ numbered. AreNumbered (take (c.loop-operation.operation-index + 1) c.args.operations.now) c.number_act.new.values.keys numbered)
    (sym c.in_ok-push.ensures.items)
    (numbered_more c.args.operations.now c.loop-operation.operation-index no_operation c.loop-operation-test.true
    c.loop-operation.values.keys c.loop-operation.numbered.items c.loop-operation.invariant
    c.number_act.new.values.keys c.in_ok-act.act c.in_ok-act.ensures)

pub returns : goal.returns
returns c =
    let low = c.loop-operation-test.false in
    let high = c.loop-operation.auto.operation-index-end in
    let end : c.loop-operation.operation-index ≡ length c.args.operations.now = omega arith in
    numbered_all c.args.operations.now c.loop-operation.operation-index c.loop-operation.values.keys
    c.loop-operation.numbered.items end c.loop-operation.invariant
