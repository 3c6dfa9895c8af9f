use Rattle.std.proofs.Common.{◌+◌, None, sym, subst, ◌∙◌}
use Rattle.std.proofs.Common.{Vec, Global}
use Rattle.fy_registers.specs.declared.operation.Operation.{Operation}
use Rattle.fy_registers.specs.declared.operation.Act.TheVariants.{Write}
use Rattle.fy_registers.specs.declared.zone.Seen.{Seen}
use Rattle.fy_registers.proofs.Seeing.{SeenSoFar, seen_step, seen_same}
use Rattle.fy_registers.proofs.zone.seen_of.Goals as goal
use Rattle.fy_registers.proofs.zone.seen_of.Goals.{in-Some, in_default}

abbrev no_operation : Operation
no_operation = record { act = Write 0; began = 0; ended = None }

pub loop-operation-preserved : goal.loop-operation-preserved
loop-operation-preserved c =
    let h = c.args.operations.now in
    let i = c.loop-operation.operation-index in
    elim c.match-value.branch [
      | in-Some w ↦ subst (λ (t : Vec Seen Global). SeenSoFar h (i + 1) t.items) (sym w.table-is)
          (seen_step h c.requires i no_operation c.loop-operation-test.true c.loop-operation.table.items c.loop-operation.invariant w.in-Some.value
          (sym c.value.ensures ∙ w.in-Some.is) w.index-seen.result.now w.index-seen.ensures w.write_with.result w.write_with.ensures w.ended_with.result w.ended_with.ensures)
      | in_default w ↦ subst (λ (t : Vec Seen Global). SeenSoFar h (i + 1) t.items) (sym w.table-is)
          (seen_same h c.requires i no_operation c.loop-operation-test.true c.loop-operation.table.items c.loop-operation.invariant (sym c.value.ensures ∙ w.in_default.is))
    ]
