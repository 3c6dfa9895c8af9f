use Rattle.std.proofs.Common.{rules, ◌≡◌, length, None, subst, arith}
use Rattle.fy_registers.proofs.Repeating.{AreAlone, value_below, twice_found, alone_same, alone_none, alone_other, alone_ends}
use Rattle.fy_registers.specs.declared.operation.Operation.{Operation}
use Rattle.fy_registers.specs.declared.operation.Act.TheVariants.{Write}
use Rattle.fy_registers.specs.declared.zone.Seen.{Seen}
use Rattle.fy_registers.proofs.zone.repeated.Goals as goal
use Rattle.fy_registers.proofs.zone.repeated.Goals.{in-Write+in-Some+else-ne, in-Write+in_default-write, in_default}

abbrev no_operation : Operation
no_operation = record { act = Write 0; began = 0; ended = None }

abbrev no_seen : Seen
no_seen = record { write = None; ended = None }

pub bounds : goal.bounds
bounds c = value_below c.args.operations.now c.args.table.now c.requires c.loop-operation.operation-index no_operation c.loop-operation-test.true c.in-Write.value c.in-Write.is

pub returns-then-ne-clause-found : goal.returns-then-ne-clause-found
returns-then-ne-clause-found c =
    twice_found c.args.operations.now c.args.table.now c.requires c.loop-operation.operation-index no_operation c.loop-operation-test.true c.in-Write.value c.in-Write.is
    no_seen c.in-Some.write c.in-Some.is (search (rules, c.if-ne.ensures))

pub loop-operation-preserved : goal.loop-operation-preserved
loop-operation-preserved c = elim c.match-operation.branch [
  | in-Write+in-Some+else-ne w ↦ alone_same c.args.operations.now c.args.table.now c.requires c.loop-operation.operation-index no_operation c.loop-operation-test.true w.in-Write.value w.in-Write.is
      no_seen w.in-Some.write w.in-Some.is (search (rules, w.if-ne.ensures)) c.loop-operation.invariant
  | in-Write+in_default-write w ↦ alone_none c.args.operations.now c.args.table.now c.requires c.loop-operation.operation-index no_operation c.loop-operation-test.true w.in-Write.value w.in-Write.is
      no_seen w.in_default-write.is c.loop-operation.invariant
  | in_default w ↦ alone_other c.args.operations.now c.args.table.now c.loop-operation.operation-index no_operation c.loop-operation-test.true w.in_default.not-Write c.loop-operation.invariant
]

pub returns-clause-none : goal.returns-clause-none
returns-clause-none c =
    alone_ends c.args.operations.now c.args.table.now no_seen (subst (λ i. AreAlone c.args.operations.now i c.args.table.now) (let same : c.loop-operation.operation-index ≡ length c.args.operations.now = omega arith in same) c.loop-operation.invariant)
