use Rattle.std.proofs.Common.{rules, ◌≡◌, ◌+◌, max, Some, None, sym, ◌∙◌, arith}
use Rattle.std.proofs.lemmas.List.Elements.{Contains-get_or}
use Rattle.fy_registers.specs.declared.operation.Operation.{Operation}
use Rattle.fy_registers.specs.declared.operation.Act.TheVariants.{Write}
use Rattle.fy_registers.proofs.Histories.{room_more, room_ends, value_small}
use Rattle.fy_registers.proofs.zone.value_count.Goals as goal
use Rattle.fy_registers.proofs.zone.value_count.Goals.{in-Some, in_default}

abbrev no_operation : Operation
no_operation = record { act = Write 0; began = 0; ended = None }

pub loop-operation-preserved : goal.loop-operation-preserved
loop-operation-preserved c =
    let h = c.args.operations.now in
    let i = c.loop-operation.operation-index in
    elim c.match-value.branch [
      | in-Some w ↦
          let most : c.match-value.count ≡ max c.loop-operation.count (w.in-Some.value + 1) = w.count-is ∙ search (rules, w.max-count.ensures) in
          let value_is = sym c.value.ensures ∙ w.in-Some.is in
          let small = value_small h c.requires _ (Contains-get_or h i no_operation c.loop-operation-test.true) w.in-Some.value value_is in
          let few = c.loop-operation.invariant.1 in (
            room_more h i no_operation c.loop-operation-test.true c.loop-operation.count c.match-value.count c.loop-operation.invariant.0 (omega arith)
                (λ v e. let both : Some w.in-Some.value ≡ Some v = sym value_is ∙ e in let same : w.in-Some.value ≡ v = cc in omega arith),
            omega arith,
          )
      | in_default w ↦
          let few = c.loop-operation.invariant.1 in (
            room_more h i no_operation c.loop-operation-test.true c.loop-operation.count c.match-value.count c.loop-operation.invariant.0 (omega arith)
                (λ v e. let never : None ≡ Some v = sym w.in_default.is ∙ c.value.ensures ∙ e in let x : ⊥ = cc in absurd x),
            omega arith,
          )
    ]

pub returns-clause-room : goal.returns-clause-room
returns-clause-room c = room_ends c.args.operations.now c.loop-operation.operation-index c.loop-operation.count (omega arith) c.loop-operation.invariant.0
