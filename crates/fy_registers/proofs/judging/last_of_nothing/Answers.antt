use Rattle.std.proofs.Common.{true, false, ◌≡◌, ◌+◌, take, None, refl, sym, subst}
use Rattle.fy_registers.specs.declared.operation.Operation.{Operation}
use Rattle.fy_registers.specs.declared.operation.Act.TheVariants.{Write}
use Rattle.fy_registers.specs.Zones.{IsLastOfNothing}
use Rattle.fy_registers.proofs.Rows.{last_same, last_more}
use Rattle.fy_registers.proofs.judging.last_of_nothing.Goals as goal
use Rattle.fy_registers.proofs.judging.last_of_nothing.Goals.{then-found_nothing, else-found_nothing}

abbrev no_operation : Operation
no_operation = record { act = Write 0; began = 0; ended = None }

pub loop-operation-preserved : goal.loop-operation-preserved
loop-operation-preserved c =
    let h = c.args.operations.now in
    let i = c.loop-operation.operation-index in
    elim c.if-found_nothing.branch [
      | then-found_nothing w ↦ subst (λ last. IsLastOfNothing (take (i + 1) h) last) (sym w.last-is)
          (let found = w.if-found_nothing.ensures.0 refl in last_more h c.requires i no_operation c.loop-operation-test.true c.loop-operation.last c.loop-operation.invariant found.0 found.1)
      | else-found_nothing w ↦ subst (λ last. IsLastOfNothing (take (i + 1) h) last) (sym w.last-is)
          (last_same h c.requires i no_operation c.loop-operation-test.true c.loop-operation.last c.loop-operation.invariant (λ act ended. let no : false ≡ true = w.if-found_nothing.ensures.1 (act, ended) in let x : ⊥ = cc in x))
    ]
