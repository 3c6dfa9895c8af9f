use Rattle.std.proofs.Common.{List, subst, sym}
use Rattle.fy_registers.specs.declared.operation.Operation.{Operation}
use Rattle.fy_registers.specs.Linear.{IsHistory}
use Rattle.fy_registers.specs.Evidence.{Judges}
use Rattle.fy_values.proofs.Numbering.{judges_values, is_history}
use Rattle.fy_values.proofs.judging.judge_values.Goals as goal

pub judge-requires : goal.judge-requires
judge-requires c = subst IsHistory (sym c.deref.ensures.value)
    (is_history c.args.operations.now c.in_ok-numbered.numbered.values.keys
    c.in_ok-numbered.numbered.operations.items c.in_ok-numbered.ensures c.requires)

pub returns : goal.returns
returns c = subst (Judges c.args.operations.now) (sym c.judgement_of.ensures)
    (judges_values c.args.operations.now c.in_ok-numbered.numbered.values.keys
    c.in_ok-numbered.numbered.operations.items c.in_ok-numbered.ensures c.in_ok-judgement.judgement
    (subst (λ (os : List Operation). Judges os c.in_ok-judgement.judgement) c.deref.ensures.value
    c.in_ok-judgement.ensures))
