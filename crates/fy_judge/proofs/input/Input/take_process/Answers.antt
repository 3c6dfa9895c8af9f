use Rattle.std.proofs.Common.{Some, Ok, Err, refl, sym, subst}
use Rattle.fy_judge.specs.declared.stop.JudgeFault.TheVariants.{Syntax}
use Rattle.fy_judge.specs.JudgeLines.{Input, process, Step, process_early, process_late, process_next}
use Rattle.fy_judge.specs.JudgeViews.{IfFault, process_fault_of}
use Rattle.std.proofs.lemmas.Result.{err_from_is_err_and}
use Rattle.fy_judge.proofs.InputLemmas.{settled, unrefused, process_refused, empty_list, full_list}
use Rattle.fy_judge.proofs.input.Input.take_process.Goals as goal

pub returns-then-is_empty-clause-refused : goal.returns-then-is_empty-clause-refused
returns-then-is_empty-clause-refused c = subst (λ i. Step i (Some (process c.args.locality)) (Err Syntax)) c.self.view_is (process_early c.args.locality (empty_list _ _ _ c.is_empty.ensures c.self.inside.policies.ok.0 c.if-is_empty.true))

pub returns-then-not-is_empty-clause-refused : goal.returns-then-not-is_empty-clause-refused
returns-then-not-is_empty-clause-refused c = subst (λ i. Step i (Some (process c.args.locality)) (Err Syntax)) c.self.view_is (process_late c.args.locality (full_list _ _ _ c.is_empty-2.ensures c.self.inside.asks.ok.0 c.if-not-is_empty.true))

pub returns-in_err-push-clause-refused : goal.returns-in_err-push-clause-refused
returns-in_err-push-clause-refused c =
    let p = err_from_is_err_and c.from_residual.result c.from_residual.ensures.1 in
    rw (p.1, p.2)
    (subst (λ i. IfFault (process_fault_of c.in_err-push.field-0.0) (λ fault. Step i (Some (process c.args.locality)) (Err fault))) c.self.view_is
    (process_refused (record { policies = c.self.inside.policies.items; processes = c.self.inside.map; asks = c.self.inside.asks.items }) c.args.locality c.in_err-push.field-0.0
    (full_list _ _ _ c.is_empty.ensures c.self.inside.policies.ok.0 c.if-is_empty.false) (empty_list _ _ _ c.is_empty-2.ensures c.self.inside.asks.ok.0 c.if-not-is_empty.false)
    (settled _ (Err c.in_err-push.field-0.0) c.in_err-push.ensures.refused c.in_err-push.ensures.memory c.in_err-push.field-0.0 refl)))

pub returns-clause-taken : goal.returns-clause-taken
returns-clause-taken c =
    let inside : Input = record { policies = c.self.inside.policies.items; processes = c.self.inside.map; asks = c.self.inside.asks.items } in
    subst (λ i. Step i (Some (process c.args.locality)) (Ok (record inside { processes = c.push.new.self }))) c.self.view_is
    (subst (λ ps. Step inside (Some (process c.args.locality)) (Ok (record inside { processes = ps }))) (sym c.in_ok-push.ensures.ok.1)
    (process_next c.args.locality (full_list _ _ _ c.is_empty.ensures c.self.inside.policies.ok.0 c.if-is_empty.false) (empty_list _ _ _ c.is_empty-2.ensures c.self.inside.asks.ok.0 c.if-not-is_empty.false)
    (unrefused _ (Ok c.in_ok-push.field-0) c.in_ok-push.ensures.refused c.in_ok-push.ensures.memory c.in_ok-push.field-0 refl)))
