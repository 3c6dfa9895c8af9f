use Rattle.std.proofs.Common.{Some, Ok, Err, refl, sym, subst}
use Rattle.fy_judge.specs.declared.stop.JudgeFault.TheVariants.{Syntax, Unknown}
use Rattle.fy_judge.specs.JudgeLines.{Input, ask, Step, ask_early, ask_unknown, ask_next}
use Rattle.std.proofs.lemmas.Result.{err_from_is_err_and}
use Rattle.fy_judge.proofs.InputLemmas.{untrue, missing}
use Rattle.fy_judge.proofs.input.Input.take_ask.Goals as goal

pub returns-then-is_empty-clause-refused : goal.returns-then-is_empty-clause-refused
returns-then-is_empty-clause-refused c = subst (λ i. Step i (Some (ask c.args.loss c.args.id)) (Err Syntax)) c.self.view_is (ask_early c.args.loss c.args.id (c.is_empty.ensures.0 c.if-is_empty.true))

pub returns-in_err-process-clause-refused : goal.returns-in_err-process-clause-refused
returns-in_err-process-clause-refused c =
    let p = err_from_is_err_and c.from_residual.result c.from_residual.ensures.1 in
    let m = missing c.find.result (Err c.in_err-process.field-0.0) Unknown c.in_err-process.field-0.0 c.in_err-process.ensures.value refl in
    rw (p.1, p.2)
    (subst (λ fault. Step c.args.self.now (Some (ask c.args.loss c.args.id)) (Err fault)) (sym m.1)
    (subst (λ i. Step i (Some (ask c.args.loss c.args.id)) (Err Unknown)) c.self.view_is
    (ask_unknown c.args.loss c.args.id (λ none. untrue _ c.if-is_empty.false (c.is_empty.ensures.1 none)) (rw m.0 at c.find.ensures.missing))))

pub returns-clause-taken : goal.returns-clause-taken
returns-clause-taken c =
    let inside : Input = record { policies = c.self.inside.policies.items; processes = c.self.inside.map; asks = c.self.inside.asks.items } in
    subst (λ i. Step i (Some (ask c.args.loss c.args.id)) (Ok (record inside { asks = c.push.new.self.items }))) c.self.view_is
    (subst (λ asks. Step inside (Some (ask c.args.loss c.args.id)) (Ok (record inside { asks = asks }))) (sym c.in_ok-push.ensures.items)
    (ask_next c.args.loss c.args.id c.in_ok-process.process.0 (λ none. untrue _ c.if-is_empty.false (c.is_empty.ensures.1 none)) (rw c.in_ok-process.ensures.ok_part at c.find.ensures.found)))
