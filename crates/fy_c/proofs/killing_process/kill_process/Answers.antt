use Rattle.std.proofs.Common.{◌≡◌, ap, refl, subst, ◌∙◌}
use Rattle.std.specs.Prelude.{Ok, Err}
use Rattle.std.proofs.lemmas.Result.{err_from_is_err_and}
use Rattle.fy_decide.specs.Verdicts.{NamesProcess}
use Rattle.fy_cluster.specs.Setup.{Setup}
use Rattle.fy_c.specs.Entering.{status_of}
use Rattle.fy_c.specs.Killing.{told_of, untold}
use Rattle.fy_c.specs.KillingProcess.{GivenProcess, IsOrderOn, NoOrderOn, KillsProcess}
use Rattle.fy_c.proofs.killing_process.kill_process.Goals as goal

pub returns-in_err-order-clause-failed : goal.returns-in_err-order-clause-failed
returns-in_err-order-clause-failed c =
    let given : GivenProcess = record {
      process = c.args.process;
      kind = c.args.kind;
      floor = c.args.floor;
      tear = c.args.tear;
    } in
    let p = err_from_is_err_and c.from_residual.result c.from_residual.ensures.1 in
    let status = c.in_err-order.field-0.0 in
    let same : c.map.result.now ≡ c.cluster.result.now.setup.processes =
    c.map.ensures ∙ ap (λ (setup : Setup). setup.processes) c.config.ensures in
    rw (p.1, p.2)
    (subst (λ old. KillsProcess old c.cluster.result.now c.args.actor given untold status)
    c.cluster.ensures.value
    (KillsProcess.not_given
    (subst (λ processes. NoOrderOn processes given status) same c.in_err-order.ensures.none) refl
    refl))

pub apply_kill-requires-clause-named : goal.apply_kill-requires-clause-named
apply_kill-requires-clause-named c =
    subst (λ processes. NamesProcess processes c.args.process c.in_ok-order.order)
    (c.map.ensures ∙ ap (λ (setup : Setup). setup.processes) c.config.ensures)
    c.in_ok-order.ensures.order.named

pub returns-in_err-apply_kill-clause-failed : goal.returns-in_err-apply_kill-clause-failed
returns-in_err-apply_kill-clause-failed c =
    let given : GivenProcess = record {
      process = c.args.process;
      kind = c.args.kind;
      floor = c.args.floor;
      tear = c.args.tear;
    } in
    let p = err_from_is_err_and c.from_residual-in_err-apply_kill.result
    c.from_residual-in_err-apply_kill.ensures.1 in
    let same : c.map.result.now ≡ c.cluster.result.now.setup.processes =
    c.map.ensures ∙ ap (λ (setup : Setup). setup.processes) c.config.ensures in
    let why = c.in_err-apply_kill.field-0.0 in
    rw (p.1, p.2)
    (subst
    (λ old. KillsProcess old c.apply_kill.new.guard.value c.args.actor given untold
    (status_of (Err why)))
    c.cluster.ensures.value
    (KillsProcess.killed c.in_ok-order.order
    (subst (λ processes. IsOrderOn processes given c.in_ok-order.order) same
    c.in_ok-order.ensures.order)
    (record {
      answer = Err why;
      applies = c.in_err-apply_kill.ensures.applied;
      status_is = refl;
      told_is = refl;
    })))

pub returns-clause-replied : goal.returns-clause-replied
returns-clause-replied c =
    let given : GivenProcess = record {
      process = c.args.process;
      kind = c.args.kind;
      floor = c.args.floor;
      tear = c.args.tear;
    } in
    let reply = c.in_ok-apply_kill.field-0 in
    let same : c.map.result.now ≡ c.cluster.result.now.setup.processes =
    c.map.ensures ∙ ap (λ (setup : Setup). setup.processes) c.config.ensures in
    subst
    (λ old. KillsProcess old c.apply_kill.new.guard.value c.args.actor given (told_of (Ok reply))
    (status_of (Ok reply)))
    c.cluster.ensures.value
    (KillsProcess.killed c.in_ok-order.order
    (subst (λ processes. IsOrderOn processes given c.in_ok-order.order) same
    c.in_ok-order.ensures.order)
    (record {
      answer = Ok reply;
      applies = c.in_ok-apply_kill.ensures.applied;
      status_is = refl;
      told_is = refl;
    }))
