use Rattle.std.proofs.Common.{◌≡◌, ◌<◌, length, ap, subst, ◌∙◌, arith}
use Rattle.fy_cluster.specs.Setup.{Setup}
use Rattle.fy_c.specs.KillingProcess.{GivenProcess, AreKindsOn}
use Rattle.fy_c.proofs.Processes.{judges_process}
use Rattle.fy_c.proofs.killing_process.judge_process.Goals as goal

pub unreachable-requires : goal.unreachable-requires
unreachable-requires c =
    let same : c.map.result.now ≡ c.args.cluster.now.setup.processes =
    c.map.ensures ∙ ap (λ (setup : Setup). setup.processes) c.config.ensures in
    let small : c.args.process < length c.args.cluster.now.setup.processes =
    subst (λ processes. c.args.process < length processes) same
    (c.in_ok-kind.ensures.given 0).process in
    let large = c.judge_process.ensures.none.1 c.in_default.is in
    omega arith

pub returns-clause-replied : goal.returns-clause-replied
returns-clause-replied c =
    let given : GivenProcess = record {
      process = c.args.process;
      kind = c.args.kind;
      floor = c.args.floor;
      tear = 0;
    } in
    let same : c.map.result.now ≡ c.args.cluster.now.setup.processes =
    c.map.ensures ∙ ap (λ (setup : Setup). setup.processes) c.config.ensures in
    judges_process c.args.cluster.now c.args.actor given c.in_ok-kind.kind c.in_ok-kind.floor
    c.in-Some.reply
    (subst (λ processes. AreKindsOn processes given c.in_ok-kind.kind c.in_ok-kind.floor) same
    (c.in_ok-kind.ensures.given 0))
    c.in_ok-kind.ensures.ordered c.in-Some.ensures.some
