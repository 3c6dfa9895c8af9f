use Rattle.std.proofs.Common.{◌≡◌, ◌∙◌, length, ap, refl, arith}
use Rattle.fy_cluster.specs.Setup.{Setup}
use Rattle.fy_c.specs.Killable.{Killable}
use Rattle.fy_c.proofs.killable.killable.Goals as goal

pub returns-then-actor-actors : goal.returns-then-actor-actors
returns-then-actor-actors c =
    let known : c.actors.result ≡ length c.args.cluster.now.setup.roles =
    c.actors.ensures ∙ ap (λ (setup : Setup). length setup.roles) c.config-config.ensures in
    let past = c.if-actor-actors.true in
    Killable.stranger (omega arith) refl

pub returns-then-kinds-len : goal.returns-then-kinds-len
returns-then-kinds-len c =
    let known : c.actors.result ≡ length c.args.cluster.now.setup.roles =
    c.actors.ensures ∙ ap (λ (setup : Setup). length setup.roles) c.config-config.ensures in
    let there : c.len.result ≡ length c.args.cluster.now.setup.processes =
    c.len.ensures.count
    ∙ ap length (c.map.ensures ∙ ap (λ (setup : Setup). setup.processes) c.config-config.ensures) in
    let within = c.if-actor-actors.false in
    let few = c.if-kinds-len.true in
    Killable.short (omega arith) (omega arith) refl

pub returns : goal.returns
returns c =
    let known : c.actors.result ≡ length c.args.cluster.now.setup.roles =
    c.actors.ensures ∙ ap (λ (setup : Setup). length setup.roles) c.config-config.ensures in
    let there : c.len.result ≡ length c.args.cluster.now.setup.processes =
    c.len.ensures.count
    ∙ ap length (c.map.ensures ∙ ap (λ (setup : Setup). setup.processes) c.config-config.ensures) in
    let within = c.if-actor-actors.false in
    let enough = c.if-kinds-len.false in
    Killable.written (omega arith) (omega arith) c.write_hardest.ensures
