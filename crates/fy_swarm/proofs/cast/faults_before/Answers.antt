use Rattle.std.proofs.Common.{arith, ◌∙◌, ◌+◌, ◌<◌, ap₂, length, sym}
use Rattle.fy_swarm.proofs.Playing.{fault_step}
use Rattle.fy_swarm.proofs.cast.faults_before.Goals as goal

pub loop-other-preserved : goal.loop-other-preserved
loop-other-preserved c =
    let within : c.loop-other.other < length c.args.config.now.roles = omega arith in
    let step = fault_step c.args.config.now.roles c.loop-other.other c.in-Some.role within
    (sym c.role.ensures ∙ c.in-Some.is) in
    (ap₂ (λ x y. x + y) c.loop-other.invariant.0 c.fault_count-count.ensures.count ∙ sym step, omega arith)
