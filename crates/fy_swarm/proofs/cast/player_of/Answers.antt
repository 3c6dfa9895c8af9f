use Rattle.std.proofs.Common.{arith, ◌≡◌, ◌∙◌, ◌%◌, sym, ap, subst}
use Rattle.std.specs.Prelude.{Some}
use Rattle.fy_swarm.specs.Swarm.{Plays}
use Rattle.fy_swarm.proofs.Casting.{plays_storage, plays_swizzle, plays_attrition}
use Rattle.fy_swarm.proofs.cast.player_of.Goals as goal

pub returns-in_ok-storage-in-Storage : goal.returns-in_ok-storage-in-Storage
returns-in_ok-storage-in-Storage c =
    plays_storage c.args.config.now c.args.seed c.args.actor c.map-map.result.now
    c.in_ok-storage-in-Storage.field-0 c.map-map.ensures
    (sym c.role.ensures ∙ c.in-Some.is ∙ ap Some c.in-Storage.is)
    c.in_ok-storage-in-Storage.ensures

pub returns-in-Operator : goal.returns-in-Operator
returns-in-Operator c =
    Plays.rests (sym c.role.ensures ∙ c.in-Some.is ∙ ap Some c.in-Operator.is)

pub returns-in_ok-swizzle-in-Fault : goal.returns-in_ok-swizzle-in-Fault
returns-in_ok-swizzle-in-Fault c =
    plays_swizzle c.args.config.now c.args.seed c.args.actor c.map-map.result.now
    c.in_ok-swizzle-in-Fault.field-0 c.map-map.ensures
    (sym c.role.ensures ∙ c.in-Some.is ∙ ap Some c.in-Fault.is)
    (subst (λ n. n % 2 ≡ 0) c.faults_before.ensures c.if-faults_before-eq0.true)
    c.in_ok-swizzle-in-Fault.ensures

pub returns-in_ok-attrition-in-Fault : goal.returns-in_ok-attrition-in-Fault
returns-in_ok-attrition-in-Fault c =
    let odd : c.faults_before.result % 2 ≡ 1 = omega arith in
    plays_attrition c.args.config.now c.args.seed c.args.actor c.map-map.result.now
    c.in_ok-attrition-in-Fault.field-0 c.map-map.ensures
    (sym c.role.ensures ∙ c.in-Some.is ∙ ap Some c.in-Fault.is)
    (subst (λ n. n % 2 ≡ 1) c.faults_before.ensures odd)
    c.in_ok-attrition-in-Fault.ensures
