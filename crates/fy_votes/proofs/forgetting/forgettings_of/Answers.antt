use Rattle.std.proofs.Common.{◌≡◌, ◌+◌, ◌<◌, suc, length, take, sym, subst, ◌∙◌, arith}
use Rattle.std.specs.List.{AllZip}
use Rattle.fy_tolerance.proofs.Tolerating.{zips_on}
use Rattle.std.proofs.lemmas.Bool.{false≢true}
use Rattle.fy_votes.specs.Forgetting.{IsForgetting}
use Rattle.fy_policy.specs.Sat.{Sat}
use Rattle.fy_votes.proofs.Booked.{everyone_is, unmet}
use Rattle.fy_votes.proofs.forgetting.forgettings_of.Goals as goal

pub loop-index-preserved : goal.loop-index-preserved
loop-index-preserved c =
    let more : suc c.loop-index.index ≡ c.loop-index.index + 1 = omega arith in
    subst (λ n. AllZip (λ writes one. IsForgetting c.args.dead.now writes c.args.elections.now one) (take n c.args.dead.now.policies) c.push.new.self.items) more
    (zips_on (λ writes one. IsForgetting c.args.dead.now writes c.args.elections.now one) c.args.dead.now.policies c.loop-index.index c.loop-index.all.items c.push.new.self.items c.in_ok-forgetting_of.field-0
    (subst (λ ps. c.loop-index.index < length ps) c.requires.policies c.loop-index-test.true)
    c.loop-index.invariant c.in_ok-push.ensures.items c.in_ok-forgetting_of.ensures)

pub returns-then-not-satisfied : goal.returns-then-not-satisfied
returns-then-not-satisfied c =
    unmet c.args.map.now c.args.dead.now.processes c.args.elections.now c.everyone.result c.requires.map c.everyone.ensures
    (λ sat. false≢true (sym c.if-not-satisfied.true ∙ c.satisfied.ensures.satisfaction.1 sat))

pub forgetting_of-requires-clause-elections : goal.forgetting_of-requires-clause-elections
forgetting_of-requires-clause-elections c =
    subst (Sat c.args.map.now c.args.elections.now) (everyone_is c.args.map.now c.everyone.result c.everyone.ensures) (c.satisfied.ensures.satisfaction.0 c.if-not-satisfied.false)
