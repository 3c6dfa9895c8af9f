use Rattle.std.proofs.Common.{◌≡◌, ◌+◌, ◌<◌, suc, length, take, subst, arith}
use Rattle.std.specs.List.{AllZip}
use Rattle.fy_tolerance.specs.Bears.{IsTolerance}
use Rattle.fy_tolerance.proofs.Tolerating.{zips_on}
use Rattle.fy_tolerance.proofs.borne.tolerances_of.Goals as goal

pub loop-index-preserved : goal.loop-index-preserved
loop-index-preserved c =
    let more : suc c.loop-index.index ≡ c.loop-index.index + 1 = omega arith in
    subst (λ n. AllZip (λ policy one. IsTolerance c.args.dead.now policy c.args.loss one) (take n c.args.dead.now.policies) c.push.new.self.items) more
    (zips_on (λ policy one. IsTolerance c.args.dead.now policy c.args.loss one) c.args.dead.now.policies c.loop-index.index c.loop-index.tolerances.items c.push.new.self.items c.in_ok-tolerance_of.field-0
    (subst (λ ps. c.loop-index.index < length ps) c.requires.policies c.loop-index-test.true)
    c.loop-index.invariant c.in_ok-push.ensures.items c.in_ok-tolerance_of.ensures)
