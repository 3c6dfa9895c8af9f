use Rattle.std.proofs.Common.{◌≡◌, ◌+◌, suc, take, subst, ◌∙◌, arith}
use Rattle.std.specs.List.{AllZip}
use Rattle.std.proofs.lemmas.Option.{get_or_from_slice_get}
use Rattle.fy_policy.specs.Tree.{Tree}
use Rattle.fy_tolerance.proofs.Tolerating.{zips_on}
use Rattle.fy_votes.specs.Forgetting.{AreForgettings}
use Rattle.fy_votes.proofs.forgetting.forgettings_by_each.Goals as goal

pub loop-index-preserved : goal.loop-index-preserved
loop-index-preserved c =
    let more : suc c.loop-index.index ≡ c.loop-index.index + 1 = omega arith in
    subst (λ n. AllZip (AreForgettings c.args.dead.now) (take n c.args.elections.now) c.push.new.self.items) more
    (zips_on (AreForgettings c.args.dead.now) c.args.elections.now c.loop-index.index c.loop-index.found.items c.push.new.self.items c.in_ok-forgettings_of.field-0
    c.loop-index-test.true c.loop-index.invariant c.in_ok-push.ensures.items
    (λ policy at. subst (λ (t : Tree). AreForgettings c.args.dead.now t c.in_ok-forgettings_of.field-0) (c.index-elections-index.is ∙ get_or_from_slice_get c.args.elections.now c.loop-index.index policy c.index-elections-index.result at) c.in_ok-forgettings_of.ensures))
