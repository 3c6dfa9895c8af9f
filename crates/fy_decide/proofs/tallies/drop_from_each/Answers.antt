use Rattle.std.proofs.Common.{◌++◌, add-one, map, set, take, drop, refl, sym, ap, ◌∙◌}
use Rattle.fy_decide.specs.Tallies.{without_all}
use Rattle.fy_decide.proofs.Tallying.{mapped-next, mapped-all}
use Rattle.fy_decide.proofs.tallies.drop_from_each.Goals as goal

pub loop-i-init : goal.loop-i-init
loop-i-init c = refl

pub loop-i-preserved : goal.loop-i-preserved
loop-i-preserved c =
    ap (set c.loop-i.tallies c.loop-i.i) c.drop_all.ensures
    ∙ mapped-next (without_all c.args.set.now) c.args.tallies.now c.loop-i.tallies c.loop-i.i c.index-tallies-i.result c.loop-i-test.true c.loop-i.invariant
    ∙ ap (λ n. map (without_all c.args.set.now) (take n c.args.tallies.now) ++ drop n c.args.tallies.now) (sym (add-one c.loop-i.i))

pub returns : goal.returns
returns c = c.loop-i.invariant ∙ mapped-all (without_all c.args.set.now) c.args.tallies.now c.loop-i.i c.loop-i-test.false
