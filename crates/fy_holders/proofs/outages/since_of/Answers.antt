use Rattle.std.proofs.Common.{◌≡◌, ◌+◌, ◌∙◌, length, min, sym, ap, subst, arith}
use Rattle.fy_holders.specs.Blames.{IsToBlame}
use Rattle.fy_holders.specs.Turns.{IsLastSince}
use Rattle.fy_holders.proofs.outages.since_of.Goals.{in-Some, in_default}
use Rattle.fy_holders.proofs.Since.{IsSinceUpTo, since_none, since_in, since_out, since_set, since_blame}
use Rattle.fy_holders.proofs.outages.since_of.Goals as goal

pub loop-p-init : goal.loop-p-init
loop-p-init c = subst (IsSinceUpTo c.args.turns.now c.args.from c.args.end 0 c.args.end) (sym c.empty-destroyed.ensures) (since_none c.args.turns.now c.args.from c.args.end)

pub loop-p-preserved : goal.loop-p-preserved
loop-p-preserved c =
    let upto = c.loop-p.invariant in
    elim c.match-last_since.branch [
      | in-Some w ↦ subst (λ to. IsSinceUpTo c.args.turns.now c.args.from c.args.end (c.loop-p.p + 1) to c.match-last_since.destroyed) (sym (w.to-is ∙ w.min-to.ensures))
          (subst (IsSinceUpTo c.args.turns.now c.args.from c.args.end (c.loop-p.p + 1) (min c.loop-p.to w.in-Some.last)) (sym (w.destroyed-is ∙ w.put.ensures))
          (since_in c.args.turns.now c.args.from c.args.end c.loop-p.p c.loop-p.to w.in-Some.last c.loop-p.destroyed w.in-Some.ensures upto))
      | in_default w ↦ subst (λ to. IsSinceUpTo c.args.turns.now c.args.from c.args.end (c.loop-p.p + 1) to c.match-last_since.destroyed) (sym w.to-is)
          (subst (IsSinceUpTo c.args.turns.now c.args.from c.args.end (c.loop-p.p + 1) c.loop-p.to) (sym w.destroyed-is)
          (since_out c.args.turns.now c.args.from c.args.end c.loop-p.p c.loop-p.to c.loop-p.destroyed (subst (IsLastSince c.args.from c.args.end c.args.turns.now c.loop-p.p) w.in_default.is c.last_since.ensures) upto))
    ]

pub returns-clause-since : goal.returns-clause-since
returns-clause-since c = λ journal are last.
    let whole : c.loop-p.p ≡ length c.args.config.now.processes = omega (arith, ap length c.map.ensures) in
    let upto = subst (λ n. IsSinceUpTo c.args.turns.now c.args.from c.args.end n c.loop-p.to c.loop-p.destroyed) whole c.loop-p.invariant in
    let set = since_set c.args.config.now journal c.args.turns.now c.args.from c.args.end c.loop-p.to c.loop-p.destroyed are last upto in
    record {
      destroyed = set;
      blame = λ m low high. subst (IsToBlame c.args.config.now journal m) (sym c.blame_for-blame.ensures) (since_blame c.more_of_map_satisfies.ensures c.test_is_satisfaction.ensures c.args.config.now journal m c.loop-p.destroyed (set m low high));
    }
