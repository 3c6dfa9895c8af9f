use Rattle.std.proofs.Common.{◌∙◌, ap}
use Rattle.std.specs.FinSet as sets
use Rattle.fy_cluster.proofs.Seen.{sees}
use Rattle.fy_cluster.proofs.machine.Machine.sight.Goals as goal

pub returns : goal.returns
returns c setup h stands =
    sees setup h c.args.self.now c.with_unsynced.result.now c.intersection.result c.difference.result _ stands c.invariant.ensures c.now.ensures.time c.first_free.ensures.first
    c.with_unsynced.ensures
    c.intersection.ensures
    c.least.ensures.some
    c.least.ensures.none
    (c.difference.ensures ∙ ap (λ s. sets.difference s c.args.self.now.up) c.left.ensures.left)
    c.least-2.ensures.some
    c.least-2.ensures.none
