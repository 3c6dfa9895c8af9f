use Rattle.std.proofs.Common.{ap, ◌∙◌, ◌&&◌, not}
use Rattle.std.specs.FinSet as sets
use Rattle.fy_kinds.specs.Kinds.{has_all}
use Rattle.fy_grants.specs.Rights.{is_in_scope}
use Rattle.fy_grants.proofs.Covering.{and_true, out_by_either, covered_more}
use Rattle.fy_grants.proofs.scopes.left_uncovered.Goals as goal

pub loop-grant-init : goal.loop-grant-init
loop-grant-init c = λ q. and_true _

pub loop-grant-preserved : goal.loop-grant-preserved
loop-grant-preserved c = λ q.
    let grant = c.grant-item.result in
    c.without_granted-left.ensures q
    ∙ ap (λ b. b && not (has_all grant.kinds c.args.kinds && is_in_scope c.args.map.now grant.scope q)) (c.loop-grant.invariant q)
    ∙ out_by_either (sets.contains c.args.set.now q) _ _
    ∙ ap (λ b. sets.contains c.args.set.now q && not b) (covered_more c.args.map.now c.args.grants.now c.args.kinds q c.loop-grant.grant-index grant c.loop-grant-test.true c.grant-item.is)
