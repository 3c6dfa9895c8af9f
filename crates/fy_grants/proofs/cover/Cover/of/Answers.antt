use Rattle.std.proofs.Common.{ap, ◌∙◌, ◌||◌}
use Rattle.fy_kinds.specs.Kinds.{only}
use Rattle.fy_grants.specs.Rights.{is_granted}
use Rattle.fy_grants.proofs.Covered.{bare_covers_none}
use Rattle.fy_grants.proofs.Covering.{covered_more}
use Rattle.fy_grants.proofs.cover.Cover.of.Goals as goal

pub loop-grant-init : goal.loop-grant-init
loop-grant-init c = bare_covers_none _ c.bare-cover.ensures

pub loop-grant-preserved : goal.loop-grant-preserved
loop-grant-preserved c = λ deed p.
    c.add.ensures deed p
    ∙ ap (λ b. b || is_granted c.args.map.now c.grant-item.result (only deed) p) (c.loop-grant.invariant deed p)
    ∙ covered_more c.args.map.now c.args.grants.now (only deed) p c.loop-grant.grant-index c.grant-item.result c.loop-grant-test.true c.grant-item.is
