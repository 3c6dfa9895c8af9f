use Rattle.std.proofs.Common.{◌<◌, length, subst, sym}
use Rattle.std.proofs.lemmas.List.Elements.{All-get_or}
use Rattle.fy_cluster.specs.declared.config.Protection.{Protection}
use Rattle.fy_cluster.proofs.Starting.{protected_next}
use Rattle.fy_cluster.proofs.opening.protect_all.Goals as goal

pub loop-protection-preserved : goal.loop-protection-preserved
loop-protection-preserved c =
    protected_next c.protections_after_change.ensures.kinds c.protections_after_change.ensures.processes c.members_together.ensures.either
    c.args.book.now c.loop-protection.book c.protect.new.self c.args.protections.now c.loop-protection.protection-index
    c.protection-item.result
    c.loop-protection-test.true
    c.protection-item.is
    (subst (λ (it : Protection). it.process.0 < length c.args.book.now.protections) (sym c.protection-item.is) (All-get_or (λ it. it.process.0 < length c.args.book.now.protections) c.args.protections.now c.loop-protection.protection-index c.protection-item.result c.loop-protection-test.true c.requires))
    c.protect.ensures
    c.loop-protection.invariant
