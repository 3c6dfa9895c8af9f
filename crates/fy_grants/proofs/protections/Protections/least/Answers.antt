use Rattle.std.proofs.Common.{◌∙◌, ap, sym, subst}
use Rattle.std.specs.FinSet as sets
use Rattle.std.specs.Ordering.{nat_cmp}
use Rattle.fy_grants.proofs.Covering.{PassedOver, shielded, passed_over, noted_alone}
use Rattle.fy_grants.proofs.protections.Protections.least.Goals as goal

pub loop-p-preserved : goal.loop-p-preserved
loop-p-preserved c = passed_over c.loop-p.invariant c.in-Some.ensures.steps.1 (sym c.shields.ensures ∙ c.if-shields.false)

pub returns : goal.returns
returns c q member = c.loop-p.invariant.none_passes q member (ap (λ t. sets.contains t q) c.in-None.ensures.steps.0 ∙ sets.contains-empty nat_cmp q)

pub loop-p-init : goal.loop-p-init
loop-p-init c =
    subst (λ rest. PassedOver c.args.set.now rest (shielded c.args.self.now c.args.kinds)) (sym (c.into_iter-p-iterator.ensures.into_iter_gives ∙ c.iter-p-items.ensures ∙ c.intersection.ensures))
    (subst (λ all. PassedOver c.args.set.now (sets.intersection c.args.set.now c.self.inside.noted) (shielded all c.args.kinds)) c.self.view_is (noted_alone c.args.set.now c.self.inside.noted c.self.inside.kinds.items c.args.kinds c.self.invariant))
