use Rattle.std.proofs.Common.{ap, refl, ◌∙◌}
use Rattle.std.specs.FinSet as sets
use Rattle.fy_locality.specs.Members.{members}
use Rattle.fy_locality.proofs.Merging.{merged_none, merged_one, merged_all, AreWords-or, members-or}
use Rattle.fy_locality.proofs.process_set.ProcSet.union.Goals as goal

pub loop-k-init : goal.loop-k-init
loop-k-init c = merged_none _ _ _ c.self.invariant.count

pub loop-k-preserved : goal.loop-k-preserved
loop-k-preserved c = merged_one _ _ _ _ _ _ c.loop-k-test.true c.loop-k.invariant refl

pub invariant_of-result : goal.invariant_of-result
invariant_of-result c = AreWords-or _ _ _ c.self.invariant c.other.invariant (merged_all _ _ _ _ _ c.loop-k-test.false c.loop-k.auto.k-end c.loop-k.invariant)

pub returns : goal.returns
returns c =
    members-or _ _ _ c.self.invariant c.other.invariant (merged_all _ _ _ _ _ c.loop-k-test.false c.loop-k.auto.k-end c.loop-k.invariant)
    ∙ ap (λ s. sets.union s (members c.other.inside.words)) c.self.view_is ∙ ap (λ s. sets.union c.args.self.now s) c.other.view_is
