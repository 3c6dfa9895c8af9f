use Rattle.std.proofs.Common.{ap, ◌∙◌}
use Rattle.std.specs.FinSet as sets
use Rattle.fy_locality.proofs.Words.{AreWords-without, members-without}
use Rattle.fy_locality.proofs.process_set.ProcSet.drop_one.Goals as goal

pub invariant_of-self : goal.invariant_of-self
invariant_of-self c = AreWords-without _ _ c.self.invariant c.requires

pub returns : goal.returns
returns c = members-without _ _ c.self.invariant c.requires ∙ ap (λ s. sets.remove s c.args.p.0) c.self.view_is
