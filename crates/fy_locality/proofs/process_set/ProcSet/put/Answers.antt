use Rattle.std.proofs.Common.{ap, ◌∙◌}
use Rattle.std.specs.FinSet as sets
use Rattle.fy_locality.proofs.Words.{AreWords-with, members-with}
use Rattle.fy_locality.proofs.process_set.ProcSet.put.Goals as goal

pub invariant_of-self : goal.invariant_of-self
invariant_of-self c = AreWords-with _ _ c.self.invariant c.requires

pub returns : goal.returns
returns c = members-with _ _ c.self.invariant c.requires ∙ ap (λ s. sets.insert s c.args.p.0) c.self.view_is
