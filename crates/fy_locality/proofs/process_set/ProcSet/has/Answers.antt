use Rattle.std.proofs.Common.{sym, ap, ◌∙◌}
use Rattle.std.specs.FinSet as set
use Rattle.fy_locality.proofs.Words.{contains-test}
use Rattle.fy_locality.proofs.process_set.ProcSet.has.Goals as goal

pub returns : goal.returns
returns c = sym (contains-test _ _ c.self.invariant c.requires) ∙ ap (λ s. set.contains s c.args.p.0) c.self.view_is
