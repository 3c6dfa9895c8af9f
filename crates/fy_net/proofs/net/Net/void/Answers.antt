use Rattle.fy_net.proofs.Keeping.{kept_voided}
use Rattle.fy_net.proofs.net.Net.void.Goals as goal

pub invariant_of-self : goal.invariant_of-self
invariant_of-self c = kept_voided c.self.inside c.self.invariant c.void.new.self c.void.ensures.pool c.args.p.0 c.void.ensures.like c.void.ensures.there
