use Rattle.std.proofs.Common.{sym, subst}
use Rattle.std.specs.Prelude.{slice_set}
use Rattle.fy_grants.specs.Protections.{AreNoted}
use Rattle.fy_grants.proofs.Covering.{noted_more}
use Rattle.fy_grants.proofs.protections.Protections.put.Goals as goal

pub invariant_of-self : goal.invariant_of-self
invariant_of-self c =
    subst (AreNoted (slice_set c.self.inside.kinds.items c.args.p.0 c.args.kinds)) (sym c.put.ensures) (noted_more c.self.inside.kinds.items c.self.inside.noted c.args.p.0 c.args.kinds c.self.invariant)
