use Rattle.std.proofs.Common.{◌∙◌}
use Rattle.fy_kinds.specs.Kinds.{has_some}
use Rattle.fy_kinds.proofs.MemberBits.{intersects_is}
use Rattle.fy_kinds.proofs.kind_set.KindSet.intersects.Goals as goal

pub returns : goal.returns
returns c = c.intersects.ensures tt ∙ intersects_is c.self.inside.bits.0 c.other.inside.bits.0 c.self.invariant c.other.invariant ∙ (λ i. has_some (c.self.view_is i) (c.other.view_is i))
