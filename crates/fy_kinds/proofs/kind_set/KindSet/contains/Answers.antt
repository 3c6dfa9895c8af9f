use Rattle.std.proofs.Common.{◌∙◌}
use Rattle.fy_kinds.specs.Kinds.{has_all}
use Rattle.fy_kinds.proofs.MemberBits.{contains_is}
use Rattle.fy_kinds.proofs.kind_set.KindSet.contains.Goals as goal

pub returns : goal.returns
returns c = c.contains.ensures tt ∙ contains_is c.self.inside.bits.0 c.other.inside.bits.0 c.self.invariant c.other.invariant ∙ (λ i. has_all (c.self.view_is i) (c.other.view_is i))
