use Rattle.std.proofs.Common.{◌<◌, ◌∙◌, ap, sym, subst}
use Rattle.fy_kinds.specs.Kinds.{set_of_bits, in_each}
use Rattle.fy_kinds.proofs.MemberBits.{and_is, and_small}
use Rattle.fy_kinds.proofs.kind_set.KindSet.intersection.Goals as goal

pub invariant_of-result : goal.invariant_of-result
invariant_of-result c = subst (λ n. n < 32) (sym (c.intersection.ensures tt)) (and_small _ _ c.self.invariant)

pub returns : goal.returns
returns c = ap set_of_bits (c.intersection.ensures tt) ∙ and_is c.self.inside.bits.0 c.other.inside.bits.0 ∙ (λ i. in_each (c.self.view_is i) (c.other.view_is i))
