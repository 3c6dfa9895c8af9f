use Rattle.std.proofs.Common.{◌<◌, ◌∙◌, ap, sym, subst}
use Rattle.fy_kinds.specs.Kinds.{set_of_bits, in_either}
use Rattle.fy_kinds.proofs.MemberBits.{or_is, or_small}
use Rattle.fy_kinds.proofs.kind_set.KindSet.union.Goals as goal

pub invariant_of-result : goal.invariant_of-result
invariant_of-result c = subst (λ n. n < 32) (sym (c.union.ensures tt)) (or_small _ _ c.self.invariant c.other.invariant)

pub returns : goal.returns
returns c = ap set_of_bits (c.union.ensures tt) ∙ or_is c.self.inside.bits.0 c.other.inside.bits.0 ∙ (λ i. in_either (c.self.view_is i) (c.other.view_is i))
