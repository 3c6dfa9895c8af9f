use Rattle.std.proofs.Common.{◌∙◌}
use Rattle.fy_net.proofs.Copies.{kept_copied}
use Rattle.fy_net.proofs.net.Net.try_copy.Goals as goal

pub invariant_of-result : goal.invariant_of-result
invariant_of-result c =
    kept_copied c.self.inside c.self.invariant c.in_ok-try_copy.field-0 c.in_ok-from_slice.field-0 c.in_ok-try_copy.ensures.pool c.in_ok-try_copy.ensures.like c.in_ok-try_copy.ensures.same
    (c.in_ok-from_slice.ensures.items ∙ c.deref.ensures.value) (c.in_ok-from_slice.ensures.len ∙ c.deref.ensures.len)
