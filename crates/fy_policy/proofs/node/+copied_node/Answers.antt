use Rattle.std.proofs.Common.{sym, subst, ◌∙◌}
use Rattle.fy_policy.specs.Counted.{CountsAlike}
use Rattle.fy_policy.proofs.Copies.{one_alike, across_alike, both_alike}
use Rattle.fy_policy.proofs.node.+copied_node.Goals as goal

pub returns-in_ok-counts-in-One : goal.returns-in_ok-counts-in-One
returns-in_ok-counts-in-One t c =
    one_alike c.args.node.now c.in-One.counts c.in_ok-counts-in-One.counts c.in-One.is (c.in_ok-counts-in-One.ensures.items ∙ c.deref.ensures.value)

pub returns-in_ok-inner-in-Across-2 : goal.returns-in_ok-inner-in-Across-2
returns-in_ok-inner-in-Across-2 t c =
    across_alike c.args.node.now c.in-Across.wanted c.in-Across.key c.in-Across.places c.in-Across.counts c.in_ok-places-in-Across.places c.in_ok-counts-in-Across.counts c.in-Across.inner c.in_ok-inner-in-Across-2.inner c.in-Across.is
    (c.in_ok-places-in-Across.ensures.items ∙ c.deref-in-Across.ensures.value)
    (c.in_ok-counts-in-Across.ensures.items ∙ c.deref-in-Across-2.ensures.value)
    (subst (λ n. CountsAlike n c.in_ok-inner-in-Across-2.inner.value) c.deref-in-Across-3.ensures
    (subst (CountsAlike c.deref-in-Across-3.result.now) (sym c.in_ok-inner-in-Across-2.ensures.ok) c.in_ok-inner-in-Across.ensures))

pub returns-in_ok-second-in-Both-2 : goal.returns-in_ok-second-in-Both-2
returns-in_ok-second-in-Both-2 t c =
    both_alike c.args.node.now c.in-Both.first c.in-Both.second c.in_ok-first-in-Both-2.first c.in_ok-second-in-Both-2.second c.in-Both.is
    (subst (λ n. CountsAlike n c.in_ok-first-in-Both-2.first.value) c.deref-in-Both.ensures
    (subst (CountsAlike c.deref-in-Both.result.now) (sym c.in_ok-first-in-Both-2.ensures.ok) c.in_ok-first-in-Both.ensures))
    (subst (λ n. CountsAlike n c.in_ok-second-in-Both-2.second.value) c.deref-in-Both-2.ensures
    (subst (CountsAlike c.deref-in-Both-2.result.now) (sym c.in_ok-second-in-Both-2.ensures.ok) c.in_ok-second-in-Both.ensures))
