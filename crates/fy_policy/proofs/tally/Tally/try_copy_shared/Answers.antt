use Rattle.std.proofs.Common.{◌≡◌, ◌∙◌, sym, ap, subst}
use Rattle.fy_policy.specs.Counted.{IsTallied, Tallied}
use Rattle.fy_policy.proofs.Copies.{tallied_alike}
use Rattle.fy_policy.proofs.tally.Tally.try_copy_shared.Goals as goal

pub invariant_of-result : goal.invariant_of-result
invariant_of-result c =
    let inside = c.self.inside in
    let over : c.args.map.now.value ≡ inside.map.value = c.requires ∙ sym (ap (λ (t : Tallied). t.processes) c.self.view_is) in
    subst (λ m. IsTallied m inside.everyone c.in_ok-try_copy.field-0 inside.set c.in_ok-copied_node.field-0) (sym (c.in_ok-try_clone.ensures ∙ over))
    (subst (λ q. IsTallied inside.map.value inside.everyone q inside.set c.in_ok-copied_node.field-0) (sym c.in_ok-try_copy.ensures)
    (tallied_alike _ _ _ _ inside.node _ c.in_ok-copied_node.ensures c.self.invariant))
