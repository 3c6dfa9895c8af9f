use Rattle.std.proofs.Common.{◌≡◌, ℕ, Bool, false, subst, arith}
use Rattle.std.specs.FinSet as sets
use Rattle.fy_policy.specs.Counted.{tree_of_node, within, toggled_by, CanToggle, AreCountersAt}
use Rattle.fy_policy.specs.Sat.{satisfies}
use Rattle.fy_policy.proofs.Standing.{goers-can, without-goers}
use Rattle.fy_policy.proofs.tally.Tally.satisfied_without.Goals as goal

pub returns : goal.returns
returns c =
    let asks = subst (λ m. (at : ℕ → ℕ) (s : ℕ → Bool) → AreCountersAt m at s 0 c.self.inside.node → CanToggle m at 0 s (sets.contains c.intersection-goers.result) false
    → c.satisfied_after_toggle.result ≡ satisfies m (tree_of_node c.self.inside.node) (within m at 0 (toggled_by s (sets.contains c.intersection-goers.result) false))) c.deref.ensures c.satisfied_after_toggle.ensures in
    subst (λ t. c.satisfied_after_toggle.result ≡ satisfies t.processes t.policy (sets.contains (sets.difference t.set c.args.given.now))) c.self.view_is
    (without-goers c.self.inside.map.value c.self.inside.everyone c.self.inside.policy c.self.inside.set c.args.given.now c.self.inside.node c.self.invariant c.intersection.result c.intersection-goers.result c.intersection.ensures c.intersection-goers.ensures c.satisfied_after_toggle.result
    (asks (λ _. 0) (sets.contains c.self.inside.set) (record { few = c.self.invariant.few; right = c.self.invariant.right; inside = omega arith })
    (goers-can c.self.inside.map.value c.self.inside.everyone c.self.inside.policy c.self.inside.set c.args.given.now c.self.inside.node c.self.invariant c.intersection.result c.intersection-goers.result c.intersection.ensures c.intersection-goers.ensures)))
