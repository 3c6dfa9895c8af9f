use Rattle.std.proofs.Common.{◌≡◌, ℕ, Bool, true, subst, arith}
use Rattle.std.specs.FinSet as sets
use Rattle.fy_policy.specs.Counted.{tree_of_node, within, toggled_by, CanToggle, AreCountersAt}
use Rattle.fy_policy.specs.Sat.{satisfies}
use Rattle.fy_policy.proofs.Standing.{comers-can, with-comers}
use Rattle.fy_policy.proofs.tally.Tally.satisfied_with.Goals as goal

pub returns : goal.returns
returns c =
    let asks = subst (λ m. (at : ℕ → ℕ) (s : ℕ → Bool) → AreCountersAt m at s 0 c.self.inside.node → CanToggle m at 0 s (sets.contains c.difference-comers.result) true
    → c.satisfied_after_toggle.result ≡ satisfies m (tree_of_node c.self.inside.node) (within m at 0 (toggled_by s (sets.contains c.difference-comers.result) true))) c.deref.ensures c.satisfied_after_toggle.ensures in
    subst (λ t. c.satisfied_after_toggle.result ≡ satisfies t.processes t.policy (sets.contains (sets.union t.set c.args.given.now))) c.self.view_is
    (with-comers c.self.inside.map.value c.self.inside.everyone c.self.inside.policy c.self.inside.set c.args.given.now c.self.inside.node c.self.invariant c.intersection.result c.difference-comers.result c.intersection.ensures c.difference-comers.ensures c.satisfied_after_toggle.result
    (asks (λ _. 0) (sets.contains c.self.inside.set) (record { few = c.self.invariant.few; right = c.self.invariant.right; inside = omega arith })
    (comers-can c.self.inside.map.value c.self.inside.everyone c.self.inside.policy c.self.inside.set c.args.given.now c.self.inside.node c.self.invariant c.intersection.result c.difference-comers.result c.intersection.ensures c.difference-comers.ensures)))
