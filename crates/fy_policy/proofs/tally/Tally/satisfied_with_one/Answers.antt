use Rattle.std.proofs.Common.{◌≡◌, ℕ, Bool, true, length, refl, subst, ◌∙◌, arith}
use Rattle.std.specs.FinSet as sets
use Rattle.fy_policy.specs.Counted.{tree_of_node, within, toggled, CanToggleOne, AreCountersAt}
use Rattle.fy_policy.specs.Sat.{satisfies}
use Rattle.fy_policy.proofs.Standing.{asked, unturned, toggled-put, came, stayed}
use Rattle.fy_policy.proofs.tally.Tally.satisfied_with_one.Goals as goal

pub returns-then-has : goal.returns-then-has
returns-then-has c =
    let told = came c.has.result c.has-2.result (sets.contains c.self.inside.set c.args.p.0) c.args.p.0 (length c.self.inside.map.value) c.if-has.true (c.has.ensures ∙ c.self.invariant.everyone c.args.p.0) c.has-2.ensures in
    let alone = subst (λ m. (at : ℕ → ℕ) (s : ℕ → Bool) → AreCountersAt m at s 0 c.self.inside.node → CanToggleOne m at 0 s c.args.p.0 true
    → c.satisfied_after_one_toggle.result ≡ satisfies m (tree_of_node c.self.inside.node) (within m at 0 (toggled s c.args.p.0 true))) c.deref.ensures c.satisfied_after_one_toggle.ensures in
    subst (λ t. c.satisfied_after_one_toggle.result ≡ satisfies t.processes t.policy (sets.contains (sets.insert t.set c.args.p.0))) c.self.view_is
    (asked c.self.inside.map.value c.self.inside.everyone c.self.inside.policy c.self.inside.set c.self.inside.node c.self.invariant (toggled (sets.contains c.self.inside.set) c.args.p.0 true) (sets.insert c.self.inside.set c.args.p.0) c.satisfied_after_one_toggle.result (λ q _. toggled-put c.self.inside.set c.args.p.0 q)
    (alone (λ _. 0) (sets.contains c.self.inside.set) (record { few = c.self.invariant.few; right = c.self.invariant.right; inside = omega arith }) (record { known = told.1; here = refl; was = told.0 })))

pub returns-else-has : goal.returns-else-has
returns-else-has c =
    subst (λ t. c.is_satisfied_at.result ≡ satisfies t.processes t.policy (sets.contains (sets.insert t.set c.args.p.0))) c.self.view_is
    (asked c.self.inside.map.value c.self.inside.everyone c.self.inside.policy c.self.inside.set c.self.inside.node c.self.invariant (sets.contains c.self.inside.set) (sets.insert c.self.inside.set c.args.p.0) c.is_satisfied_at.result
    (λ q low. unturned c.self.inside.set c.args.p.0 (length c.self.inside.map.value) true (λ small. stayed c.has.result c.has-2.result (sets.contains c.self.inside.set c.args.p.0) c.args.p.0 (length c.self.inside.map.value) c.if-has.false (c.has.ensures ∙ c.self.invariant.everyone c.args.p.0) c.has-2.ensures small) q low ∙ toggled-put c.self.inside.set c.args.p.0 q)
    (c.is_satisfied_at.ensures c.self.inside.map.value (λ _. 0) (sets.contains c.self.inside.set) c.self.invariant.right (omega arith)))
