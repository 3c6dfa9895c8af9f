use Rattle.std.proofs.Common.{◌≡◌, ◌&&◌, not, ℕ, Bool, false, length, refl, sym, ap, subst, ◌∙◌, arith}
use Rattle.std.specs.FinSet as sets
use Rattle.fy_policy.specs.Counted.{tree_of_node, within, toggled, CanToggleOne, AreCountersAt}
use Rattle.fy_policy.specs.Sat.{satisfies}
use Rattle.fy_policy.proofs.Standing.{asked, unturned, toggled-dropped, came, stayed, not-not}
use Rattle.fy_policy.proofs.tally.Tally.satisfied_without_one.Goals as goal

pub returns-then-has : goal.returns-then-has
returns-then-has c =
    let told = came c.has.result (not c.has-2.result) (not (sets.contains c.self.inside.set c.args.p.0)) c.args.p.0 (length c.self.inside.map.value) (ap (λ b. c.has.result && b) (not-not c.has-2.result) ∙ c.if-has.true) (c.has.ensures ∙ c.self.invariant.everyone c.args.p.0) (ap not c.has-2.ensures) in
    let alone = subst (λ m. (at : ℕ → ℕ) (s : ℕ → Bool) → AreCountersAt m at s 0 c.self.inside.node → CanToggleOne m at 0 s c.args.p.0 false
    → c.satisfied_after_one_toggle.result ≡ satisfies m (tree_of_node c.self.inside.node) (within m at 0 (toggled s c.args.p.0 false))) c.deref.ensures c.satisfied_after_one_toggle.ensures in
    subst (λ t. c.satisfied_after_one_toggle.result ≡ satisfies t.processes t.policy (sets.contains (sets.remove t.set c.args.p.0))) c.self.view_is
    (asked c.self.inside.map.value c.self.inside.everyone c.self.inside.policy c.self.inside.set c.self.inside.node c.self.invariant (toggled (sets.contains c.self.inside.set) c.args.p.0 false) (sets.remove c.self.inside.set c.args.p.0) c.satisfied_after_one_toggle.result (λ q _. toggled-dropped c.self.inside.set c.args.p.0 q)
    (alone (λ _. 0) (sets.contains c.self.inside.set) (record { few = c.self.invariant.few; right = c.self.invariant.right; inside = omega arith }) (record { known = told.1; here = refl; was = (sym (not-not _) ∙ ap not told.0) })))

pub returns-else-has : goal.returns-else-has
returns-else-has c =
    subst (λ t. c.is_satisfied_at.result ≡ satisfies t.processes t.policy (sets.contains (sets.remove t.set c.args.p.0))) c.self.view_is
    (asked c.self.inside.map.value c.self.inside.everyone c.self.inside.policy c.self.inside.set c.self.inside.node c.self.invariant (sets.contains c.self.inside.set) (sets.remove c.self.inside.set c.args.p.0) c.is_satisfied_at.result
    (λ q low. unturned c.self.inside.set c.args.p.0 (length c.self.inside.map.value) false (λ small. sym (not-not _) ∙ ap not (stayed c.has.result (not c.has-2.result) (not (sets.contains c.self.inside.set c.args.p.0)) c.args.p.0 (length c.self.inside.map.value) (ap (λ b. c.has.result && b) (not-not c.has-2.result) ∙ c.if-has.false) (c.has.ensures ∙ c.self.invariant.everyone c.args.p.0) (ap not c.has-2.ensures) small)) q low ∙ toggled-dropped c.self.inside.set c.args.p.0 q)
    (c.is_satisfied_at.ensures c.self.inside.map.value (λ _. 0) (sets.contains c.self.inside.set) c.self.invariant.right (omega arith)))
