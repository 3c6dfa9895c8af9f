use Rattle.std.proofs.Common.{◌≡◌, ◌&&◌, not, ℕ, Bool, false, length, refl, sym, ap, subst, ◌∙◌, arith}
use Rattle.std.specs.FinSet as sets
use Rattle.fy_policy.specs.Counted.{IsTallied, AreCountersOf, AreCountersAt, CanToggleOne, HasGroups, toggled}
use Rattle.fy_policy.proofs.Standing.{tallied-toggled, tallied-kept, toggled-dropped, came, stayed, not-not}
use Rattle.fy_policy.proofs.tally.Tally.remove.Goals.{then-goes, else-goes}
use Rattle.fy_policy.proofs.tally.Tally.remove.Goals as goal

pub invariant_of-self : goal.invariant_of-self
invariant_of-self c =
    let is : c.if-goes.self-inside.set ≡ c.self.inside.set → (x : ℕ) → toggled (sets.contains c.self.inside.set) c.args.p.0 false x ≡ sets.contains c.drop_one.new.self x =
    (λ same x. toggled-dropped c.self.inside.set c.args.p.0 x ∙ ap (λ s. sets.contains (sets.remove s c.args.p.0) x) (sym same) ∙ ap (λ s. sets.contains s x) (sym c.drop_one.ensures)) in
    elim c.if-goes.branch [
      | then-goes w ↦
          let told = came c.has.result (not c.has-2.result) (not (sets.contains c.self.inside.set c.args.p.0)) c.args.p.0 (length c.self.inside.map.value) (ap (λ b. c.has.result && b) (not-not c.has-2.result) ∙ w.if-goes.true) (c.has.ensures ∙ c.self.invariant.everyone c.args.p.0) (ap not c.has-2.ensures) in
          let toggle = subst (λ m. (at : ℕ → ℕ) (s : ℕ → Bool) → AreCountersAt m at s 0 c.self.inside.node → CanToggleOne m at 0 s c.args.p.0 false → AreCountersOf m at (toggled s c.args.p.0 false) w.toggle.new.node) w.deref.ensures w.toggle.ensures.right in
          subst (λ t. IsTallied t.map.value t.everyone t.policy c.drop_one.new.self t.node) (sym w.self-inside-is)
          (tallied-toggled c.self.inside.map.value c.self.inside.everyone c.self.inside.policy c.self.inside.set c.drop_one.new.self c.self.inside.node w.toggle.new.node c.args.p.0 false c.self.invariant (subst (λ m. HasGroups (length m) w.toggle.new.node) w.deref.ensures w.toggle.ensures.groups) w.toggle.ensures.tree
          (toggle (λ _. 0) (sets.contains c.self.inside.set) (record { few = c.self.invariant.few; right = c.self.invariant.right; inside = omega arith }) (record { known = told.1; here = refl; was = (sym (not-not _) ∙ ap not told.0) })) (is (ap (λ t. t.set) w.self-inside-is)))
      | else-goes w ↦
          subst (λ t. IsTallied t.map.value t.everyone t.policy c.drop_one.new.self t.node) (sym w.self-inside-is)
          (tallied-kept c.self.inside.map.value c.self.inside.everyone c.self.inside.policy c.self.inside.set c.drop_one.new.self c.self.inside.node c.args.p.0 false c.self.invariant (is (ap (λ t. t.set) w.self-inside-is))
          (λ small. sym (not-not _) ∙ ap not (stayed c.has.result (not c.has-2.result) (not (sets.contains c.self.inside.set c.args.p.0)) c.args.p.0 _ (ap (λ b. c.has.result && b) (not-not c.has-2.result) ∙ w.if-goes.false) (c.has.ensures ∙ c.self.invariant.everyone c.args.p.0) (ap not c.has-2.ensures) small)))
    ]
