use Rattle.std.proofs.Common.{◌≡◌, ℕ, Bool, true, length, refl, sym, ap, subst, ◌∙◌, arith}
use Rattle.std.specs.FinSet as sets
use Rattle.fy_policy.specs.Counted.{IsTallied, AreCountersOf, AreCountersAt, CanToggleOne, HasGroups, toggled}
use Rattle.fy_policy.proofs.Standing.{tallied-toggled, tallied-kept, toggled-put, came, stayed}
use Rattle.fy_policy.proofs.tally.Tally.add.Goals.{then-joins, else-joins}
use Rattle.fy_policy.proofs.tally.Tally.add.Goals as goal

pub invariant_of-self : goal.invariant_of-self
invariant_of-self c =
    let is : c.if-joins.self-inside.set ≡ c.self.inside.set → (x : ℕ) → toggled (sets.contains c.self.inside.set) c.args.p.0 true x ≡ sets.contains c.put.new.self x =
    (λ same x. toggled-put c.self.inside.set c.args.p.0 x ∙ ap (λ s. sets.contains (sets.insert s c.args.p.0) x) (sym same) ∙ ap (λ s. sets.contains s x) (sym c.put.ensures)) in
    elim c.if-joins.branch [
      | then-joins w ↦
          let told = came c.has.result c.has-2.result (sets.contains c.self.inside.set c.args.p.0) c.args.p.0 (length c.self.inside.map.value) w.if-joins.true (c.has.ensures ∙ c.self.invariant.everyone c.args.p.0) c.has-2.ensures in
          let toggle = subst (λ m. (at : ℕ → ℕ) (s : ℕ → Bool) → AreCountersAt m at s 0 c.self.inside.node → CanToggleOne m at 0 s c.args.p.0 true → AreCountersOf m at (toggled s c.args.p.0 true) w.toggle.new.node) w.deref.ensures w.toggle.ensures.right in
          subst (λ t. IsTallied t.map.value t.everyone t.policy c.put.new.self t.node) (sym w.self-inside-is)
          (tallied-toggled c.self.inside.map.value c.self.inside.everyone c.self.inside.policy c.self.inside.set c.put.new.self c.self.inside.node w.toggle.new.node c.args.p.0 true c.self.invariant (subst (λ m. HasGroups (length m) w.toggle.new.node) w.deref.ensures w.toggle.ensures.groups) w.toggle.ensures.tree
          (toggle (λ _. 0) (sets.contains c.self.inside.set) (record { few = c.self.invariant.few; right = c.self.invariant.right; inside = omega arith }) (record { known = told.1; here = refl; was = told.0 })) (is (ap (λ t. t.set) w.self-inside-is)))
      | else-joins w ↦
          subst (λ t. IsTallied t.map.value t.everyone t.policy c.put.new.self t.node) (sym w.self-inside-is)
          (tallied-kept c.self.inside.map.value c.self.inside.everyone c.self.inside.policy c.self.inside.set c.put.new.self c.self.inside.node c.args.p.0 true c.self.invariant (is (ap (λ t. t.set) w.self-inside-is))
          (λ small. stayed c.has.result c.has-2.result _ c.args.p.0 _ w.if-joins.false (c.has.ensures ∙ c.self.invariant.everyone c.args.p.0) c.has-2.ensures small))
    ]
