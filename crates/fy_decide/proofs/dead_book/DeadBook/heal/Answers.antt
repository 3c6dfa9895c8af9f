use Rattle.std.proofs.Common.{map, subst, sym, ap, ◌∙◌}
use Rattle.std.specs.FinSet as sets
use Rattle.fy_decide.specs.DeadBook.{Losses, IsSafe}
use Rattle.fy_decide.specs.Tallies.{tallied, without_all}
use Rattle.fy_decide.proofs.Deciding.{IsSafe-healed}
use Rattle.fy_decide.proofs.Tallying.{written-back, tallied-without, without-one}
use Rattle.fy_decide.proofs.dead_book.DeadBook.heal.Goals as goal

pub invariant_of-self : goal.invariant_of-self
invariant_of-self c =
    let inside : Losses = record { processes = c.self.inside.map.value; policies = c.self.inside.policies.items; destroyed = c.self.inside.destroyed; left = c.self.inside.left } in
    record {
      safe = subst (λ d. IsSafe (record inside { destroyed = d })) (sym c.drop_one.ensures) (IsSafe-healed c.more_satisfies.ensures inside c.args.p.0 c.self.invariant.safe);
      destroyed_agree =
          written-back c.self.inside.destroyed_tallies c.deref_mut.result.now c.drop_from_each.new.tallies (without_all c.put.new.self) c.drop_from_each.ensures c.deref_mut.ensures.value
          ∙ ap (map (without_all c.put.new.self)) c.self.invariant.destroyed_agree
          ∙ tallied-without c.self.inside.map.value c.self.inside.policies.items c.self.inside.destroyed c.put.new.self
          ∙ ap (tallied c.self.inside.map.value c.self.inside.policies.items) (ap (sets.difference c.self.inside.destroyed) c.put.ensures ∙ without-one c.self.inside.destroyed c.empty-back.result c.args.p.0 c.empty-back.ensures ∙ sym c.drop_one.ensures);
      left_agree = c.self.invariant.left_agree;
    }
