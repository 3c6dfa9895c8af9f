use Rattle.std.proofs.Common.{map, subst, sym, ap, ◌∙◌}
use Rattle.std.specs.FinSet as sets
use Rattle.fy_decide.specs.Safety.{MayDestroy}
use Rattle.fy_decide.specs.DeadBook.{Losses, IsSafe}
use Rattle.fy_decide.specs.Tallies.{tallied, with_all, without_all}
use Rattle.fy_decide.proofs.Deciding.{IsSafe-emptied, IsSafe-gone}
use Rattle.fy_decide.proofs.Tallying.{written-back, tallied-with, tallied-without}
use Rattle.fy_decide.proofs.dead_book.DeadBook.strike.Goals as goal

pub invariant_of-self : goal.invariant_of-self
invariant_of-self c =
    let inside : Losses = record { processes = c.self.inside.map.value; policies = c.self.inside.policies.items; destroyed = c.self.inside.destroyed; left = c.self.inside.left } in
    record {
      safe =
          subst (λ d. IsSafe (record inside { destroyed = d })) (sym c.union-self-inside.ensures)
          (IsSafe-emptied inside c.args.set.now c.args.loss c.in-Emptied.is c.self.invariant.safe
          (subst (λ dead. MayDestroy dead.processes dead.policies (sets.contains dead.destroyed) (sets.contains dead.left) (sets.contains c.args.set.now) c.args.loss) (sym c.self.view_is) c.requires));
      destroyed_agree =
          written-back c.self.inside.destroyed_tallies c.deref_mut.result.now c.put_in_each.new.tallies (with_all c.args.set.now) c.put_in_each.ensures c.deref_mut.ensures.value
          ∙ ap (map (with_all c.args.set.now)) c.self.invariant.destroyed_agree
          ∙ tallied-with c.self.inside.map.value c.self.inside.policies.items c.self.inside.destroyed c.args.set.now
          ∙ ap (tallied c.self.inside.map.value c.self.inside.policies.items) (sym c.union-self-inside.ensures);
      left_agree = c.self.invariant.left_agree;
    }

pub invariant_of-self-in-Gone : goal.invariant_of-self-in-Gone
invariant_of-self-in-Gone c =
    let inside : Losses = record { processes = c.self.inside.map.value; policies = c.self.inside.policies.items; destroyed = c.self.inside.destroyed; left = c.self.inside.left } in
    record {
      safe =
          subst (λ d. IsSafe (record inside { destroyed = d; left = c.difference-self-inside.result })) (sym c.union-self-inside.ensures)
          (subst (λ l. IsSafe (record inside { destroyed = sets.union c.self.inside.destroyed c.args.set.now; left = l })) (sym c.difference-self-inside.ensures)
          (IsSafe-gone inside c.args.set.now c.args.loss c.in-Gone.is
          (subst (λ dead. MayDestroy dead.processes dead.policies (sets.contains dead.destroyed) (sets.contains dead.left) (sets.contains c.args.set.now) c.args.loss) (sym c.self.view_is) c.requires)));
      destroyed_agree =
          written-back c.self.inside.destroyed_tallies c.deref_mut.result.now c.put_in_each.new.tallies (with_all c.args.set.now) c.put_in_each.ensures c.deref_mut.ensures.value
          ∙ ap (map (with_all c.args.set.now)) c.self.invariant.destroyed_agree
          ∙ tallied-with c.self.inside.map.value c.self.inside.policies.items c.self.inside.destroyed c.args.set.now
          ∙ ap (tallied c.self.inside.map.value c.self.inside.policies.items) (sym c.union-self-inside.ensures);
      left_agree =
          written-back c.self.inside.left_tallies c.deref_mut-in-Gone.result.now c.drop_from_each.new.tallies (without_all c.args.set.now) c.drop_from_each.ensures c.deref_mut-in-Gone.ensures.value
          ∙ ap (map (without_all c.args.set.now)) c.self.invariant.left_agree
          ∙ tallied-without c.self.inside.map.value c.self.inside.policies.items c.self.inside.left c.args.set.now
          ∙ ap (tallied c.self.inside.map.value c.self.inside.policies.items) (sym c.difference-self-inside.ensures);
    }
