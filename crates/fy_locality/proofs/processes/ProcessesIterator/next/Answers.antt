use Rattle.std.proofs.Common.{◌/◌, ◌<◌, sym, subst}
use Rattle.std.specs.FinSet as sets
use Rattle.fy_locality.specs.Members.{StartsAt}
use Rattle.fy_locality.proofs.Counting.{len-without_least, starts-without_least}
use Rattle.fy_locality.proofs.processes.ProcessesIterator.next.Goals as goal

pub returns-in-Some-clause-goes : goal.returns-in-Some-clause-goes
returns-in-Some-clause-goes c = record {
  on = λ _. (
    tt,
    tt,
    subst (λ t. sets.len t < sets.len c.args.self.now) (sym c.drop_one.ensures)
        (subst (λ s. sets.len (sets.remove c.self.inside.rest c.in-Some.least.0) < sets.len s) c.self.view_is (len-without_least _ _ c.in-Some.ensures.some)),
  );
  keeps = tt;
  rests = λ _. tt;
}

pub invariant_of-self : goal.invariant_of-self
invariant_of-self c =
    subst (StartsAt (c.in-Some.least.0 / 64)) (sym c.drop_one.ensures) (starts-without_least _ _ c.in-Some.ensures.some)
