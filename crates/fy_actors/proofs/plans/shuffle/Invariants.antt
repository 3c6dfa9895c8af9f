use Rattle.std.proofs.Common.{◌≡◌, ◌-◌, ◌≤◌, length, drop}
use Rattle.fy_actors.specs.Plans.{shuffled_from, shuffled}
use Rattle.fy_actors.proofs.plans.shuffle.Given as goal

abbrev pub invariant-loop-done : goal.invariant-loop-done
invariant-loop-done g l = record {
  swapped :
      shuffled_from (length l.list - l.done) (drop (l.done - 1) l.words) l.list
      ≡ shuffled l.words l.initial.list;
  same_length : length l.list ≡ length l.initial.list;
  begun : 1 ≤ l.done;
}
