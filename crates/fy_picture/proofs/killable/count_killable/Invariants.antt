use Rattle.std.specs.Prelude.{◌≡◌, ◌≤◌, length, filter}
use Rattle.std.specs.List.{range_with_len}
use Rattle.std.specs.FinSet as sets
use Rattle.fy_picture.specs.Killable.{is_killable}
use Rattle.fy_picture.proofs.killable.count_killable.Given as goal

abbrev pub invariant-loop-p : goal.invariant-loop-p
invariant-loop-p l =
    (l.count ≡ length (filter (is_killable l.destroyed.processes l.destroyed.policy (sets.contains l.destroyed.set) (sets.contains l.left.set)) (range_with_len 0 l.p)))
    × (l.count ≤ l.p)
