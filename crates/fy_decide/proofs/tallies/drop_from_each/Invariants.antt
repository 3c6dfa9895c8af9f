use Rattle.std.proofs.Common.{◌≡◌, ◌++◌, map, take, drop}
use Rattle.fy_decide.specs.Tallies.{without_all}
use Rattle.fy_decide.proofs.tallies.drop_from_each.Given as goal

-- the tallies up to this one are done
abbrev pub invariant-loop-i : goal.invariant-loop-i
invariant-loop-i l = l.tallies ≡ map (without_all l.set) (take l.i l.initial.tallies) ++ drop l.i l.initial.tallies
