use Rattle.std.proofs.Common.{◌≡◌, ◌++◌, min, take}
use Rattle.std.specs.Str.Parse.{digits_value}
use Rattle.fy_events.specs.declared.TheConstants.{MOST_MICROS}
use Rattle.fy_events.proofs.micros.front_value.Given as goal

abbrev pub invariant-loop-at : goal.invariant-loop-at
invariant-loop-at l =
    l.value ≡ min (digits_value 10 (take l.at (l.whole ++ l.fraction))) MOST_MICROS
