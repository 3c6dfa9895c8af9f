use Rattle.std.proofs.Common.{◌≡◌, ◌<◌, ◌^◌, take, decimal}
use Rattle.fy_spelling.proofs.scan.tokens.number.Given as goal

abbrev pub invariant-loop-i : goal.invariant-loop-i
invariant-loop-i l =
    (0 < l.number) × (l.number < 2 ^ 64) × (take l.i l.line ≡ decimal l.number)
