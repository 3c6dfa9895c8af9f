use Rattle.std.proofs.Common.{◌≡◌, ◌++◌, slice_get, string_bytes}
use Rattle.fy_bears.specs.Pieces.{each_below}
use Rattle.fy_bears.specs.Forgets.{forgetting_line}
use Rattle.fy_bears.proofs.text.forgetting.put_lines.Given as goal

abbrev pub invariant-loop-i : goal.invariant-loop-i
invariant-loop-i l =
    string_bytes l.out ≡ string_bytes l.fn.out ++ each_below
    (λ i. forgetting_line l.map i (slice_get l.policies i) (slice_get l.found i)) l.i
