use Rattle.std.proofs.Common.{◌≡◌, ◌++◌, slice_get, string_bytes}
use Rattle.fy_bears.specs.Pieces.{each_below}
use Rattle.fy_bears.specs.Warnings.{emptied_warning}
use Rattle.fy_bears.proofs.text.warnings.put_emptied_warnings.Given as goal

abbrev pub invariant-loop-i : goal.invariant-loop-i
invariant-loop-i l =
    string_bytes l.out ≡ string_bytes l.fn.out
    ++ each_below (λ i. emptied_warning l.half i (slice_get l.found i)) l.i
