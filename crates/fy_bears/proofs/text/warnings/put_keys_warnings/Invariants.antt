use Rattle.std.proofs.Common.{◌≡◌, ◌++◌, slice_get, string_bytes}
use Rattle.fy_bears.specs.Pieces.{each_below}
use Rattle.fy_bears.specs.Warnings.{policy_warnings}
use Rattle.fy_bears.proofs.text.warnings.put_keys_warnings.Given as goal

abbrev pub invariant-loop-i : goal.invariant-loop-i
invariant-loop-i l =
    string_bytes l.out ≡ string_bytes l.fn.out
    ++ each_below (λ i. policy_warnings l.map i (slice_get l.policies i)) l.i
