use Rattle.std.proofs.Common.{◌≡◌, ◌++◌, slice_get, string_bytes}
use Rattle.fy_bears.specs.Pieces.{each_below}
use Rattle.fy_bears.specs.Texts.{policy_line}
use Rattle.fy_bears.proofs.text.put_policies.Given as goal

abbrev pub invariant-loop-i : goal.invariant-loop-i
invariant-loop-i l =
    string_bytes l.out ≡ string_bytes l.fn.out
    ++ each_below (λ i. policy_line l.map i (slice_get l.policies i) (slice_get l.found i)) l.i
