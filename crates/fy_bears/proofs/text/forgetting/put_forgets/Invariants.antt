use Rattle.std.proofs.Common.{◌≡◌, ◌++◌, slice_get, string_bytes}
use Rattle.fy_bears.specs.Pieces.{each_below}
use Rattle.fy_bears.specs.Forgets.{elections_text}
use Rattle.fy_bears.proofs.text.forgetting.put_forgets.Given as goal

abbrev pub invariant-loop-i : goal.invariant-loop-i
invariant-loop-i l =
    string_bytes l.out ≡ string_bytes l.fn.out ++ each_below
    (λ i. elections_text l.config.processes l.config.policies (slice_get l.elections i) (slice_get l.found i)) l.i
