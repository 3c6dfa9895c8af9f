use Rattle.std.proofs.Common.{◌≡◌, ◌++◌, string_bytes}
use Rattle.fy_locality.specs.Locality.{values_of}
use Rattle.fy_bears.specs.Pieces.{each_below}
use Rattle.fy_bears.specs.Texts.{pair_text}
use Rattle.fy_bears.proofs.text.groups.put_row.Given as goal

abbrev pub invariant-loop-behind : goal.invariant-loop-behind
invariant-loop-behind l =
    string_bytes l.out ≡ string_bytes l.fn.out
    ++ each_below (pair_text (values_of l.map l.group.key) l.group l.told l.first) l.behind
