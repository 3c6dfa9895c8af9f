use Rattle.std.proofs.Common.{◌≡◌, ◌++◌, string_bytes}
use Rattle.fy_locality.specs.Locality.{values_of}
use Rattle.fy_bears.specs.Pieces.{each_below}
use Rattle.fy_bears.specs.Texts.{told_mark, value_text}
use Rattle.fy_bears.proofs.text.groups.put_values.Given as goal

abbrev pub invariant-loop-i : goal.invariant-loop-i
invariant-loop-i l =
    string_bytes l.out ≡ string_bytes l.fn.out ++ (told_mark l.told
    ++ each_below (value_text (values_of l.map l.group.key) l.group l.told) l.i)
