use Rattle.std.proofs.Common.{◌≡◌, ◌++◌, string_bytes}
use Rattle.fy_locality.specs.Locality.{values_of}
use Rattle.fy_bears.specs.Pieces.{each_below}
use Rattle.fy_bears.specs.Texts.{row_text, told_mark}
use Rattle.fy_bears.proofs.text.groups.put_rows.Given as goal

abbrev pub invariant-loop-first : goal.invariant-loop-first
invariant-loop-first l =
    string_bytes l.out ≡ string_bytes l.fn.out ++ (told_mark l.told
    ++ each_below (row_text (values_of l.map l.group.key) l.group l.told) l.first)
