use Rattle.std.proofs.Common.{◌≡◌, ◌++◌, string_bytes}
use Rattle.fy_bears.specs.Pieces.{each_below, member_text}
use Rattle.fy_bears.proofs.text.pieces.put_names.Given as goal

abbrev pub invariant-loop-p : goal.invariant-loop-p
invariant-loop-p l =
    string_bytes l.out ≡ string_bytes l.fn.out ++ each_below (member_text l.map l.set) l.p
