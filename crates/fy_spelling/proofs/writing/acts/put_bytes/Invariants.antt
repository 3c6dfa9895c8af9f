use Rattle.std.proofs.Common.{◌≡◌, ◌≤◌, ◌++◌, drop, take, vec_capacity}
use Rattle.std.specs.List.{AllByRecursion}
use Rattle.hex.specs.Hex.{encode_lower}
use Rattle.fy_spelling.specs.Fits.{IsByte}
use Rattle.fy_spelling.specs.AppendsOrOom.{IsPrefixOf}
use Rattle.fy_spelling.proofs.writing.acts.put_bytes.Given as goal

abbrev pub invariant-loop-byte : goal.invariant-loop-byte
invariant-loop-byte l =
    IsPrefixOf l.fn.out.items l.out.items
    × (l.out.items ++ encode_lower (drop l.byte-index l.bytes) ≡ l.fn.out.items ++ encode_lower l.bytes)
    × (vec_capacity l.fn.out ≤ vec_capacity l.out)
    × AllByRecursion IsByte (take l.byte-index l.bytes)
