-- The lines of what begins with a line.
use Rattle.std.proofs.Common.{arith, ◌≡◌, ◌∙◌, ℕ, ◌<◌, List, [], ◌∷◌, ◌++◌, length, refl, ap, ne_eqb}
use Rattle.fy_lines.specs.Lines.{onto_first, lines_of, IsLine}

-- a line, its line feed, and the rest
pub lines_of_ended : (line rest : List ℕ) → IsLine line → lines_of (line ++ 10 ∷ rest) ≡ line ∷ lines_of rest
lines_of_ended [] rest whole = refl
lines_of_ended (x ∷ xs) rest whole = rw (ne_eqb x 10 whole.0) (ap (onto_first x) (lines_of_ended xs rest whole.1))

-- a last line without its line feed
pub lines_of_lone : (line : List ℕ) → 0 < length line → IsLine line → lines_of line ≡ line ∷ []
lines_of_lone [] some whole = absurd (omega arith)
lines_of_lone (x ∷ []) some whole = rw (ne_eqb x 10 whole.0) refl
lines_of_lone (x ∷ y ∷ ys) some whole = rw (ne_eqb x 10 whole.0) (ap (onto_first x) (lines_of_lone (y ∷ ys) (omega arith) whole.1))

pub lines_of_split : (bytes line rest : List ℕ) → bytes ≡ line ++ 10 ∷ rest → IsLine line → lines_of bytes ≡ line ∷ lines_of rest
lines_of_split bytes line rest split whole = ap lines_of split ∙ lines_of_ended line rest whole
