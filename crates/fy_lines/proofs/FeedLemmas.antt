-- The next line of a reader, by what was read of it piece by piece.
use Rattle.std.proofs.Common.{arith, inr, ◌≡◌, ◌∙◌, ℕ, suc, ◌+◌, ◌<◌, ◌≤◌, List, [], ◌∷◌, ◌++◌, length, refl, sym, ap, subst, ne_eqb, append_assoc, append-nil, length-append, take, Option, Some, None}
use Rattle.std.specs.Prelude.{IfSome}
use Rattle.std.specs.Io.{StartsWith}
use Rattle.std.specs.Io.BufRead.{DropsConsumable}
use Rattle.std.proofs.KnownBytes.{Consumes-trans}
use Rattle.std.proofs.BufReadLemmas.{Consumes_shown}
use Rattle.std.specs.Io.KnownBytes.{Consumes, Keeps}
use Rattle.fy_lines.specs.Lines.{onto_first, lines_of, IsLine}
use Rattle.fy_lines.specs.Readings.{ReadsLine, HasLongLine, ReadsWithinLine, ReadsPiece}
use Rattle.fy_lines.specs.declared.feed.Piece.{Piece}
use Rattle.fy_lines.specs.declared.feed.Piece.TheVariants.{End, Feed}
use Rattle.fy_lines.proofs.SplitLemmas.{lines_of_ended, lines_of_lone}

-- two pieces of a line
pub both_line : (xs ys : List ℕ) → IsLine xs → IsLine ys → IsLine (xs ++ ys)
both_line [] ys first second = second
both_line (x ∷ xs) ys first second = (first.0, both_line xs ys first.1 second)

-- all of the input is a last line without its feed
pub gives_last :
    (old mid new : Option (List ℕ)) (kept line : List ℕ) (piece : Piece) → Consumes old mid kept → IsLine kept
    → ReadsPiece mid new kept line piece → piece ≡ End → 0 < length line → ReadsLine old new line
gives_last None mid new kept line piece read whole grown is some = tt
gives_last (Some xs) None new kept line piece read whole grown is some = absurd read
gives_last (Some xs) (Some ys) None kept line piece read whole grown is some =
    absurd (subst (ReadsPiece (Some ys) None kept line) is grown).1
gives_last (Some xs) (Some ys) (Some zs) kept line piece read whole grown is some =
    let (end, keeps, same) = subst (ReadsPiece (Some ys) (Some zs) kept line) is grown in
    let all : xs ≡ kept = read ∙ ap (λ (l : List ℕ). kept ++ l) end ∙ append-nil kept in
    let lone = lines_of_lone kept (subst (λ (l : List ℕ). 0 < length l) same some) whole in
    (zs, refl, ap lines_of all ∙ lone ∙ (λ i. sym same i ∷ lines_of (sym (keeps ∙ end) i)))

-- a line and its feed were read
pub record ReadsEnded (old new : Option (List ℕ)) (line : List ℕ) : Type 0 where
  read : Consumes old new (line ++ 10 ∷ [])
  whole : IsLine line

-- a line ends with the piece that its feed ends
pub ended :
    (old mid new : Option (List ℕ)) (kept line : List ℕ) (piece : Piece) → Consumes old mid kept → IsLine kept
    → ReadsPiece mid new kept line piece → piece ≡ Feed → ReadsEnded old new line
ended old mid new kept line piece read whole grown is =
    let (last, more, last_whole, same) = subst (ReadsPiece mid new kept line) is grown in
    let both = Consumes-trans old mid new kept (last ++ 10 ∷ []) read more in
    let joined : kept ++ (last ++ 10 ∷ []) ≡ line ++ 10 ∷ [] =
    sym (append_assoc kept last (10 ∷ [])) ∙ ap (λ (l : List ℕ). l ++ 10 ∷ []) (sym same) in
    record {
      read = subst (Consumes old new) joined both;
      whole = subst IsLine (sym same) (both_line kept last whole last_whole);
    }

pub gives_ended : (old new : Option (List ℕ)) (line : List ℕ) → ReadsEnded old new line → ReadsLine old new line
gives_ended None new line ended = tt
gives_ended (Some xs) None line ended = absurd ended.read
gives_ended (Some xs) (Some ys) line ended =
    let all : xs ≡ line ++ 10 ∷ ys = ended.read ∙ append_assoc line (10 ∷ []) ys in
    (ys, refl, ap lines_of all ∙ lines_of_ended line ys ended.whole)

take_through_feed : (end more : List ℕ) → take (suc (length end)) (end ++ 10 ∷ more) ≡ end ++ 10 ∷ []
take_through_feed [] more = refl
take_through_feed (x ∷ xs) more = ap (λ (l : List ℕ). x ∷ l) (take_through_feed xs more)

-- a front of what is shown, up to its feed
pub front_is : (shown end more : List ℕ) (n : ℕ) → n ≡ suc (length end) → shown ≡ end ++ 10 ∷ more →
    take n shown ≡ end ++ 10 ∷ []
front_is shown end more n count is = ap (λ k. take k shown) count ∙ ap (take (suc (length end))) is ∙ take_through_feed end more

-- the end of a line and its feed were read
pub was_read :
    (mid rested new : Option (List ℕ)) (limit : Option ℕ) (chunk end more : List ℕ)
    → IfSome mid (λ xs. StartsWith xs chunk) → IfSome mid (λ xs. length chunk ≡ 0 → xs ≡ []) → Keeps mid rested
    → IfSome mid (λ _. IfSome limit (λ n. length chunk ≤ n)) → DropsConsumable rested new limit (length end + 1)
    → chunk ≡ end ++ 10 ∷ more → Consumes mid new (end ++ 10 ∷ [])
was_read mid rested new limit chunk end more shows last keeps fits drops is =
    let long : length chunk ≡ length end + length (10 ∷ more) = ap length is ∙ length-append end (10 ∷ more) in
    let within : length end + 1 ≤ length chunk = omega (arith, long) in
    let moved = Consumes_shown mid rested new limit chunk (length end + 1) within shows last keeps fits drops in
    subst (Consumes mid new) (front_is chunk end more (length end + 1) (omega arith) is) moved.0

onto : (x : ℕ) (lines : List (List ℕ)) →
    (line : List ℕ) × (more : List (List ℕ)) × (onto_first x lines ≡ line ∷ more) × (1 ≤ length line)
onto x [] = (x ∷ [], [], refl, omega arith)
onto x (line ∷ lines) = (x ∷ line, lines, refl, omega arith)

-- the first line begins with what has no feed
pub begins : (kept rest : List ℕ) → 0 < length kept → IsLine kept →
    (line : List ℕ) × (more : List (List ℕ)) × (lines_of (kept ++ rest) ≡ line ∷ more) × (length kept ≤ length line)
begins [] rest some whole = absurd (omega arith)
begins (x ∷ []) rest some whole = rw (ne_eqb x 10 whole.0) (onto x (lines_of rest))
begins (x ∷ y ∷ ys) rest some whole =
    let next = begins (y ∷ ys) rest (omega arith) whole.1 in
    rw (ne_eqb x 10 whole.0) (x ∷ next.0, next.1, ap (onto_first x) next.2, let longer = next.3 in omega arith)

-- more bytes than so many were read of a line
pub has_long_line : (old mid : Option (List ℕ)) (kept : List ℕ) (most : ℕ) → Consumes old mid kept →
    IsLine kept → most < length kept → HasLongLine old most
has_long_line None mid kept most read whole long = tt
has_long_line (Some xs) None kept most read whole long = absurd read
has_long_line (Some xs) (Some ys) kept most read whole long =
    let first = begins kept ys (omega arith) whole in
    let longer = first.3 in
    (first.0, first.1, ap lines_of read ∙ first.2, omega arith)

pub has_long_ended :
    (old new : Option (List ℕ)) (line : List ℕ) (most : ℕ) → ReadsEnded old new line → most < length line
    → HasLongLine old most
has_long_ended None new line most ended long = tt
has_long_ended (Some xs) None line most ended long = absurd ended.read
has_long_ended (Some xs) (Some ys) line most ended long = (
  line,
  lines_of ys,
  ap lines_of (ended.read ∙ append_assoc line (10 ∷ []) ys) ∙ lines_of_ended line ys ended.whole,
  long,
)

-- no byte behind the feed was read
pub within_ended : (old new : Option (List ℕ)) (line : List ℕ) → ReadsEnded old new line → ReadsWithinLine old new
within_ended old new line ended = (line ++ 10 ∷ [], ended.read, inr (line, refl, ended.whole))
