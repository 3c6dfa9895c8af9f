-- the reads of a history as they are judged, one by one
use Rattle.std.proofs.Common.{◌≡◌, ◌<◌, ◌+◌, ◌∙◌, ℕ, zero, suc, Bool, List, [], ◌∷◌, ◌++◌, length, take, get_or, refl, ap, arith}
use Rattle.fy_history.specs.declared.history.Read.{Read}
use Rattle.fy_history.specs.declared.history.Write.{Write}
use Rattle.fy_records.specs.Lines.{seen_of, seen_reads}

seen_next : (writes : List Write) (reads : List Read) (wholes : List Bool) (i : ℕ) (d : Read) (e : Bool) → i < length reads → i < length wholes
    → seen_reads writes (take (suc i) reads) (take (suc i) wholes)
    ≡ seen_reads writes (take i reads) (take i wholes) ++ seen_of writes (get_or reads i d) (get_or wholes i e) ∷ []
seen_next writes [] wholes i d e within also = absurd (omega (arith, within))
seen_next writes (read ∷ reads) [] i d e within also = absurd (omega (arith, also))
seen_next writes (read ∷ reads) (whole ∷ wholes) zero d e within also = refl
seen_next writes (read ∷ reads) (whole ∷ wholes) (suc i) d e within also =
    ap (λ ys. seen_of writes read whole ∷ ys) (seen_next writes reads wholes i d e (omega (arith, within)) (omega (arith, also)))

-- one read more
pub seen_more : (writes : List Write) (reads : List Read) (wholes : List Bool) (i : ℕ) (d : Read) (e : Bool) → i < length reads → i < length wholes
    → seen_reads writes (take (i + 1) reads) (take (i + 1) wholes)
    ≡ seen_reads writes (take i reads) (take i wholes) ++ seen_of writes (get_or reads i d) (get_or wholes i e) ∷ []
seen_more writes reads wholes i d e within also =
    let one : i + 1 ≡ suc i = omega arith in
    ap (λ n. seen_reads writes (take n reads) (take n wholes)) one ∙ seen_next writes reads wholes i d e within also
