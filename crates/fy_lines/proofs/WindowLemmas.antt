-- What a window holds after it moved.
use Rattle.std.proofs.Common.{◌≡◌, ◌≤◌, ◌∙◌, ℕ, ◌+◌, ◌-◌, List, [], ◌∷◌, ◌++◌, length, take, drop, slice_range, Option, refl, sym, ap, arith, drop-drop, take-add, length-take, length-drop, length-append, append-nil}
use Rattle.std.specs.Io.KnownBytes.{Consumes, Keeps}
use Rattle.std.proofs.KnownBytes.{Consumes-nil, Consumes-kept, Consumes-trans}
use Rattle.std.proofs.lemmas.List.{drop-take}
use Rattle.std.proofs.lemmas.Slice.{between_from_start}
use Rattle.fy_lines.specs.Windows.{WindowState, Slides, ReadsOn}

-- a part that begins further on
pub slice_advance : (xs : List ℕ) (a e n : ℕ) → n ≤ e - a → slice_range xs (a + n) e ≡ drop n (slice_range xs a e)
slice_advance xs a e n few =
    let whole : n + (e - (a + n)) ≡ e - a = omega arith in
    ap (take (e - (a + n))) (sym (drop-drop n a xs))
    ∙ sym (drop-take n (e - (a + n)) (drop a xs))
    ∙ ap (λ k. drop n (take k (drop a xs))) whole

-- a part is no longer than its bounds are apart
pub slice_short : (xs : List ℕ) (a e : ℕ) → length (slice_range xs a e) ≤ e - a
slice_short xs a e = let cut = length-take (e - a) (drop a xs) in omega arith

-- a part of a list that reaches so far
pub slice_long : (xs : List ℕ) (a n : ℕ) → a + n ≤ length xs → length (slice_range xs a (a + n)) ≡ n
slice_long xs a n inside =
    let cut = length-take (a + n - a) (drop a xs) in
    let rest = length-drop a xs in
    omega arith

-- what was moved to the front is held still
pub held_still : (first moved last : List ℕ) (start end : ℕ) → take (end - start) moved ≡ slice_range first start end
    → take (end - start) last ≡ take (end - start) moved → slice_range last 0 (end - start) ≡ slice_range first start end
held_still first moved last start end front kept = between_from_start last (end - start) ∙ kept ∙ front

-- and what came behind it
pub held_grown : (first moved last : List ℕ) (start end n : ℕ) → take (end - start) moved ≡ slice_range first start end
    → take (end - start) last ≡ take (end - start) moved
    → slice_range last 0 (end - start + n) ≡ slice_range first start end ++ slice_range last (end - start) (end - start + n)
held_grown first moved last start end n front kept =
    let m = end - start in
    let count : n ≡ m + n - m = omega arith in
    between_from_start last (m + n) ∙ take-add m n last
    ∙ ap (λ l. l ++ take n (drop m last)) (kept ∙ front)
    ∙ ap (λ k. slice_range first start end ++ take k (drop m last)) count

pub nothing_read : (before after : Option (List ℕ)) → Keeps before after → Consumes before after []
nothing_read before after kept = Consumes-kept before before after [] (Consumes-nil before) kept

empty : (xs : List ℕ) → length xs ≡ 0 → xs ≡ []
empty [] none = refl
empty (x ∷ xs) none = absurd (omega arith)

-- where no byte more was read, what is held is the same
pub same_held : (old new : WindowState) (before after : Option (List ℕ)) → Slides old new before after
    → new.read ≡ old.read → new.held ≡ old.held
same_held old new before after slides same =
    let counted = slides.counted in
    slides.held ∙ ap (λ more. old.held ++ more) (empty slides.more (omega arith)) ∙ append-nil old.held

pub reads_on : (first old emptied new : WindowState) (start before after : Option (List ℕ)) → ReadsOn first old start before
    → emptied.read ≡ old.read → Slides emptied new before after → ReadsOn first new start after
reads_on first old emptied new start before after done same more =
    let one = done.counted in
    let two = more.counted in
    let long = length-append done.more more.more in
    record {
      more = done.more ++ more.more;
      consumed = Consumes-trans start before after done.more more.more done.consumed more.consumed;
      counted = omega arith;
    }
