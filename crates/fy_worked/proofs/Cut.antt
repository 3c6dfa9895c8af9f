-- bytes have one cut at most
use Rattle.std.proofs.Common.{◌≡◌, ℕ, ◌<◌, ◌≤◌, List, [], ◌∷◌, ◌++◌, length, refl, sym, ap, ◌∙◌, subst, arith, append_assoc, length-append, ltb-true, leb-true}
use Rattle.std.specs.Prelude.{codes}
use Rattle.std.specs.List.{AllByRecursion}
use Rattle.fy_lines.specs.Lines.{lines_of, IsLine}
use Rattle.fy_lines.proofs.SplitLemmas.{lines_of_ended, lines_of_lone}
use Rattle.fy_guard.specs.Cuts.{with_feeds, IsShortLine, IsCutAt, IsUncut}

first_of : (line rest : List ℕ) (lines : List (List ℕ)) → with_feeds (line ∷ lines) ++ rest ≡ line ++ 10 ∷ (with_feeds lines ++ rest)
first_of line rest lines = simp append_assoc

-- the lines before the cut, and half a line
pub lines_to : (lines : List (List ℕ)) (half : List ℕ) → AllByRecursion IsShortLine lines → IsLine half → 0 < length half
    → lines_of (with_feeds lines ++ half) ≡ lines ++ half ∷ []
lines_to [] half each is some = lines_of_lone half some is
lines_to (line ∷ lines) half each is some =
    ap lines_of (first_of line half lines) ∙ lines_of_ended line (with_feeds lines ++ half) each.0.0
    ∙ ap (λ ls. line ∷ ls) (lines_to lines half each.1 is some)

cut_lines : (bytes : List ℕ) (number whole : ℕ) (cut : IsCutAt bytes number whole) → lines_of bytes ≡ cut.lines ++ cut.half ∷ []
cut_lines bytes number whole cut = ap lines_of cut.split ∙ lines_to cut.lines cut.half cut.each cut.short.0 cut.some

pub third : IsCutAt (codes "a\nbc\nd") 3 5
third = record {
  lines = codes "a" ∷ codes "bc" ∷ [];
  half = codes "d";
  split = refl;
  each = ((((λ e. omega arith), tt), leb-true 1 65536 refl), ((((λ e. omega arith), ((λ e. omega arith), tt)), leb-true 2 65536 refl), tt));
  short = (((λ e. omega arith), tt), leb-true 1 65536 refl);
  some = ltb-true 0 1 refl;
  at = refl;
  before = refl;
}

last_of_three : {A : Type 0} (a b c half : A) (lines : List A) → a ∷ b ∷ c ∷ [] ≡ lines ++ half ∷ [] → half ≡ c
last_of_three a b c half [] e = absurd (cc)
last_of_three a b c half (x ∷ []) e = absurd (cc)
last_of_three a b c half (x ∷ y ∷ []) e = cc
last_of_three a b c half (x ∷ y ∷ z ∷ []) e = absurd (cc)
last_of_three a b c half (x ∷ y ∷ z ∷ u ∷ lines) e = absurd (cc)

record IsThird (number whole : ℕ) : Type 0 where
  number_is : number ≡ 3
  whole_is : whole ≡ 5

is_third : (number whole : ℕ) → IsCutAt (codes "a\nbc\nd") number whole → IsThird number whole
is_third number whole cut =
    let lines = cut_lines (codes "a\nbc\nd") number whole cut in
    let last : cut.half ≡ codes "d" = last_of_three _ _ _ _ cut.lines lines in
    let count = ap length lines ∙ length-append cut.lines (cut.half ∷ []) in
    let long = ap length last in
    let all = ap length cut.split ∙ length-append (with_feeds cut.lines) cut.half in
    record { number_is = omega arith; whole_is = omega arith }

pub second : IsCutAt (codes "a\nbc\nd") 2 5 → ⊥
second cut = let is = is_third 2 5 cut in omega arith

pub half : IsCutAt (codes "a\nbc\nd") 3 6 → ⊥
half cut = let is = is_third 3 6 cut in omega arith

pub earlier : IsCutAt (codes "a\nbc\nd") 2 2 → ⊥
earlier cut = let is = is_third 2 2 cut in omega arith

-- ---- no cut

last_of_two : {A : Type 0} (a b half : A) (lines : List A) → a ∷ b ∷ [] ≡ lines ++ half ∷ [] → lines ≡ a ∷ []
last_of_two a b half [] e = absurd (cc)
last_of_two a b half (x ∷ []) e = cc
last_of_two a b half (x ∷ y ∷ []) e = absurd (cc)
last_of_two a b half (x ∷ y ∷ z ∷ lines) e = absurd (cc)

pub whole : IsUncut (codes "a\nbc\n")
whole number is =
    let cut = is.1 in
    let lines = cut_lines (codes "a\nbc\n") number is.0 cut in
    let one : cut.lines ≡ codes "a" ∷ [] = last_of_two _ _ _ cut.lines lines in
    let front : codes "a\nbc\n" ≡ codes "a\n" ++ cut.half = cut.split ∙ ap (λ ls. with_feeds ls ++ cut.half) one in
    let rest : codes "bc\n" ≡ cut.half = cc in
    (subst IsLine (sym rest) cut.short.0).1.1.0 refl

pub nothing : IsUncut []
nothing number is =
    let cut = is.1 in
    let some = cut.some in
    let all = ap length cut.split ∙ length-append (with_feeds cut.lines) cut.half in
    omega arith

pub longer : (bytes line : List ℕ) (more : List (List ℕ)) → lines_of bytes ≡ line ∷ more → 65536 < length line → IsUncut bytes
longer bytes line more are many number is =
    let cut = is.1 in
    at cut.lines cut.half cut.each cut.short.1 (sym are ∙ cut_lines bytes number is.0 cut)
  where
    at : (lines : List (List ℕ)) (half : List ℕ) → AllByRecursion IsShortLine lines → length half ≤ 65536 → line ∷ more ≡ lines ++ half ∷ [] → ⊥
    at [] half each short e = let same : line ≡ half = cc in let size = ap length same in omega arith
    at (one ∷ lines) half each short e = let same : line ≡ one = cc in let size = ap length same in let few = each.0.1 in omega arith

pub longest : (line : List ℕ) → IsLine line → length line ≡ 65536 → IsCutAt line 1 0
longest line is long = record {
  lines = [];
  half = line;
  split = refl;
  each = tt;
  short = (is, omega arith);
  some = omega arith;
  at = refl;
  before = refl;
}
