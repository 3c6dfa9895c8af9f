-- what was read of three lines, and what is out
use Rattle.std.proofs.Common.{◌≡◌, ℕ, zero, suc, ◌+◌, ◌<◌, ◌≤◌, Bool, true, false, ◌==◌, if◌then◌else◌, List, [], ◌∷◌, ◌++◌, length, Some, inl, inr, ◌⊎◌, refl, sym, ap, ◌∙◌, subst, arith, append_assoc, append-nil, length-append, ne_eqb, ltb-true, leb-true}
use Rattle.std.specs.Prelude.{codes}
use Rattle.fy_lines.specs.Lines.{lines_of, onto_first, IsLine}
use Rattle.fy_lines.specs.Readings.{ReadsWithinLine}
use Rattle.fy_lines.proofs.SplitLemmas.{lines_of_split, lines_of_lone}
use Rattle.fy_guard.specs.Cuts.{with_feeds}
use Rattle.fy_worked.specs.Turns.{Stands}

pub first : Stands (codes "d\n") (codes "a\n")
first = record {
  front = codes "a" ∷ [];
  rest = codes "bc\nd\n";
  text = codes "a\n";
  lines = refl;
  within = (codes "bc\n", refl, inr (codes "bc", refl, ((λ e. omega arith), ((λ e. omega arith), tt))));
  answered = refl;
  out = refl;
}

pub second : Stands (codes "d\n") (codes "a\nbc\n")
second = record {
  front = codes "a" ∷ codes "bc" ∷ [];
  rest = codes "d\n";
  text = codes "a\nbc\n";
  lines = refl;
  within = ([], refl, inl tt);
  answered = refl;
  out = refl;
}

pub half : Stands (codes "c\nd\n") (codes "a\n")
half = record {
  front = codes "a" ∷ [];
  rest = codes "bc\nd\n";
  text = codes "a\n";
  lines = refl;
  within = (codes "b", refl, inl ((λ e. omega arith), tt));
  answered = refl;
  out = refl;
}

-- ---- what else may have been read

either : (b : Bool) (x : ℕ) (lines : List (List ℕ)) → 0 < length (if b then [] ∷ lines else onto_first x lines)
either true x lines = omega arith
either false x [] = omega arith
either false x (line ∷ lines) = omega arith

some_lines : (bytes : List ℕ) → 0 < length bytes → 0 < length (lines_of bytes)
some_lines [] some = absurd (omega arith)
some_lines (x ∷ xs) some = either (x == 10) x (lines_of xs)

onto_many : (b : ℕ) (lines : List (List ℕ)) → 0 < length lines → length (onto_first b lines) ≡ length lines
onto_many b [] some = absurd (omega arith)
onto_many b (line ∷ lines) some = refl

-- the front of a line, before what isn't read
inside : (front left : List ℕ) → IsLine front → 0 < length left → length (lines_of (front ++ left)) ≡ length (lines_of left)
inside [] left is some = refl
inside (b ∷ front) left is some =
    let more = inside front left is.1 some in
    let there : 0 < length (lines_of (front ++ left)) = let s = some_lines left some in omega arith in
    rw (ne_eqb b 10 is.0) (onto_many b (lines_of (front ++ left)) there ∙ more)

reads : (rest left : List ℕ) → ReadsWithinLine (Some rest) (Some left) → 0 < length left
    → (length (lines_of rest) ≡ length (lines_of left)) ⊎ ((line : List ℕ) × (lines_of rest ≡ line ∷ lines_of left))
reads rest left within some = elim within.2 [
  | inl is ↦ inl (ap (λ bs. length (lines_of bs)) within.1 ∙ inside within.0 left is some)
  | inr ended ↦ inr (
    ended.0,
    let feed : (ended.0 ++ 10 ∷ []) ++ left ≡ ended.0 ++ 10 ∷ left = simp append_assoc in
        lines_of_split rest ended.0 left (within.1 ∙ ap (λ c. c ++ left) ended.1 ∙ feed) ended.2,
  )
]

-- nothing is left: one line at most was read
reads_all : (rest : List ℕ) → ReadsWithinLine (Some rest) (Some []) → length (lines_of rest) ≤ 1
reads_all rest within = elim within.2 [
  | inl is ↦ subst (λ bs. length (lines_of bs) ≤ 1) (sym all) (alone within.0 is)
  | inr ended ↦
      let one = ap length (lines_of_split rest ended.0 [] (all ∙ ended.1) ended.2) in omega arith
]
  where
    all : rest ≡ within.0
    all = within.1 ∙ append-nil within.0

    alone : (line : List ℕ) → IsLine line → length (lines_of line) ≤ 1
    alone [] is = leb-true 0 1 refl
    alone (x ∷ xs) is = let one = ap length (lines_of_lone (x ∷ xs) (omega arith) is) in omega arith

-- how long so many of the lines are, with their line feeds
written : ℕ → ℕ
written zero = 0
written (suc zero) = 2
written (suc (suc zero)) = 5
written (suc (suc (suc n))) = 7

sizes : (front rest : List (List ℕ)) → codes "a" ∷ codes "bc" ∷ codes "d" ∷ [] ≡ front ++ rest → length (with_feeds front) ≡ written (length front)
unfolding written
sizes [] rest e = refl
sizes (x ∷ []) rest e =
    let one : codes "a" ≡ x = cc in
    subst (λ l. length (with_feeds (l ∷ [])) ≡ 2) one refl
sizes (x ∷ y ∷ []) rest e =
    let one : codes "a" ≡ x = cc in
    let two : codes "bc" ≡ y = cc in
    subst (λ ls. length (with_feeds ls) ≡ 5) (λ i. one i ∷ two i ∷ []) refl
sizes (x ∷ y ∷ z ∷ []) rest e =
    let one : codes "a" ≡ x = cc in
    let two : codes "bc" ≡ y = cc in
    let three : codes "d" ≡ z = cc in
    subst (λ ls. length (with_feeds ls) ≡ 7) (λ i. one i ∷ two i ∷ three i ∷ []) refl
sizes (x ∷ y ∷ z ∷ u ∷ front) rest e = absurd (cc)

module _ (left out : List ℕ) (stands : Stands left out) where
  out_is : (n : ℕ) → length stands.front ≡ n → length out ≡ written n
  out_is n e = ap length (stands.out ∙ stands.answered) ∙ sizes stands.front (lines_of stands.rest) stands.lines ∙ ap written e

  total : length stands.front + length (lines_of stands.rest) ≡ 3
  total = let all = ap length stands.lines ∙ length-append stands.front (lines_of stands.rest) in omega arith

one_or_two : (out : List ℕ) → Stands (codes "d\n") out → (length out ≡ 2) ⊎ (length out ≡ 5)
unfolding written
one_or_two out stands =
    let all = total (codes "d\n") out stands in
    elim (reads stands.rest (codes "d\n") stands.within (ltb-true 0 2 refl)) [
      | inl same ↦ inr (out_is (codes "d\n") out stands 2 (omega arith))
      | inr more ↦ let two = ap length more.1 in inl (out_is (codes "d\n") out stands 1 (omega arith))
    ]

neither : (n : ℕ) → (n ≡ 2) ⊎ (n ≡ 5) → (n ≡ 2 → ⊥) → (n ≡ 5 → ⊥) → ⊥
neither n is two five = elim is [ inl e ↦ two e | inr e ↦ five e ]

pub none : Stands (codes "d\n") [] → ⊥
none stands = neither 0 (one_or_two [] stands) (λ e. omega arith) (λ e. omega arith)

pub third : Stands (codes "d\n") (codes "a\nbc\nd\n") → ⊥
third stands = neither 7 (one_or_two (codes "a\nbc\nd\n") stands) (λ e. omega arith) (λ e. omega arith)

pub later : Stands (codes "d\n") (codes "bc\n") → ⊥
later stands = neither 3 (one_or_two (codes "bc\n") stands) (λ e. omega arith) (λ e. omega arith)

pub half_none : Stands (codes "c\nd\n") [] → ⊥
unfolding written
half_none stands =
    let all = total (codes "c\nd\n") [] stands in
    elim (reads stands.rest (codes "c\nd\n") stands.within (ltb-true 0 4 refl)) [
      | inl same ↦ let out = out_is (codes "c\nd\n") [] stands 1 (omega arith) in omega arith
      | inr more ↦ whole stands.front more.0 (stands.lines ∙ ap (λ ls. stands.front ++ ls) more.1)
    ]
  where
    whole : (front : List (List ℕ)) (line : List ℕ) → codes "a" ∷ codes "bc" ∷ codes "d" ∷ [] ≡ front ++ line ∷ codes "c" ∷ codes "d" ∷ [] → ⊥
    whole [] line e = let same : codes "bc" ≡ codes "c" = cc in let long = ap length same in omega arith
    whole (x ∷ []) line e = cc
    whole (x ∷ y ∷ []) line e = cc
    whole (x ∷ y ∷ z ∷ []) line e = cc
    whole (x ∷ y ∷ z ∷ u ∷ front) line e = cc

pub one_of_three : Stands [] (codes "a\n") → ⊥
unfolding written
one_of_three stands =
    let all = total [] (codes "a\n") stands in
    let few = reads_all stands.rest stands.within in
    at (length stands.front) refl (omega arith)
  where
    at : (n : ℕ) → length stands.front ≡ n → 2 ≤ n → ⊥
    at zero e many = omega arith
    at (suc zero) e many = omega arith
    at (suc (suc zero)) e many = let out = out_is [] (codes "a\n") stands 2 e in omega arith
    at (suc (suc (suc n))) e many = let out = out_is [] (codes "a\n") stands (suc (suc (suc n))) e in omega arith
