-- numbers in decimal: one more digit, where they end, and that each is of one number
use Rattle.std.proofs.Common.{zero, suc, ◌≡◌, ℕ, ◌+◌, ◌*◌, ◌/◌, ◌%◌, ◌^◌, ◌<◌, ◌≤◌, Bool, false, cond, List, [], ◌∷◌, ◌++◌, length, get_or, map, refl, sym, ap, subst, ◌∙◌, arith}
use Rattle.std.specs.Prelude.{◌==◌}
use Rattle.std.specs.List.{AllByRecursion}
use Rattle.std.specs.Int.Digits.{digits_of, AllBelowBase}
use Rattle.std.specs.Fmt.{decimal}
use Rattle.std.proofs.lemmas.Bool.Decides.{nat_tests}
use Rattle.std.proofs.lemmas.Int.Digits.{digits_of_step, all_below_base_digits_of, first_digits_of, same_from_digits_of, length-digits_of-le}
use Rattle.std.proofs.lemmas.Fmt.{decimal-digits_of, decimal_digit}
use Rattle.fy_policy.specs.Text.{numeral}

abbrev pub glyph : ℕ → ℕ
glyph d = 48 + d

-- bytes that are digits
abbrev pub AreDigits : List ℕ → Type 0
AreDigits ds = AllByRecursion (λ c. (48 ≤ c) × (c < 58)) ds

abbrev pub IsDigit : ℕ → Type 0
IsDigit c = (48 ≤ c) × (c < 58)

pub numeral_zero : numeral 0 ≡ 48 ∷ []
unfolding numeral
numeral_zero = refl

numeral-cond : (n : ℕ) (b : Bool) → (n == 0) ≡ b → numeral n ≡ cond b (48 ∷ []) (map glyph (digits_of 10 n))
unfolding numeral
numeral-cond n b e = ap (λ t. cond t (48 ∷ []) (map glyph (digits_of 10 n))) e

pub numeral_some : (n : ℕ) → 0 < n → numeral n ≡ map glyph (digits_of 10 n)
numeral_some n h = numeral-cond n false (grind (arith, nat_tests))

map-append : (xs ys : List ℕ) → map glyph (xs ++ ys) ≡ map glyph xs ++ map glyph ys
map-append [] ys = refl
map-append (x ∷ xs) ys = ap (λ t. glyph x ∷ t) (map-append xs ys)

-- one more digit behind a number that isn't 0
pub numeral_push : (n d : ℕ) → 0 < n → d < 10 → numeral (n * 10 + d) ≡ numeral n ++ (48 + d) ∷ []
numeral_push n d some small =
    let big : 0 < n * 10 + d = omega arith in
    let front : (n * 10 + d) / 10 ≡ n = omega arith in
    let last : (n * 10 + d) % 10 ≡ d = omega arith in
    numeral_some (n * 10 + d) big
    ∙ ap (map glyph) (digits_of_step 10 (n * 10 + d) (omega arith) big ∙ (λ i. digits_of 10 (front i) ++ (last i ∷ [])))
    ∙ map-append (digits_of 10 n) (d ∷ [])
    ∙ ap (λ t. t ++ (48 + d) ∷ []) (sym (numeral_some n some))

-- a number of one digit
pub numeral_digit : (d : ℕ) → d < 10 → numeral d ≡ (48 + d) ∷ []
numeral_digit zero h = numeral_zero
numeral_digit (suc d) h =
    numeral_some (suc d) (omega arith)
    ∙ ap (map glyph) (digits_of_step 10 (suc d) (omega arith) (omega arith) ∙ (let front : suc d / 10 ≡ 0 = omega arith in let last : suc d % 10 ≡ suc d = omega arith in λ i. digits_of 10 (front i) ++ (last i ∷ [])))

glyphs_are_digits : (ds : List ℕ) → AllBelowBase 10 ds → AreDigits (map glyph ds)
glyphs_are_digits [] h = tt
glyphs_are_digits (d ∷ ds) h = ((omega arith, omega arith), glyphs_are_digits ds h.1)

pub AreDigits-numeral : (n : ℕ) → AreDigits (numeral n)
AreDigits-numeral zero = subst AreDigits (sym numeral_zero) ((omega arith, omega arith), tt)
AreDigits-numeral (suc n) = subst AreDigits (sym (numeral_some (suc n) (omega arith))) (glyphs_are_digits (digits_of 10 (suc n)) (all_below_base_digits_of 10 (suc n) (omega arith)))

-- what is the same up to a first byte that is no digit on either side
pub digits_end : (ds es : List ℕ) (c d : ℕ) (x y : List ℕ) → AreDigits ds → AreDigits es → (IsDigit c → ⊥) → (IsDigit d → ⊥) → ds ++ c ∷ x ≡ es ++ d ∷ y → (ds ≡ es) × (c ≡ d) × (x ≡ y)
digits_end [] [] c d x y hd he hc hy e = (refl, (let h : c ≡ d = cc in h), (let h : x ≡ y = cc in h))
digits_end [] (b ∷ bs) c d x y hd he hc hy e = absurd (hc (let same : c ≡ b = cc in subst IsDigit (sym same) he.0))
digits_end (a ∷ rest) [] c d x y hd he hc hy e = absurd (hy (let same : a ≡ d = cc in subst IsDigit same hd.0))
digits_end (a ∷ rest) (b ∷ bs) c d x y hd he hc hy e =
    let heads : a ≡ b = cc in
    let tails : rest ++ c ∷ x ≡ bs ++ d ∷ y = cc in
    let below = digits_end rest bs c d x y hd.1 he.1 hc hy tails in
    ((λ i. heads i ∷ below.0 i), below.1, below.2)

-- digits to the end are no number and a byte behind it that is no digit
pub digits_go_on : (ds es : List ℕ) (d : ℕ) (y : List ℕ) → AreDigits ds → (IsDigit d → ⊥) → ds ≡ es ++ d ∷ y → ⊥
digits_go_on [] [] d y h hd e = let x : ⊥ = cc in x
digits_go_on [] (b ∷ bs) d y h hd e = let x : ⊥ = cc in x
digits_go_on (a ∷ rest) [] d y h hd e = hd (let same : a ≡ d = cc in subst IsDigit same h.0)
digits_go_on (a ∷ rest) (b ∷ bs) d y h hd e = digits_go_on rest bs d y h.1 hd (let tails : rest ≡ bs ++ d ∷ y = cc in tails)

map_injective : (xs ys : List ℕ) → map glyph xs ≡ map glyph ys → xs ≡ ys
map_injective [] [] e = refl
map_injective [] (y ∷ ys) e = absurd (let x : ⊥ = cc in x)
map_injective (x ∷ xs) [] e = absurd (let y : ⊥ = cc in y)
map_injective (x ∷ xs) (y ∷ ys) e =
    let heads : 48 + x ≡ 48 + y = cc in
    let tails : map glyph xs ≡ map glyph ys = cc in
    let same : x ≡ y = omega arith in
    let rest : xs ≡ ys = map_injective xs ys tails in
    λ i. same i ∷ rest i

-- a number that isn't 0 begins with a digit that isn't 0
pub first_of_some : (n : ℕ) → 0 < n → 48 < get_or (numeral n) 0 0
first_of_some n some =
    let e : numeral n ≡ map glyph (digits_of 10 n) = numeral_some n some in
    go (digits_of 10 n) (first_digits_of 10 n (omega arith) some) (numeral n) e
  where
    go : (ds : List ℕ) → 0 < get_or ds 0 0 → (xs : List ℕ) → xs ≡ map glyph ds → 48 < get_or xs 0 0
    go [] h xs e = absurd (omega arith)
    go (d ∷ ds) h xs e = subst (λ ys. 48 < get_or ys 0 0) (sym e) (omega arith)

pub numeral_once : (m n : ℕ) → numeral m ≡ numeral n → m ≡ n
numeral_once zero zero e = refl
numeral_once zero (suc n) e =
    let first : 48 < get_or (numeral (suc n)) 0 0 = first_of_some (suc n) (omega arith) in
    let same : get_or (numeral (suc n)) 0 0 ≡ 48 = ap (λ xs. get_or xs 0 0) (sym e ∙ numeral_zero) in
    absurd (omega arith)
numeral_once (suc m) zero e =
    let first : 48 < get_or (numeral (suc m)) 0 0 = first_of_some (suc m) (omega arith) in
    let same : get_or (numeral (suc m)) 0 0 ≡ 48 = ap (λ xs. get_or xs 0 0) (e ∙ numeral_zero) in
    absurd (omega arith)
numeral_once (suc m) (suc n) e =
    same_from_digits_of 10 (suc m) (suc n) (omega arith) (map_injective _ _ (sym (numeral_some (suc m) (omega arith)) ∙ e ∙ numeral_some (suc n) (omega arith)))

-- the number and what is behind its comma
pub numeral_then : (m n : ℕ) (x y : List ℕ) → numeral m ++ 44 ∷ x ≡ numeral n ++ 44 ∷ y → (m ≡ n) × (x ≡ y)
numeral_then m n x y e =
    let comma : IsDigit 44 → ⊥ = λ h. omega arith in
    let apart = digits_end (numeral m) (numeral n) 44 44 x y (AreDigits-numeral m) (AreDigits-numeral n) comma comma e in
    (numeral_once m n apart.0, apart.2)

pub length-numeral-le : (n : ℕ) → n ≤ 1024 → length (numeral n) ≤ 4
length-numeral-le zero h = subst (λ xs. length xs ≤ 4) (sym numeral_zero) (omega arith)
length-numeral-le (suc n) h =
    subst (λ xs. length xs ≤ 4) (sym (numeral_some (suc n) (omega arith)))
    (let e = length-map (digits_of 10 (suc n)) in let few : length (digits_of 10 (suc n)) ≤ 4 = length-digits_of-le 10 4 (suc n) (omega arith) (omega arith) in omega arith)
  where
    length-map : (ds : List ℕ) → length (map glyph ds) ≡ length ds
    length-map [] = refl
    length-map (d ∷ ds) = ap suc (length-map ds)

-- what the program writes
pub decimal_is_numeral : (n : ℕ) → n < 2 ^ 64 → decimal n ≡ numeral n
decimal_is_numeral zero h = decimal_digit 0 (omega arith) ∙ sym numeral_zero
decimal_is_numeral (suc n) h = decimal-digits_of (suc n) (omega arith) h ∙ sym (numeral_some (suc n) (omega arith))
