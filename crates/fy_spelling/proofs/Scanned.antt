-- what is read from the front of a line, piece by piece
use Rattle.std.proofs.Common.{◌≡◌, ◌∙◌, ℕ, ◌+◌, ◌*◌, ◌/◌, ◌%◌, ◌<◌, ◌^◌, true, false, List, [], ◌∷◌, ◌++◌, length, take, drop, get_or, eqb, Option, Some, None, refl, ap, arith, decimal}
use Rattle.std.specs.Prelude.{IfSome}
use Rattle.std.specs.Option.{MatchOption}
use Rattle.std.specs.Cmp.Lexicographic.{pointwise}
use Rattle.std.proofs.lemmas.Slice.Eq.{strip_prefix_is}
use Rattle.std.proofs.lemmas.Bool.Decides.{Decides-eqb}
use Rattle.std.proofs.lemmas.Fmt.{decimal_digit, decimal_step}
use Rattle.std.proofs.lemmas.Slice.{first_rest}
use Rattle.std.specs.List.{between}
use Rattle.std.proofs.lemmas.List.{take_more}
use denote.Ref.{Bor}

-- what a text is followed by
pub skipped :
    (line text given : List ℕ) (r : Option (Bor (List ℕ))) → given ≡ text
    → MatchOption r (pointwise eqb (take (length given) line) given ≡ false)
    (λ x. (pointwise eqb (take (length given) line) given ≡ true)
    × (x.now ≡ drop (length given) line) × (length x.now + length given ≡ length line))
    → IfSome r (λ rest. line ≡ text ++ rest.now)
skipped line text given None e h = tt
skipped line text given (Some x) e h =
    rw (← e) (strip_prefix_is Decides-eqb line given (Some x) h)

-- a number with one digit more
pub one_digit_more :
    (n d : ℕ) → 0 < n → d < 10 → n * 10 + d < 2 ^ 64
    → decimal (n * 10 + d) ≡ decimal n ++ ((48 + d) ∷ [])
one_digit_more n d some digit small =
    let tens : (n * 10 + d) / 10 ≡ n = omega arith in
    let ones : (n * 10 + d) % 10 ≡ d = omega arith in
    decimal_step (n * 10 + d) (omega arith) small ∙ rw (tens, ones) refl

-- a zero is a number by itself
pub zero_read :
    (line : List ℕ) → 0 < length line → get_or line 0 0 ≡ 48
    → line ≡ decimal 0 ++ between 1 (length line) line
zero_read line some zero =
    first_rest line 0 some ∙ rw (zero, decimal_digit 0 (omega arith)) refl

-- the first digit of a number
pub first_digit :
    (line : List ℕ) (d : ℕ) → 0 < length line → get_or line 0 0 ≡ 48 + d → d < 10
    → take 1 line ≡ decimal d
first_digit [] d some is digit = absurd (omega arith)
first_digit (x ∷ xs) d some is digit = rw (decimal_digit d digit) (ap (λ b. b ∷ []) is)

-- and the next one
pub next_digit :
    (line : List ℕ) (i n d : ℕ) → i < length line → get_or line i 0 ≡ 48 + d → d < 10 → 0 < n
    → n * 10 + d < 2 ^ 64 → take i line ≡ decimal n → take (i + 1) line ≡ decimal (n * 10 + d)
next_digit line i n d within is digit some small before =
    take_more line i 0 within ∙ rw (before, is, one_digit_more n d some digit small) refl
