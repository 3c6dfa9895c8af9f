-- numbers with zeros behind them, up to the limit
use Rattle.std.proofs.Common.{◌≡◌, ◌^◌, ◌*◌, ◌+◌, ◌-◌, ◌≤◌, ◌∙◌, ℕ, zero, suc, Bool, true, false, nat_le, min, List, ◌++◌, length, take, take_all, arith, lit<, mul-le-mul_right, mul-le-mul_left, ap, zero-mul, sym, refl, leb-true, leb-false, length-append}
use native.Mathlib.Nat.{pow-le-pow_right}
use Rattle.core.proofs.dec2flt.ExactLemmas.{ten_to_pos}
use Rattle.std.specs.Str.Parse.{digits_value}
use Rattle.fast_float.specs.Text.{Parts}
use Rattle.fy_events.specs.declared.TheConstants.{MOST_MICROS}
use Rattle.fy_events.specs.Micros.{millionths, millionth_point}

-- twelve zeros are as good as more
enough : (value more : ℕ) → 12 ≤ more
    → min (value * 10 ^ 12) 1000000000000 ≡ min (value * 10 ^ more) 1000000000000
enough zero more le = omega (arith, zero-mul (10 ^ 12), zero-mul (10 ^ more))
enough (suc value) more le =
    let large : 10 ^ 12 ≤ 10 ^ more = pow-le-pow_right (lit< tt) {i = 12} le in
    let some : 1 ≤ suc value = omega arith in
    let one : 1 * 10 ^ 12 ≤ suc value * 10 ^ 12 = mul-le-mul_right (10 ^ 12) some in
    let much : 1 * 10 ^ more ≤ suc value * 10 ^ more = mul-le-mul_right (10 ^ more) some in
    omega (arith, large, much, one)

pub as_good : (value zeros more : ℕ) → zeros ≡ min more 12
    → min (value * 10 ^ zeros) MOST_MICROS ≡ min (value * 10 ^ more) MOST_MICROS
as_good value zeros more e = by (nat_le more 12) refl
  where
    by : (b : Bool) → nat_le more 12 ≡ b
        → min (value * 10 ^ zeros) MOST_MICROS ≡ min (value * 10 ^ more) MOST_MICROS
    by true f =
        let same : zeros ≡ more = omega (arith, e, leb-true _ _ f) in
        ap (λ n. min (value * 10 ^ n) MOST_MICROS) same
    by false f =
        let twelve : zeros ≡ 12 = omega (arith, e, leb-false _ _ f) in
        ap (λ n. min (value * 10 ^ n) MOST_MICROS) twelve
        ∙ enough value more (omega (arith, leb-false _ _ f))

-- a value may be cut at the limit before zeros are put behind it
cut : (value tens : ℕ) → 1 ≤ tens
    → min (min value MOST_MICROS * tens) MOST_MICROS ≡ min (value * tens) MOST_MICROS
cut value tens some = by (nat_le value MOST_MICROS) refl
  where
    by : (b : Bool) → nat_le value MOST_MICROS ≡ b
        → min (min value MOST_MICROS * tens) MOST_MICROS ≡ min (value * tens) MOST_MICROS
    by true f =
        let same : min value MOST_MICROS ≡ value = omega (arith, leb-true _ _ f) in
        ap (λ n. min (n * tens) MOST_MICROS) same
    by false f =
        let same : min value MOST_MICROS ≡ MOST_MICROS = omega (arith, leb-false _ _ f) in
        let limit : MOST_MICROS * 1 ≤ MOST_MICROS * tens = mul-le-mul_left MOST_MICROS some in
        let more : value * 1 ≤ value * tens = mul-le-mul_left value some in
        ap (λ n. min (n * tens) MOST_MICROS) same ∙ omega (arith, limit, more, leb-false _ _ f)

-- the first of a list, counted no further than it is long
take_within : (n : ℕ) (xs : List ℕ) → take (min n (length xs)) xs ≡ take n xs
take_within n xs = by (nat_le n (length xs)) refl
  where
    by : (b : Bool) → nat_le n (length xs) ≡ b → take (min n (length xs)) xs ≡ take n xs
    by true f =
        let same : min n (length xs) ≡ n = omega (arith, leb-true _ _ f) in
        ap (λ m. take m xs) same
    by false f =
        let same : min n (length xs) ≡ length xs = omega (arith, leb-false _ _ f) in
        ap (λ m. take m xs) same ∙ take_all (length xs) xs (omega arith)
        ∙ sym (take_all n xs (omega (arith, leb-false _ _ f)))

-- millionths by the value of the first digits, with zeros behind them
pub by_front : (p : Parts) (digits point front result : ℕ)
    → digits ≡ length p.whole + length p.fraction
    → min point digits ≡ min (millionth_point p) digits
    → front ≡ min (digits_value 10 (take (min point digits) (p.whole ++ p.fraction))) MOST_MICROS
    → result ≡ min (front * 10 ^ (millionth_point p - digits)) MOST_MICROS
    → result ≡ min (millionths p) MOST_MICROS
by_front p digits point front result many kept front_is result_is =
    let ds = p.whole ++ p.fraction in
    let long : digits ≡ length ds = omega (arith, many, length-append p.whole p.fraction) in
    let place : min point digits ≡ min (millionth_point p) (length ds) =
    kept ∙ ap (min (millionth_point p)) long in
    let first : take (min point digits) ds ≡ take (millionth_point p) ds =
    ap (λ n. take n ds) place ∙ take_within (millionth_point p) ds in
    let value = digits_value 10 (take (millionth_point p) ds) in
    let front_as : front ≡ min value MOST_MICROS =
    front_is ∙ ap (λ xs. min (digits_value 10 xs) MOST_MICROS) first in
    result_is ∙ ap (λ n. min (n * 10 ^ (millionth_point p - digits)) MOST_MICROS) front_as
    ∙ cut value (10 ^ (millionth_point p - digits)) (ten_to_pos (millionth_point p - digits))
    ∙ ap (λ n. min (value * 10 ^ (millionth_point p - n)) MOST_MICROS) long
