use Rattle.std.proofs.Common.{◌≡◌, ◌∙◌, ◌+◌, ◌-◌, ◌++◌, min, ap, length, take}
use Rattle.std.specs.Str.Parse.{digits_value}
use Rattle.fy_events.specs.declared.TheConstants.{MOST_MICROS}
use Rattle.fy_events.specs.Micros.{millionth_point}
use Rattle.fy_events.proofs.Zeros.{by_front}
use Rattle.fy_events.proofs.micros.millionths.Goals as goal

pub returns : goal.returns
returns c =
    let p = c.args.parts.now in
    let whole = c.whole-whole.result.now in
    let fraction = c.fraction-fraction.result.now in
    let digits = length whole + length fraction in
    let point = c.millionth_point-point.result in
    let whole_is = c.whole-whole.ensures.value in
    let fraction_is = c.fraction-fraction.ensures in
    let many : digits ≡ length p.whole + length p.fraction =
    ap (λ xs. length xs + length fraction) whole_is ∙ ap (λ xs. length p.whole + length xs) fraction_is in
    let front =
    c.front_value-front.ensures
    ∙ ap (λ n. min (digits_value 10 (take n (whole ++ fraction))) MOST_MICROS) c.min.ensures
    ∙ ap (λ xs. min (digits_value 10 (take (min point digits) (xs ++ fraction))) MOST_MICROS) whole_is
    ∙ ap (λ xs. min (digits_value 10 (take (min point digits) (p.whole ++ xs))) MOST_MICROS) fraction_is in
    let zeros =
    c.min-2.ensures ∙ ap (λ n. min n 12) c.saturating_sub.ensures
    ∙ c.millionth_point-point.ensures.zeros in
    by_front p digits point c.front_value-front.result c.with_zeros.result many
    c.millionth_point-point.ensures.kept front
    (c.with_zeros.ensures (millionth_point p - digits) zeros)
