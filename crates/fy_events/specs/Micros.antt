-- numbers in events: a time in microseconds, and a whole number
use Rattle.std.specs.Prelude.{◌+◌, ◌-◌, ◌*◌, ◌^◌, ℕ, Bool, ◌&&◌, not, ◌==◌, nat_lt, List, ◌++◌, length, take, slice_index, Option, Some, None, if◌then◌else◌}
use Rattle.std.specs.Str.Parse.{digits_value}
use Rattle.fast_float.specs.Text.{Parts, scan, digits_of, minus}
use Rattle.fy_events.specs.declared.TheConstants.{MOST_MICROS}

-- where the point stands among the digits of a number, once the number counts millionths
abbrev pub millionth_point : Parts → ℕ
millionth_point p =
    if p.exponent_negative then (length p.whole + 6) - digits_value 10 p.exponent
    else length p.whole + 6 + digits_value 10 p.exponent

-- a number in millionths: its digits before that point, and zeros up to it. The digits behind it
-- are cut off
abbrev pub millionths : Parts → ℕ
millionths p =
    digits_value 10 (take (millionth_point p) (p.whole ++ p.fraction))
    * 10 ^ (millionth_point p - length (p.whole ++ p.fraction))

-- a time in microseconds, of a number in seconds: it has no minus, and is below the limit
abbrev pub micros_from : List ℕ → Option ℕ
micros_from text =
    if slice_index text 0 == minus then None
    else if nat_lt (millionths (scan text)) MOST_MICROS then Some (millionths (scan text))
    else None

-- a whole number below another: digits alone
abbrev pub is_whole : Parts → Bool
is_whole p = nat_lt 0 (length p.whole) && not p.point && (length p.exponent == 0)

-- the whole number that digits write, if it is below another
abbrev pub whole_from : (below : ℕ) → List ℕ → Option ℕ
whole_from below text =
    if is_whole (scan text) && nat_lt (digits_of (scan text)) below
    then Some (digits_of (scan text)) else None
