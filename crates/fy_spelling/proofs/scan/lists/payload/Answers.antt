use Rattle.std.proofs.Common.{◌≡◌, ◌<◌, ◌+◌, ◌*◌, ◌++◌, ◌∷◌, [], length, refl, rules, arith}
use Rattle.hex.specs.Hex.{encode_with}
use Rattle.fy_spelling.proofs.ScannedLists.{byte_more}
use Rattle.fy_spelling.proofs.scan.lists.payload.Goals as goal

pub loop-i-init : goal.loop-i-init
unfolding encode_with
loop-i-init c =
    let none : c.in-Ok.bytes.items ≡ [] = search rules in
    rw none refl

pub loop-i-preserved : goal.loop-i-preserved
loop-i-preserved c =
    let high = c.in_ok-high.high in
    let low = c.in_ok-low.low in
    let i = c.loop-i.i in
    let within : 2 * i + 1 < length c.args.digits.now = omega arith in
    let pushed : c.push.new.self.items ≡ c.loop-i.bytes.items ++ ((16 * high + low) ∷ []) = search rules in
    rw pushed
    (byte_more c.args.digits.now c.loop-i.bytes.items i high low within
    c.in_ok-high.ensures.small c.in_ok-low.ensures.small c.in_ok-high.ensures.byte
    c.in_ok-low.ensures.byte c.loop-i.invariant)
