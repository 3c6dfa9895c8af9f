use Rattle.std.proofs.Common.{◌≡◌, ◌-◌, ◌*◌, ◌%◌, ◌^◌, ◌<◌, eqb, ap, ◌∙◌, arith}
use Rattle.std.specs.Int.{bit_at}
use Rattle.std.proofs.lemmas.Nat.{pow_below}
use Rattle.fy_locality.proofs.Lowest.{low_some, low_all}
use Rattle.fy_locality.proofs.process_set.low_bits.Goals as goal

pub returns-then-count-lt64 : goal.returns-then-count-lt64
returns-then-count-lt64 c = λ i h.
    let power : 2 ^ c.args.count < 2 ^ 64 = pow_below c.args.count 64 c.if-count-lt64.true in
    let one : 1 * 2 ^ c.args.count % 2 ^ 64 ≡ 2 ^ c.args.count = omega arith in
    ap (λ n. eqb (bit_at (n - 1) i) 1) one ∙ low_some c.args.count i h

pub returns-else-count-lt64 : goal.returns-else-count-lt64
returns-else-count-lt64 c = low_all c.args.count c.if-count-lt64.false
