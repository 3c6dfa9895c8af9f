use Rattle.std.proofs.Common.{arith, ◌<◌, ◌+◌, ◌*◌, ◌^◌, ◌≡◌, length}
use Rattle.std.proofs.lemmas.Grind.{common_steps}
use Rattle.fy_spelling.proofs.Scanned.{zero_read, first_digit, next_digit}
use Rattle.fy_spelling.proofs.scan.tokens.number.Goals as goal

pub returns-then-first-eq0 : goal.returns-then-first-eq0
returns-then-first-eq0 c =
    let some : 0 < length c.args.line.now = grind (arith, common_steps) in
    zero_read c.args.line.now some (omega (arith, c.in_ok-first.ensures.byte))

pub loop-i-init : goal.loop-i-init
loop-i-init c =
    let some : 0 < length c.args.line.now = grind (arith, common_steps) in
    let small = c.in_ok-first.ensures.small in (
      omega arith,
      omega (arith, small),
      first_digit c.args.line.now c.in_ok-first.first some c.in_ok-first.ensures.byte small,
    )

pub loop-i-preserved : goal.loop-i-preserved
loop-i-preserved c =
    let number = c.loop-i.number in
    let more = c.in-Some.more in
    let small = c.in-Some.ensures.small in
    let longer : c.in_ok-number.number ≡ number * 10 + more = c.in_ok-number.ensures in
    let fits : number * 10 + more < 2 ^ 64 = omega arith in
    rw longer (
      omega arith,
      fits,
      next_digit c.args.line.now c.loop-i.i number more (omega arith) c.in-Some.ensures.byte small
          c.loop-i.invariant.0 fits c.loop-i.invariant.2,
    )
