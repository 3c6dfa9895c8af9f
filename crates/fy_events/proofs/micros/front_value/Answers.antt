use Rattle.std.proofs.Common.{◌++◌, arith, zero-add, length-append}
use Rattle.core.proofs.dec2flt.Rows.{one_more}
use Rattle.fy_events.proofs.micros.front_value.Goals as goal

pub loop-at-preserved : goal.loop-at-preserved
loop-at-preserved c =
    let digits = c.args.whole.now ++ c.args.fraction.now in
    let long = length-append c.args.whole.now c.args.fraction.now in
    omega (arith, rw zero-add at (one_more digits 0 c.loop-at.at (omega arith)))
