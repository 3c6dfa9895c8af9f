use Rattle.std.proofs.Common.{arith}
use Rattle.fy_verdict.proofs.Wholes.{in_order_none, in_order_more, in_order_all}
use Rattle.fy_verdict.proofs.entries.check_entry_lines.Goals as goal

pub loop-entry-init : goal.loop-entry-init
loop-entry-init c = in_order_none c.args.count c.args.entries.now

pub loop-entry-preserved : goal.loop-entry-preserved
loop-entry-preserved c =
    in_order_more c.args.count c.args.entries.now c.loop-entry.entry-index c.loop-entry.last _ c.loop-entry-test.true
    c.if-entry-last.false c.if-count-entry.false c.loop-entry.invariant

pub returns : goal.returns
returns c =
    in_order_all c.args.count c.args.entries.now c.loop-entry.entry-index c.loop-entry.last c.loop-entry-test.false
    (omega arith) c.loop-entry.invariant
