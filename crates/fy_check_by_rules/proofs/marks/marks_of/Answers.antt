use Rattle.std.proofs.Common.{◌<◌, ◌≡◌, length, get_or, take, rules}
use Rattle.fy_cluster.specs.History.{members_for}
use Rattle.fy_check_by_rules.specs.Past.{past}
use Rattle.fy_check_by_rules.proofs.Marking.{marked_next, acked_next}
use Rattle.fy_check_by_rules.proofs.marks.marks_of.Goals as goal

pub loop-i-preserved : goal.loop-i-preserved
loop-i-preserved c =
    let steps = c.args.before.now.steps.now in
    let s = c.index-steps-i.result in
    let old = c.loop-i.marks.marked.items in
    let new = c.in_ok-marked.marked.items in
    let within : c.loop-i.i < length steps = c.loop-i-test.true in
    let is : s ≡ get_or steps c.loop-i.i s = c.index-steps-i.is in
    let members : c.in_ok-members.members.items ≡ members_for (past (take c.loop-i.i steps)) c.args.rec = search rules in
    record {
      acked = acked_next steps c.loop-i.i s c.args.rec old new c.in_ok-members.members.items c.loop-i.marks.acked c.acked_then-acked.result within is members c.loop-i.invariant.acked c.loop-i.invariant.marked (search rules) (search rules);
      marked = marked_next steps c.loop-i.i s c.args.rec old new c.loop-i.marks.acked within is c.loop-i.invariant.acked c.loop-i.invariant.marked (search rules);
    }
