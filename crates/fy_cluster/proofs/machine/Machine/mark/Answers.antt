use Rattle.std.proofs.Common.{sym, arith}
use Rattle.fy_cluster.proofs.Delivered.{is_held, rec_there, marks_now, may_be_taken}
use Rattle.fy_cluster.proofs.machine.Machine.mark.Goals as goal

pub returns-then-clogged : goal.returns-then-clogged
returns-then-clogged g c = is_held g.point c.args.message _ _ c.requires.0 c.requires.1.1.0 c.requires.1.1.1 (sym c.if-clogged.ensures)

pub take_out-requires : goal.take_out-requires
take_out-requires g c = may_be_taken c.args.self.now.net c.args.message _ c.requires.1.1.0 (sym c.if-clogged.ensures)

pub mark-acked-requires-clause-there : goal.mark-acked-requires-clause-there
mark-acked-requires-clause-there g c = rec_there c.test_is_satisfaction.ensures g.point c.args.message c.args.rec c.args.from c.args.self.now c.requires.0 c.requires.1.0 c.requires.1.1.0

pub mark-acked-requires-clause-small : goal.mark-acked-requires-clause-small
mark-acked-requires-clause-small g c = let a = c.requires.0.net.count in let b = c.requires.0.dead.few in let l = c.requires.1.1.1 in omega arith

pub returns : goal.returns
returns g c =
    marks_now c.test_is_satisfaction.ensures c.a_mark_is_one_more.ensures.teams c.a_mark_is_one_more.ensures.marks c.a_mark_acknowledges.ensures.marks g.point c.args.message c.args.rec c.args.from c.args.self.now c.mark-acked.result c.take_out.new.net c.mark-acked.new.self c.requires.0 c.requires.1.0 c.requires.1.1.0 c.requires.1.1.1
    (sym c.if-clogged.ensures)
    c.take_out.ensures
    c.mark-acked.ensures.marked
    c.mark-acked.ensures.acked
