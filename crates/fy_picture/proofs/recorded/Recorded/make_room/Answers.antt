use Rattle.std.proofs.Common.{length, subst, sym}
use Rattle.fy_picture.specs.Layouts.{HasRoom, IsFull}
use Rattle.fy_picture.proofs.Laying.{so_far_fold}
use Rattle.fy_picture.proofs.Recordings.{folded_show}
use Rattle.fy_picture.proofs.SoFar.{fold_seen, full_seen, kept_seen, room_seen}
use Rattle.fy_picture.proofs.recorded.Recorded.make_room.Goals as goal

pub returns-in-Some-clause-recorded : goal.returns-in-Some-clause-recorded
returns-in-Some-clause-recorded c =
    let old = c.args.self.now in
    let full = subst (λ n. IsFull old.plan n old.entries c.in-Some.width) c.ended.ensures c.in-Some.ensures.full in
    record {
      count = c.requires.count;
      columns = folded_show old.state.setup old.state.journal old.columns.items c.fold.new.columns.items c.fold.ensures.each c.requires.columns;
      laid = so_far_fold old.plan c.in-Some.width (length old.state.journal) old.columns.items c.fold.new.columns.items c.requires.laid
          (subst (λ n. IsFull old.plan (length old.columns.items) n c.in-Some.width) c.requires.count full)
          c.fold.ensures.half c.fold.ensures.whole c.fold.ensures.each;
      acked = c.requires.acked;
    }

pub returns-in-Some-clause-columns : goal.returns-in-Some-clause-columns
returns-in-Some-clause-columns c =
    let old = c.args.self.now in
    let full = subst (λ n. IsFull old.plan n old.entries c.in-Some.width) c.ended.ensures c.in-Some.ensures.full in
    fold_seen old.entries old.columns.items old.plan c.in-Some.width c.fold.new.columns.items full c.fold.ensures.half c.fold.ensures.whole c.fold.ensures.each

pub returns-in-Some-clause-folded : goal.returns-in-Some-clause-folded
returns-in-Some-clause-folded c =
    let old = c.args.self.now in
    let full = subst (λ n. IsFull old.plan n old.entries c.in-Some.width) c.ended.ensures c.in-Some.ensures.full in
    sym (full_seen old.entries old.columns.items old.plan c.in-Some.width full)

pub returns-in-None-clause-columns : goal.returns-in-None-clause-columns
returns-in-None-clause-columns c =
    let old = c.args.self.now in
    let room = subst (λ n. HasRoom old.plan n old.entries) c.ended.ensures (c.full_width.ensures.room c.in-None.is) in
    kept_seen old.entries old.columns.items old.plan room

pub returns-in-None-clause-folded : goal.returns-in-None-clause-folded
returns-in-None-clause-folded c =
    let old = c.args.self.now in
    let room = subst (λ n. HasRoom old.plan n old.entries) c.ended.ensures (c.full_width.ensures.room c.in-None.is) in
    sym (room_seen old.entries old.columns.items old.plan room)
