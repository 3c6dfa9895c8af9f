use Rattle.std.proofs.Common.{◌∙◌, length, sym, subst, ap}
use Rattle.fy_cluster.specs.Execution.{Execution}
use Rattle.fy_picture.specs.Layouts.{IsDue, IsLate, laid_by}
use Rattle.fy_picture.specs.Recorded.{columns_of}
use Rattle.fy_picture.specs.SoFar.{with_room}
use Rattle.fy_picture.proofs.Recordings.{column_ended, fewer_left, room_left}
use Rattle.fy_picture.proofs.SoFar.{late_seen, none_ended, one_more_ended}
use Rattle.fy_picture.proofs.recorded.Recorded.end_due.Goals as goal

pub loop-self-smaller : goal.loop-self-smaller
loop-self-smaller c =
    let old = c.loop-self.self in
    fewer_left old c.end_column.new.self c.loop-self.invariant.0 c.in_ok-end_column.ensures
    (subst (λ n. IsDue old.plan n old.entries) c.ended.ensures (c.is_due.ensures.due c.loop-self-test.true))

pub loop-self-preserved : goal.loop-self-preserved
loop-self-preserved c =
    let old = c.loop-self.self in
    let new = c.end_column.new.self in
    let ended = c.in_ok-end_column.ensures in
    let due = subst (λ n. IsDue old.plan n old.entries) c.ended.ensures (c.is_due.ensures.due c.loop-self-test.true) in (
      column_ended old new c.loop-self.invariant.0 ended due c.loop-self.invariant.3,
      ended.same.state ∙ c.loop-self.invariant.1,
      ap laid_by ended.same.plan ∙ c.loop-self.invariant.2,
      room_left old new c.loop-self.invariant.0 ended due c.loop-self.invariant.3,
      ended.same.entries ∙ c.loop-self.invariant.4,
      one_more_ended old new c.args.self.now.entries (with_room c.args.self.now.entries (columns_of c.args.self.now)) ended due c.loop-self.invariant.4 c.loop-self.invariant.5,
    )

pub loop-self-init : goal.loop-self-init
loop-self-init c =
    let old = c.args.self.now in
    let mid = c.make_room.new.self in
    let state = c.make_room.ensures.state in (
      c.make_room.ensures.recorded,
      state,
      c.make_room.ensures.laid,
      c.make_room.ensures.room,
      c.make_room.ensures.recorded.count ∙ ap (λ (x : Execution). length x.journal) state ∙ sym c.requires.count,
      none_ended old.entries (with_room old.entries (columns_of old)) (columns_of mid) c.make_room.ensures.columns,
    )

pub returns-clause-ended : goal.returns-clause-ended
returns-clause-ended c =
    let now = c.loop-self.self in
    let late = subst (IsLate now.plan (length now.columns.items)) c.loop-self.invariant.4
    (subst (λ n. IsLate now.plan n now.entries) c.ended.ensures (c.is_due.ensures.late c.loop-self-test.false)) in
    record {
      ended = c.loop-self.invariant.5;
      late = late_seen c.args.self.now.entries now.columns.items now.plan late;
    }
