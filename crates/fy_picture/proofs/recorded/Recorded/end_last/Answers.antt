use Rattle.std.proofs.Common.{subst}
use Rattle.fy_picture.specs.Layouts.{IsOpen, IsShut}
use Rattle.fy_picture.proofs.Recordings.{last_ended, last_shown, none_open}
use Rattle.fy_picture.proofs.recorded.Recorded.end_last.Goals as goal

pub returns-in_ok-end_column-clause-columns : goal.returns-in_ok-end_column-clause-columns
returns-in_ok-end_column-clause-columns c = last_shown c.args.self.now c.end_column.new.self c.requires.recorded c.in_ok-end_column.ensures

pub returns-in_ok-end_column-clause-ended : goal.returns-in_ok-end_column-clause-ended
returns-in_ok-end_column-clause-ended c =
    last_ended c.args.self.now c.end_column.new.self c.requires.recorded c.in_ok-end_column.ensures c.requires.late
    (subst (λ n. IsOpen c.args.self.now.plan n c.args.self.now.entries) c.ended.ensures (c.is_open.ensures.open c.if-is_open.true))
    c.requires.room

pub returns-else-is_open-clause-ended : goal.returns-else-is_open-clause-ended
returns-else-is_open-clause-ended c =
    none_open c.args.self.now c.requires.recorded c.requires.late
    (subst (λ n. IsShut c.args.self.now.plan n c.args.self.now.entries) c.ended.ensures (c.is_open.ensures.shut c.if-is_open.false))
