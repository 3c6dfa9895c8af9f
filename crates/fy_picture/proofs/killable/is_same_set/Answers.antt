use Rattle.fy_picture.proofs.Moving.{moved_all, moved_but}
use Rattle.fy_picture.proofs.killable.is_same_set.Goals as goal

pub returns : goal.returns
returns c = λ t.
    let one = c.args.one.now in
    let other = c.args.other.now in
    moved_all c.symmetric_difference.result one other (c.is_empty.ensures.0 t) (moved_but c.symmetric_difference.result one other c.symmetric_difference.ensures)
