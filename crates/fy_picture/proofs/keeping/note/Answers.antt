use Rattle.std.proofs.Common.{rules, ◌<◌, length}
use Rattle.fy_picture.proofs.Acking.{noted_is_or, notes_one, notes_past}
use Rattle.fy_picture.proofs.keeping.note.Goals as goal

pub returns-then-rec-len-clause-each : goal.returns-then-rec-len-clause-each
returns-then-rec-len-clause-each c =
    let within : c.args.rec < length c.args.acked_at.now.items = search rules in
    notes_one c.args.acked_at.now.items c.args.rec c.args.at c.index.result.now c.or.result within c.index.ensures (noted_is_or c.args.at c.index.result.now c.or.result c.or.ensures)

pub returns-else-rec-len-clause-each : goal.returns-else-rec-len-clause-each
returns-else-rec-len-clause-each c = notes_past c.args.acked_at.now.items c.args.rec c.args.at (search rules)
