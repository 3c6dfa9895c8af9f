use Rattle.std.proofs.Common.{sym}
use Rattle.fy_records.proofs.Among.{not_among}
use Rattle.fy_records.proofs.index.is_among.Goals as goal

pub returns-in-Err : goal.returns-in-Err
returns-in-Err c =
    sym (not_among c.args.numbers.now c.args.number c.in-Err.field-0 c.in-Err.ensures.position c.requires)
