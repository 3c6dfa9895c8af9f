use Rattle.std.proofs.Common.{◌++◌, codes, false}
use Rattle.fy_spelling.specs.Values.{in_order}
use Rattle.fy_spelling.specs.Pieces.{deeds_text, one_text}
use Rattle.fy_spelling.proofs.Joined.{joins}
use Rattle.fy_spelling.proofs.writing.acts.put_protection.Goals as goal

pub returns : goal.returns
returns c =
    let kinds = deeds_text false (in_order c.args.kinds) in
    let process = one_text (codes "],\"process\":") c.args.process.0 in
    joins _ c.args.head.now (kinds ++ process) c.args.out.now c.put.new.out _ c.in_ok-put.ensures
    (joins _ kinds process c.put.new.out c.put_kinds.new.out _ c.in_ok-put_kinds.ensures
    c.put_one.ensures)
