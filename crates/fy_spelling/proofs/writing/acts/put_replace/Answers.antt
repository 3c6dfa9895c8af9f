use Rattle.std.proofs.Common.{codes, ◌++◌, decimal}
use Rattle.fy_spelling.specs.Pieces.{two_text}
use Rattle.fy_spelling.proofs.Joined.{joins}
use Rattle.fy_spelling.proofs.writing.acts.put_replace.Goals as goal

pub returns : goal.returns
returns c =
    joins _ (codes "{\"replace\":{\"into\":" ++ decimal c.args.into.0)
    (two_text (codes ",\"out\":") c.args.member.0 (codes ",\"team\":") c.args.team) c.args.out.now c.put_number.new.out _
    c.in_ok-put_number.ensures c.put_two.ensures
