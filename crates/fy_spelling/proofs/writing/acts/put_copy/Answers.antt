use Rattle.std.proofs.Common.{◌++◌, codes, decimal}
use Rattle.fy_spelling.specs.Pieces.{two_text}
use Rattle.fy_spelling.proofs.Joined.{joins}
use Rattle.fy_spelling.proofs.writing.acts.put_copy.Goals as goal

pub returns : goal.returns
returns c =
    joins _ (codes "{\"copy\":{\"from\":" ++ decimal c.args.from.0)
    (two_text (codes ",\"record\":") c.args.rec (codes ",\"to\":") c.args.to.0)
    c.args.out.now c.put_number.new.out _ c.in_ok-put_number.ensures c.put_two.ensures
