use Rattle.std.proofs.Common.{◌++◌, codes}
use Rattle.fy_spelling.specs.Pieces.{keys_text}
use Rattle.fy_spelling.proofs.Joined.{joins}
use Rattle.fy_spelling.proofs.writing.acts.put_kill_head.Goals as goal

pub returns : goal.returns
returns c =
    joins _ (codes "{\"kill\":{\"floor\":\"" ++ c.args.floor.now)
    (keys_text c.args.key.now c.args.kind.now)
    c.args.out.now c.put_word.new.out _ c.in_ok-put_word.ensures c.put_keys.ensures
