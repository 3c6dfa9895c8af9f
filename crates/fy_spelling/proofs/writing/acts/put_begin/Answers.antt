use Rattle.std.proofs.Common.{◌∙◌, ap, codes, ◌++◌}
use Rattle.hex.specs.Hex.{encode_lower}
use Rattle.fy_spelling.specs.Pieces.{one_text}
use Rattle.fy_spelling.proofs.Joined.{puts_both, joins}
use Rattle.fy_spelling.proofs.writing.acts.put_begin.Goals as goal

pub returns-clause-text : goal.returns-clause-text
returns-clause-text c =
    let head = codes "{\"begin\":{\"payload\":\"" in
    let digits = encode_lower c.args.payload.now in
    joins _ (head ++ digits) (one_text (codes "\",\"team\":") c.args.team) c.args.out.now c.put_bytes.new.out _
    (puts_both head digits c.args.out.now c.put.new.out c.put_bytes.new.out c.in_ok-put.ensures
    (c.in_ok-put_bytes.ensures.text.0 ∙ ap (λ bytes. c.put.new.out.items ++ encode_lower bytes) c.bytes.ensures, c.in_ok-put_bytes.ensures.text.1))
    c.put_one.ensures
