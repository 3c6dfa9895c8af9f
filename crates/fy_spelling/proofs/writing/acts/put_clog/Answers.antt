use Rattle.std.proofs.Common.{◌∙◌, ap, codes, ◌++◌}
use Rattle.fy_locality.specs.Key.{key_text}
use Rattle.fy_spelling.specs.Pieces.{valued_text}
use Rattle.fy_spelling.proofs.Joined.{joins}
use Rattle.fy_spelling.proofs.writing.acts.put_clog.Goals as goal

pub returns-clause-text : goal.returns-clause-text
returns-clause-text c =
    let target = c.args.target.now in
    joins _ (codes "{\"clog\":{\"key\":\"" ++ key_text target.key) (valued_text (codes "\",\"ticks\":") c.args.ticks target.value) c.args.out.now c.put_word.new.out _
    (c.in_ok-put_word.ensures.0 ∙ ap (λ key. c.args.out.now.items ++ (codes "{\"clog\":{\"key\":\"" ++ key)) c.text.ensures, c.in_ok-put_word.ensures.1)
    c.put_valued.ensures.text
