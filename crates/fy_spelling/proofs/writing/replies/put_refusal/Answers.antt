use Rattle.std.proofs.Common.{◌∙◌, ap, codes, ◌++◌}
use Rattle.fy_spelling.specs.Pieces.{refusal_word, refusal_end}
use Rattle.fy_spelling.proofs.Joined.{joins}
use Rattle.fy_spelling.proofs.writing.replies.put_refusal.Goals as goal

pub returns : goal.returns
returns c =
    let head = codes ",\"reply\":{\"no\":[\"" in
    joins _ (head ++ refusal_word c.args.refusal) (refusal_end c.args.refusal) c.args.out.now c.put_word.new.out _
    (c.in_ok-put_word.ensures.0 ∙ ap (λ word. c.args.out.now.items ++ (head ++ word)) c.refusal_word.ensures, c.in_ok-put_word.ensures.1)
    c.put_refusal_end.ensures
