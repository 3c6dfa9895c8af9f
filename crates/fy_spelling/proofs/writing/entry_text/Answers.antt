use Rattle.std.proofs.Common.{◌≡◌, ◌++◌, ◌∙◌, ap, subst, sym}
use Rattle.std.specs.Prelude.{IsUtf8}
use Rattle.std.proofs.lemmas.Bool.{false≢true}
use Rattle.fy_spelling.specs.Values.{text_of}
use Rattle.fy_spelling.proofs.Shapes.{utf8_text_of}
use Rattle.fy_spelling.proofs.writing.entry_text.Goals as goal

pub unreachable-requires : goal.unreachable-requires
unreachable-requires c =
    let entry = c.args.entry.now in
    let written : c.put_entry.new.out.items ≡ text_of entry = c.in_ok-put_entry.ensures.ok ∙ ap (λ x. x ++ text_of entry) c.new-bytes.ensures.items in
    let text = utf8_text_of entry c.entry_is_representable.ensures in
    absurd (false≢true (c.in-Err.ensures.succeeds (subst IsUtf8 (sym written) text)))
