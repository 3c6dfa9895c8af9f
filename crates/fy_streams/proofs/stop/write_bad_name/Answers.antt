use Rattle.std.proofs.Common.{◌∙◌, ◌++◌, OnOk, codes, ap, subst}
use Rattle.std.specs.Io.KnownBytes.{Appends}
use Rattle.fy_streams.specs.Stops.{part_word}
use Rattle.fy_streams.proofs.stop.write_bad_name.Goals as goal

pub returns-clause-ok : goal.returns-clause-ok
returns-clause-ok g c =
    subst (λ text. OnOk c.write_two_words.result (Appends (g.W.Write.contents c.args.writer.now) (g.W.Write.contents c.write_two_words.new.writer) text))
    (ap (λ word. codes "config: Name " ++ word ++ codes " " ++ c.format.result.now ++ codes "\n") c.part_word.ensures
    ∙ ap (λ digits. codes "config: Name " ++ part_word c.args.part ++ codes " " ++ digits ++ codes "\n") c.format.ensures.text)
    c.write_two_words.ensures.ok
