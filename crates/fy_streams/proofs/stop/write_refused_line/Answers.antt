use Rattle.std.proofs.Common.{◌≡◌, ◌∙◌, ℕ, List, ◌++◌, OnOk, OnErr, codes, decimal, ap, append_assoc, subst}
use Rattle.std.specs.Io.KnownBytes.{Appends}
use Rattle.fy_lines.specs.Prefixes.{AppendsProperPrefix}
use Rattle.fy_streams.specs.Stops.{numbered}
use Rattle.fy_streams.proofs.stop.write_refused_line.Goals as goal

regroup : (a b c d e : List ℕ) → a ++ b ++ c ++ d ++ e ≡ a ++ b ++ (c ++ d ++ e)
regroup a b c d e = simp append_assoc

-- a line with a number and a word, by the number's text
numbered_word : (head digits word : List ℕ) (number : ℕ) → digits ≡ decimal number →
    head ++ digits ++ codes ": " ++ word ++ codes "\n" ≡ numbered head number (codes ": " ++ word ++ codes "\n")
numbered_word head digits word number is =
    regroup head digits (codes ": ") word (codes "\n")
    ∙ ap (λ text. head ++ text ++ (codes ": " ++ word ++ codes "\n")) is

pub returns-clause-ok : goal.returns-clause-ok
returns-clause-ok g c =
    subst (λ text. OnOk c.write_two_words.result (Appends (g.W.Write.contents c.args.writer.now) (g.W.Write.contents c.write_two_words.new.writer) text))
    (numbered_word c.args.head.now c.format.result.now c.args.word.now c.args.number c.format.ensures.text)
    c.write_two_words.ensures.ok

pub returns-clause-err : goal.returns-clause-err
returns-clause-err g c =
    subst (λ text. OnErr c.write_two_words.result (AppendsProperPrefix (g.W.Write.contents c.args.writer.now) (g.W.Write.contents c.write_two_words.new.writer) text))
    (numbered_word c.args.head.now c.format.result.now c.args.word.now c.args.number c.format.ensures.text)
    c.write_two_words.ensures.err
