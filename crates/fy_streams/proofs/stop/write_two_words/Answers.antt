use Rattle.std.proofs.Common.{◌≡◌, ℕ, List, [], ◌++◌, OnErr, codes, append_assoc, append-nil, subst}
use Rattle.fy_lines.specs.Prefixes.{AppendsProperPrefix}
use Rattle.fy_streams.proofs.stop.write_two_words.Goals as goal

one_text : (a b c d e : List ℕ) → a ++ (b ++ (c ++ (d ++ (e ++ [])))) ≡ a ++ b ++ c ++ d ++ e
one_text a b c d e = simp (append-nil, append_assoc)

same_texts : (a b c d e v w x y z : List ℕ) → v ≡ a → w ≡ b → x ≡ c → y ≡ d → z ≡ e → v ++ (w ++ (x ++ (y ++ (z ++ [])))) ≡ a ++ b ++ c ++ d ++ e
same_texts a b c d e v w x y z first second third fourth fifth = rw (first, second, third, fourth, fifth) (one_text a b c d e)

pub returns-clause-err : goal.returns-clause-err
returns-clause-err g c =
    subst (λ text. OnErr c.write_parts.result (AppendsProperPrefix (g.W.Write.contents c.args.writer.now) (g.W.Write.contents c.write_parts.new.writer) text))
    (same_texts c.args.head.now c.args.first.now c.args.between.now c.args.second.now (codes "\n") c.as_bytes.result.now c.as_bytes-2.result.now c.as_bytes-3.result.now c.as_bytes-4.result.now c.as_bytes-5.result.now
    c.as_bytes.ensures.value c.as_bytes-2.ensures.value c.as_bytes-3.ensures.value c.as_bytes-4.ensures.value c.as_bytes-5.ensures.value)
    c.write_parts.ensures.short
