use Rattle.std.proofs.Common.{◌≡◌, ◌∙◌, ℕ, List, [], ◌++◌, OnErr, sym, ap, append_assoc, append-nil, subst}
use Rattle.fy_lines.specs.Prefixes.{AppendsProperPrefix}
use Rattle.fy_streams.proofs.stop.write_three.Goals as goal

one_text : (a b c : List ℕ) → a ++ (b ++ (c ++ [])) ≡ a ++ b ++ c
one_text a b c = ap (λ l. a ++ (b ++ l)) (append-nil c) ∙ sym (append_assoc a b c)

same_texts : (a b c x y z : List ℕ) → x ≡ a → y ≡ b → z ≡ c → x ++ (y ++ (z ++ [])) ≡ a ++ b ++ c
same_texts a b c x y z first second third = rw (first, second, third) (one_text a b c)

pub returns-clause-err : goal.returns-clause-err
returns-clause-err g c =
    subst (λ text. OnErr c.write_parts.result (AppendsProperPrefix (g.W.Write.contents c.args.writer.now) (g.W.Write.contents c.write_parts.new.writer) text))
    (same_texts c.args.first.now c.args.second.now c.args.third.now c.as_bytes.result.now c.as_bytes-2.result.now c.as_bytes-3.result.now
    c.as_bytes.ensures.value c.as_bytes-2.ensures.value c.as_bytes-3.ensures.value)
    c.write_parts.ensures.short
