-- whether an audit has a header, by what is held of it
use Rattle.std.proofs.Common.{◌≡◌, ◌∙◌, ◌<◌, ℕ, List, ◌∷◌, ◌++◌, length, refl, sym, ap, arith, append_assoc, codes}
use Rattle.fy_lines.specs.Lines.{lines_of, IsLine}
use Rattle.fy_lines.proofs.SplitLemmas.{lines_of_ended}
use Rattle.fy_lines.proofs.FeedLemmas.{begins}
use Rattle.fy_audit.specs.Audit.{HasNoHeader}
use Rattle.fy_audit.specs.AuditText.{header}
use Rattle.fy_acts.specs.declared.version.Version.{Version}
use Rattle.fy_acts.specs.declared.version.Version.TheVariants.{First, Second}

abbrev title : Version → List ℕ
title First = codes "{\"audit\":1}"
title Second = codes "{\"audit\":2}"

titled : (version : Version) (rest : List ℕ) → lines_of (header version ++ rest) ≡ title version ∷ lines_of rest
titled First rest = refl
titled Second rest = refl

headed : (version : Version) (rest : List ℕ) → title version ++ 10 ∷ rest ≡ header version ++ rest
headed First rest = refl
headed Second rest = refl

title_long : (version : Version) → length (title version) ≡ 11
title_long First = refl
title_long Second = refl

same_first : (a b : List ℕ) (c d : List (List ℕ)) → a ∷ c ≡ b ∷ d → a ≡ b
same_first a b c d e = cc

-- the first line of bytes with a header
first_title : (bytes rest line : List ℕ) (after : List (List ℕ)) (version : Version) → lines_of bytes ≡ line ∷ after
    → bytes ≡ header version ++ rest → line ≡ title version
first_title bytes rest line after version first is =
    same_first line (title version) after (lines_of rest) (sym first ∙ ap lines_of is ∙ titled version rest)

-- a first line that is held whole
pub whole_line : (held line after more : List ℕ) → held ≡ line ++ 10 ∷ after → IsLine line → HasNoHeader held
    → HasNoHeader (held ++ more)
whole_line held line after more split whole none version rest is =
    let all : held ++ more ≡ line ++ 10 ∷ (after ++ more) = ap (λ l. l ++ more) split ∙ append_assoc line (10 ∷ after) more in
    let same = first_title (held ++ more) rest line (lines_of (after ++ more)) version
    (ap lines_of all ∙ lines_of_ended line (after ++ more) whole) is in
    none version after (split ∙ ap (λ l. l ++ 10 ∷ after) same ∙ headed version after)

-- a first line that is longer than a header
pub long_line : (held front after more : List ℕ) → held ≡ front ++ after → IsLine front → 11 < length front
    → HasNoHeader (held ++ more)
long_line held front after more split whole long version rest is =
    let all : held ++ more ≡ front ++ (after ++ more) = ap (λ l. l ++ more) split ∙ append_assoc front after more in
    let first = begins front (after ++ more) (omega arith) whole in
    let same = ap length (first_title (held ++ more) rest first.0 first.1 version (ap lines_of all ∙ first.2) is) in
    let longer = first.3 in
    let short = title_long version in
    absurd (omega arith)
