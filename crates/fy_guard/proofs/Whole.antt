-- what stands before half a last line
use Rattle.std.proofs.Common.{arith, ◌≡◌, ◌∙◌, ℕ, suc, List, [], ◌∷◌, ◌++◌, length, map, take, take_at, refl, sym, ap, append_assoc, length-append, codes}
use Rattle.std.proofs.lemmas.List.{length-map}
use Rattle.std.specs.List.{AllByRecursion, flat_map}
use Rattle.fy_lines.specs.Lines.{lines_of}
use Rattle.fy_lines.proofs.SplitLemmas.{lines_of_ended}
use Rattle.fy_spelling.specs.OneText.{TextsAreLines}
use Rattle.fy_spelling.specs.Values.{text_of}
use Rattle.fy_acts.specs.declared.entry.Entry.{Entry}
use Rattle.fy_audit.specs.Audit.{MayStandFrom}
use Rattle.fy_audit.specs.AuditText.{header, entry_line, audit_text}
use Rattle.fy_acts.specs.declared.version.Version.{Version}
use Rattle.fy_acts.specs.declared.version.Version.TheVariants.{First, Second}
use Rattle.fy_guard.specs.Cuts.{with_feeds, IsShortLine, WholeIsAudit}
use Rattle.fy_guard.proofs.CutLemmas.{first_of}

lines_of_feeds : (xs : List (List ℕ)) (rest : List ℕ) → AllByRecursion IsShortLine xs
    → lines_of (with_feeds xs ++ rest) ≡ xs ++ lines_of rest
lines_of_feeds [] rest each = refl
lines_of_feeds (x ∷ xs) rest each =
    ap lines_of (first_of x rest xs) ∙ lines_of_ended x (with_feeds xs ++ rest) each.0.0
    ∙ ap (λ l. x ∷ l) (lines_of_feeds xs rest each.1)

lines_of_entries : TextsAreLines → (version : Version) (place : ℕ) (entries : List Entry) (rest : List ℕ)
    → MayStandFrom version place entries
    → lines_of (flat_map entry_line entries ++ rest) ≡ map text_of entries ++ lines_of rest
lines_of_entries are_lines version place [] rest may = refl
lines_of_entries are_lines version place (e ∷ es) rest may =
    let more = flat_map entry_line es ++ rest in
    ap lines_of (append_assoc (entry_line e) (flat_map entry_line es) rest ∙ append_assoc (text_of e) (10 ∷ []) more)
    ∙ lines_of_ended (text_of e) more (are_lines e may.0.fits)
    ∙ ap (λ l. text_of e ∷ l) (lines_of_entries are_lines version (suc place) es rest may.1)

abbrev title : Version → List ℕ
title First = codes "{\"audit\":1}"
title Second = codes "{\"audit\":2}"

titled : (version : Version) (rest : List ℕ) → lines_of (header version ++ rest) ≡ title version ∷ lines_of rest
titled First rest = refl
titled Second rest = refl

entries_as_feeds : (entries : List Entry) → with_feeds (map text_of entries) ≡ flat_map entry_line entries
entries_as_feeds [] = refl
entries_as_feeds (e ∷ es) = ap (λ l. entry_line e ++ l) (entries_as_feeds es)

as_feeds : (version : Version) (entries : List Entry) → with_feeds (title version ∷ map text_of entries) ≡ audit_text version entries
as_feeds First entries = ap (λ l. header First ++ l) (entries_as_feeds entries)
as_feeds Second entries = ap (λ l. header Second ++ l) (entries_as_feeds entries)

head_line : (a b : List ℕ) (xs ys : List (List ℕ)) → a ∷ xs ≡ b ∷ ys → a ≡ b
head_line a b xs ys e = cc

tail_lines : (a b : List ℕ) (xs ys : List (List ℕ)) → a ∷ xs ≡ b ∷ ys → xs ≡ ys
tail_lines a b xs ys e = cc

same_front : (xs ys r s : List (List ℕ)) → length xs ≡ length ys → xs ++ r ≡ ys ++ s → xs ≡ ys
same_front [] [] r s long e = refl
same_front [] (y ∷ ys) r s long e = absurd (omega arith)
same_front (x ∷ xs) [] r s long e = absurd (omega arith)
same_front (x ∷ xs) (y ∷ ys) r s long e =
    let first = head_line x y (xs ++ r) (ys ++ s) e in
    let rest = same_front xs ys r s (omega arith) (tail_lines x y (xs ++ r) (ys ++ s) e) in
    λ i. first i ∷ rest i

pub whole_is_audit : TextsAreLines → WholeIsAudit
whole_is_audit are_lines bytes number whole is cut =
    let faulty = is.1 in
    let version = faulty.version in
    let entries = faulty.entries in
    let texts = title version ∷ map text_of entries in
    let one : lines_of bytes ≡ cut.lines ++ lines_of cut.half = ap lines_of cut.split ∙ lines_of_feeds cut.lines cut.half cut.each in
    let behind : lines_of (flat_map entry_line entries ++ faulty.rest) ≡ map text_of entries ++ lines_of faulty.rest =
    lines_of_entries are_lines version 0 entries faulty.rest faulty.faultless in
    let two : lines_of bytes ≡ texts ++ lines_of faulty.rest =
    ap lines_of (faulty.split ∙ append_assoc (header version) (flat_map entry_line entries) faulty.rest)
    ∙ titled version (flat_map entry_line entries ++ faulty.rest) ∙ ap (λ l. title version ∷ l) behind in
    let at = cut.at in
    let place = faulty.place in
    let counted = length-map entries text_of in
    let count : length cut.lines ≡ length texts = omega arith in
    let same = same_front cut.lines texts (lines_of cut.half) (lines_of faulty.rest) count (sym one ∙ two) in
    let before = cut.before in
    let front : take whole bytes ≡ with_feeds cut.lines =
    ap (take whole) cut.split ∙ take_at (with_feeds cut.lines) cut.half whole (sym before) in
    let text : take whole bytes ≡ audit_text version entries = front ∙ ap with_feeds same ∙ as_feeds version entries in
    let parts = length-append (with_feeds cut.lines) cut.half in
    let all = ap length cut.split in
    let long = ap length front in
    let few = is.0 in
    (record { version = version; entries = entries }, (omega arith, text, faulty.faultless))
