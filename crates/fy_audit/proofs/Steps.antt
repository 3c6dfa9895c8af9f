-- lines of an audit, entry by entry
use Rattle.std.proofs.Common.{◌≡◌, ◌∙◌, ℕ, suc, ◌+◌, ◌<◌, ◌≤◌, List, [], ◌∷◌, ◌++◌, length, refl, sym, ap, arith, append_assoc, append-nil, length-append, ne_eqb}
use Rattle.std.specs.List.{flat_map}
use Rattle.std.proofs.lemmas.Grind.{flat_map-append}
use Rattle.fy_lines.specs.Lines.{onto_first, lines_of}
use Rattle.fy_spelling.specs.OneText.{TextsAreLines, HasNoFeed}
use Rattle.fy_spelling.specs.Values.{text_of}
use Rattle.fy_acts.specs.declared.entry.Entry.{Entry}
use Rattle.fy_spelling.specs.declared.command.TheConstants.{MOST_LINE_BYTES}
use Rattle.fy_audit.specs.Audit.{MayStand, MayStandFrom, HasNoHeader, BeginsWith, BeginsFaulty}
use Rattle.fy_audit.specs.declared.audit.AuditLineFault.TheVariants.{Syntax}
use Rattle.fy_audit.specs.AuditText.{header, entry_line, audit_text}
use Rattle.fy_acts.specs.declared.version.Version.{Version}
use Rattle.fy_acts.specs.declared.version.Version.TheVariants.{First, Second}

-- a line, its line feed, and the rest
ended : (line rest : List ℕ) → HasNoFeed line → lines_of (line ++ 10 ∷ rest) ≡ line ∷ lines_of rest
ended [] rest whole = refl
ended (x ∷ xs) rest whole = rw (ne_eqb x 10 whole.0) (ap (onto_first x) (ended xs rest whole.1))

-- the line of an entry, in front of more
pub spread : (e : Entry) (more : List ℕ) → entry_line e ++ more ≡ text_of e ++ 10 ∷ more
spread e more = append_assoc (text_of e) (10 ∷ []) more

same_first : (a b : List ℕ) (c d : List (List ℕ)) → a ∷ c ≡ b ∷ d → a ≡ b
same_first a b c d e = cc

-- where an entry's line stands in front, its text is the first line
pub first_is :
    TextsAreLines → (version : Version) (place : ℕ) (rest line more : List ℕ) (after : List (List ℕ)) (e : Entry)
    → BeginsWith version place rest e more → lines_of rest ≡ line ∷ after → line ≡ text_of e
first_is lines version place rest line more after e begins first =
    same_first line (text_of e) after (lines_of more)
    (sym first ∙ ap lines_of (begins.split ∙ spread e more) ∙ ended (text_of e) more (lines e begins.may.fits))

-- such a rest is longer than the line by a line feed at least
longer_than :
    (rest line more : List ℕ) (e : Entry) → line ≡ text_of e → rest ≡ entry_line e ++ more
    → length line < length rest
longer_than rest line more e same is =
    let whole = ap length (is ∙ spread e more) in
    let parts = length-append (text_of e) (10 ∷ more) in
    let text = ap length same in
    omega arith

-- a first line that isn't the text, with a line feed behind it, of an entry that may stand there
pub no_entry :
    TextsAreLines → (version : Version) (place : ℕ) (rest line : List ℕ) (after : List (List ℕ))
    → lines_of rest ≡ line ∷ after → length line ≤ MOST_LINE_BYTES
    → ((e : Entry) → MayStand version place e → line ≡ text_of e → length line < length rest → ⊥)
    → BeginsFaulty version place rest Syntax
no_entry lines version place rest line after first short none = record {
  line = line;
  after = after;
  first = first;
  is = (
    short,
    λ e more begins.
        let same = first_is lines version place rest line more after e begins first in
        none e begins.may same (longer_than rest line more e same begins.split),
  );
}

-- one more entry at the end
pub one_more_from :
    (version : Version) (place next : ℕ) (es : List Entry) (e : Entry) → MayStandFrom version place es
    → next ≡ place + length es → MayStand version next e → MayStandFrom version place (es ++ e ∷ [])
one_more_from version place next [] e all is may =
    let same : next ≡ place = omega arith in (rw (sym same) may, tt)
one_more_from version place next (x ∷ es) e all is may =
    (all.0, one_more_from version (suc place) next es e all.1 (omega arith) may)

regroup : (l t a : List ℕ) → l ++ (t ++ a) ≡ (l ++ (t ++ [])) ++ a
regroup l t a = simp (append_assoc, append-nil)

joined : (l : List Entry) (e : Entry) (after : List ℕ) →
    flat_map entry_line l ++ (entry_line e ++ after) ≡ flat_map entry_line (l ++ e ∷ []) ++ after
joined l e after =
    regroup (flat_map entry_line l) (entry_line e) after
    ∙ ap (λ lines. lines ++ after) (sym (flat_map-append entry_line l (e ∷ [])))

pub one_line_more :
    (version : Version) (bytes rest after : List ℕ) (es : List Entry) (e : Entry)
    → bytes ≡ audit_text version es ++ rest → rest ≡ entry_line e ++ after
    → bytes ≡ audit_text version (es ++ e ∷ []) ++ after
one_line_more version bytes rest after es e split line =
    split ∙ ap (λ l. audit_text version es ++ l) line
    ∙ append_assoc (header version) (flat_map entry_line es) (entry_line e ++ after)
    ∙ ap (λ l. header version ++ l) (joined es e after)
    ∙ sym (append_assoc (header version) (flat_map entry_line (es ++ e ∷ [])) after)

-- a header is of one version or of the other
pub no_header :
    (bytes : List ℕ) → ((rest : List ℕ) → bytes ≡ header First ++ rest → ⊥)
    → ((rest : List ℕ) → bytes ≡ header Second ++ rest → ⊥) → HasNoHeader bytes
no_header bytes first second First = first
no_header bytes first second Second = second

-- what follows an entry's line is shorter
pub shorter_after :
    (rest after : List ℕ) (e : Entry) → rest ≡ entry_line e ++ after → length after < length rest
shorter_after rest after e is =
    let whole = ap length (is ∙ spread e after) in
    let parts = length-append (text_of e) (10 ∷ after) in
    omega arith
