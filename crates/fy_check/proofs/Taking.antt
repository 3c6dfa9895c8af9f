-- what was taken of an audit that is read piece by piece
use Rattle.std.proofs.Common.{◌≡◌, ◌∙◌, ◌≤◌, ◌<◌, ◌+◌, ◌-◌, ℕ, List, [], ◌∷◌, ◌++◌, length, drop, Option, Some, None, Ok, refl, sym, ap, subst, arith, append_assoc, append-nil, length-append, drop_at}
use Rattle.std.specs.Prelude.{IfSome}
use Rattle.std.specs.Io.KnownBytes.{Consumes, IsAtEnd}
use Rattle.std.proofs.KnownBytes.{Consumes-nil, Consumes-trans}
use Rattle.fy_lines.specs.Readings.{ReadsAtMost}
use Rattle.fy_lines.specs.Lines.{IsLine}
use Rattle.fy_lines.specs.Windows.{WindowState, Slides, ReadsOn, IsCut, HoldsLast, HoldsLongLine}
use Rattle.fy_spelling.specs.declared.command.TheConstants.{MOST_LINE_BYTES}
use Rattle.fy_audit.proofs.LineFaults.{no_last, long_front}
use Rattle.fy_lines.specs.declared.input.InputFault.{InputFault}
use Rattle.fy_lines.specs.declared.input.InputFault.TheVariants as input
use Rattle.fy_acts.specs.declared.entry.Entry.{Entry}
use Rattle.fy_audit.specs.Audit.{AuditOf, HasNoHeader, BeginsWith, BeginsFaulty}
use Rattle.fy_audit.specs.AuditText.{header, audit_text}
use Rattle.fy_audit.specs.Reading.{HasRead}
use Rattle.fy_audit.specs.declared.audit.TheConstants.{MOST_AUDIT_BYTES}
use Rattle.fy_audit.specs.declared.audit.AuditFault.TheVariants.{Line}
use Rattle.fy_audit.specs.declared.audit.AuditLineFault.{AuditLineFault}
use Rattle.fy_audit.specs.declared.audit.AuditLineFault.TheVariants as of_line
use Rattle.fy_audit.proofs.Reading.{stops_are_faults, ends_as_audit}
use Rattle.fy_audit.proofs.Steps.{one_line_more, one_more_from}
use Rattle.fy_acts.specs.declared.version.Version.{Version}
use Rattle.fy_streams.specs.declared.stop.Stop.{Stop}
use Rattle.fy_streams.specs.declared.stop.Stop.TheVariants.{Audit, Read}
use Rattle.fy_check.specs.Inputs.{InputState, HasTaken, IsReadInto, IsRefused, TellsFault, input_stop}

-- an audit of this version, of which so many entries were taken, behind this window
abbrev pub behind : Version → ℕ → WindowState → InputState
behind version place window = record {
  version = version;
  place = place;
  held = window.held;
  read = window.read;
}

-- nothing more was read
abbrev pub reads_none : (window : WindowState) (left : Option (List ℕ)) → Consumes left left [] → ReadsOn window window left left
reads_none window left none = record { more = []; consumed = none; counted = omega arith }

pub slid : (old new : WindowState) (before left : Option (List ℕ)) → Slides old new before left → ReadsOn old new before left
slid old new before left slides = record { more = slides.more; consumed = slides.consumed; counted = slides.counted }

-- more bytes are held behind those that were
pub taken_on : (known before left : Option (List ℕ)) (entries : List Entry) (version : Version) (place : ℕ)
    (old new : WindowState) → HasTaken known before entries (behind version place old) → Slides old new before left
    → new.read ≤ MOST_AUDIT_BYTES → HasTaken known left entries (behind version place new)
taken_on known before left entries version place old new taken more within =
    let text = audit_text version entries in
    let same : (text ++ old.held) ++ more.more ≡ text ++ new.held =
    append_assoc text old.held more.more ∙ ap (λ l. text ++ l) (sym more.held) in
    let long = length-append (text ++ old.held) more.more in
    let whole = ap length same in
    let was = taken.counted in
    let count = more.counted in
    record {
      front = subst (Consumes known left) same (Consumes-trans known before left (text ++ old.held) more.more taken.front more.consumed);
      counted = omega arith;
      within = within;
      faultless = taken.faultless;
      place = taken.place;
    }

-- the line of an entry is taken
pub taken_one : (known left : Option (List ℕ)) (entries : List Entry) (entry : Entry) (version : Version) (place count : ℕ)
    (old new : WindowState) (line after : List ℕ) → HasTaken known left entries (behind version place old)
    → old.held ≡ line ++ 10 ∷ after → length line ≡ count → BeginsWith version place (line ++ 10 ∷ after) entry after
    → new.held ≡ drop (count + 1) old.held → new.read ≡ old.read
    → HasTaken known left (entries ++ entry ∷ []) (behind version (place + 1) new)
taken_one known left entries entry version place count old new line after taken split long begins dropped same =
    let text = audit_text version entries in
    let ended = line ++ 10 ∷ [] in
    let counted = length-append line (10 ∷ []) in
    let past : drop (count + 1) (line ++ 10 ∷ after) ≡ after =
    ap (drop (count + 1)) (sym (append_assoc line (10 ∷ []) after)) ∙ drop_at ended after (count + 1) (omega arith) in
    let held : new.held ≡ after = dropped ∙ ap (drop (count + 1)) split ∙ past in
    let more = one_line_more version (text ++ old.held) (line ++ 10 ∷ after) after entries entry
    (ap (λ l. text ++ l) split) begins.split in
    let whole : text ++ old.held ≡ audit_text version (entries ++ entry ∷ []) ++ new.held =
    more ∙ ap (λ l. audit_text version (entries ++ entry ∷ []) ++ l) (sym held) in
    let longer = length-append entries (entry ∷ []) in
    let before = taken.place in
    record {
      front = subst (Consumes known left) whole taken.front;
      counted = same ∙ taken.counted ∙ ap length whole;
      within = subst (λ n. n ≤ MOST_AUDIT_BYTES) (sym same) taken.within;
      faultless = one_more_from version 0 place entries entry taken.faultless (omega arith) begins.may;
      place = omega arith;
    }

-- the known bytes, of which so many were read
pub reads_at_most : (known before left : Option (List ℕ)) (entries : List Entry) (version : Version) (place most : ℕ)
    (old new : WindowState) → HasTaken known before entries (behind version place old) → ReadsOn old new before left
    → new.read ≤ most → ReadsAtMost known left most
reads_at_most known before left entries version place most old new taken on few =
    let front = audit_text version entries ++ old.held in
    let long = length-append front on.more in
    let was = taken.counted in
    let count = on.counted in
    (front ++ on.more, Consumes-trans known before left front on.more taken.front on.consumed, omega arith)

-- all entries were taken, and this holds of them
pub read_into_known : (known : Option (List ℕ)) (version was : Version) (count : ℕ) (entries : List Entry)
    (P : List Entry → Type 0) → IfSome known (λ bytes. AuditOf bytes (Ok (record { version = version; entries = entries })))
    → was ≡ version → count ≡ length entries → P entries → IfSome known (λ bytes. IsReadInto bytes was count P)
read_into_known None version was count entries P read same many holds = tt
read_into_known (Some bytes) version was count entries P read same many holds = record {
  audit = record { version = version; entries = entries };
  read = read;
  version_is = same;
  count_is = many;
  holds = holds;
}

-- more than the known bytes may be were read
is_longer : (known left : Option (List ℕ)) (front : List ℕ) (most : ℕ) → Consumes known left front → length front ≡ most + 1
    → IfSome known (λ bytes. most < length bytes)
is_longer None left front most consumed long = tt
is_longer (Some bytes) None front most consumed long = absurd consumed
is_longer (Some bytes) (Some rest) front most consumed long =
    let whole = ap length consumed in
    let parts = length-append front rest in
    omega arith

-- what is told where not all can be read
pub cut_tells : (known before left : Option (List ℕ)) (entries : List Entry) (version : Version) (place : ℕ)
    (old new : WindowState) (why : InputFault) → HasTaken known before entries (behind version place old)
    → ReadsOn old new before left → IsCut new.read MOST_AUDIT_BYTES why → TellsFault known (input_stop why)
cut_tells known before left entries version place old new input.TooLong taken on cut =
    let front = audit_text version entries ++ old.held in
    let long = length-append front on.more in
    let was = taken.counted in
    let count = on.counted in
    is_longer known left (front ++ on.more) MOST_AUDIT_BYTES
    (Consumes-trans known before left front on.more taken.front on.consumed) (omega arith)
cut_tells known before left entries version place old new input.Reader taken on cut = tt
cut_tells known before left entries version place old new input.NoMemory taken on cut = absurd cut

-- the whole, once all is read
read_whole : (known before left : Option (List ℕ)) (entries : List Entry) (version : Version) (place : ℕ)
    (old new : WindowState) → HasTaken known before entries (behind version place old) → (on : ReadsOn old new before left)
    → IsAtEnd left → new.read ≤ MOST_AUDIT_BYTES
    → IfSome known (λ bytes. HasRead bytes entries (record { version = version; place = place; rest = old.held ++ on.more }))
read_whole None before left entries version place old new taken on end few = tt
read_whole (Some bytes) None left entries version place old new taken on end few = absurd taken.front
read_whole (Some bytes) (Some rest) None entries version place old new taken on end few = absurd on.consumed
read_whole (Some bytes) (Some rest) (Some last) entries version place old new taken on end few =
    let text = audit_text version entries in
    let all : bytes ≡ (text ++ old.held) ++ on.more =
    taken.front ∙ ap (λ l. (text ++ old.held) ++ l) (on.consumed ∙ ap (λ l. on.more ++ l) end ∙ append-nil on.more) in
    let whole = ap length all in
    let long = length-append (text ++ old.held) on.more in
    let was = taken.counted in
    let count = on.counted in
    record {
      bound = omega arith;
      split = all ∙ append_assoc text old.held on.more;
      faultless = taken.faultless;
      place = taken.place;
    }

-- a line is faulty, whatever follows what is held
abbrev pub FaultyAhead : Version → ℕ → List ℕ → AuditLineFault → Type 0
FaultyAhead version place held fault = (more : List ℕ) → BeginsFaulty version place (held ++ more) fault

faulty_known : (known : Option (List ℕ)) (entries : List Entry) (version : Version) (place : ℕ) (held more : List ℕ)
    (fault : AuditLineFault)
    → IfSome known (λ bytes. HasRead bytes entries (record { version = version; place = place; rest = held ++ more }))
    → BeginsFaulty version place (held ++ more) fault → TellsFault known (Audit (Line (place + 2) fault))
faulty_known None entries version place held more fault read faulty = tt
faulty_known (Some bytes) entries version place held more fault read faulty =
    stops_are_faults bytes entries (record { version = version; place = place; rest = held ++ more })
    (Line (place + 2) fault) read (refl, faulty)

-- what is told of a faulty line, once all is read
pub faulty_tells : (known before left : Option (List ℕ)) (entries : List Entry) (version : Version) (place : ℕ)
    (old new : WindowState) (fault : AuditLineFault) → HasTaken known before entries (behind version place old)
    → ReadsOn old new before left → IsAtEnd left → new.read ≤ MOST_AUDIT_BYTES → FaultyAhead version place old.held fault
    → TellsFault known (Audit (Line (place + 2) fault))
faulty_tells known before left entries version place old new fault taken on end few faulty =
    faulty_known known entries version place old.held on.more fault
    (read_whole known before left entries version place old new taken on end few) (faulty on.more)

-- what is told of a last line that lacks its line feed
pub last_faulty : (known left : Option (List ℕ)) (entries : List Entry) (version : Version) (place : ℕ) (window : WindowState)
    → HasTaken known left entries (behind version place window) → IsAtEnd left → IsLine window.held → 0 < length window.held
    → length window.held ≤ MOST_LINE_BYTES → TellsFault known (Audit (Line (place + 2) of_line.Syntax))
last_faulty known left entries version place window taken end whole some short =
    faulty_known known entries version place window.held [] of_line.Syntax
    (read_whole known left left entries version place window window taken (reads_none window left (Consumes-nil left)) end taken.within)
    (subst (λ rest. BeginsFaulty version place rest of_line.Syntax) (sym (append-nil window.held))
    (no_last version place window.held some whole short))

-- a line that is too long, whatever follows what is held
pub long_ahead : (version : Version) (place : ℕ) (held : List ℕ) → HoldsLongLine held MOST_LINE_BYTES
    → FaultyAhead version place held of_line.TooLong
long_ahead version place held holds more =
    long_front version place (held ++ more) holds.front (holds.after ++ more)
    (ap (λ l. l ++ more) holds.split ∙ append_assoc holds.front holds.after more) holds.whole holds.long

-- a line that is no entry, whatever follows what is held
pub syntax_ahead : (version : Version) (place : ℕ) (held line same after : List ℕ) → held ≡ line ++ 10 ∷ after → same ≡ line
    → ((after : List ℕ) → BeginsFaulty version place (same ++ 10 ∷ after) of_line.Syntax)
    → FaultyAhead version place held of_line.Syntax
syntax_ahead version place held line same after split is faulty more =
    let whole : held ++ more ≡ same ++ 10 ∷ (after ++ more) =
    ap (λ l. l ++ more) split ∙ append_assoc line (10 ∷ after) more ∙ ap (λ l. l ++ 10 ∷ (after ++ more)) (sym is) in
    subst (λ rest. BeginsFaulty version place rest of_line.Syntax) (sym whole) (faulty (after ++ more))

-- what is told where the rest was read for a faulty line
pub refused_tells : (known before left : Option (List ℕ)) (entries : List Entry) (version : Version) (place : ℕ)
    (old new : WindowState) (fault : AuditLineFault) (stop : Stop) → HasTaken known before entries (behind version place old)
    → ReadsOn old new before left → IsRefused (place + 2) fault new.read left stop → FaultyAhead version place old.held fault
    → TellsFault known stop
refused_tells known before left entries version place old new fault stop taken on (IsRefused.faulty is end few) faulty =
    subst (TellsFault known) (sym is) (faulty_tells known before left entries version place old new fault taken on end few faulty)
refused_tells known before left entries version place old new fault stop taken on (IsRefused.cut why is cut) faulty =
    subst (TellsFault known) (sym is) (cut_tells known before left entries version place old new why taken on cut)

empty : (xs : List ℕ) → length xs ≡ 0 → xs ≡ []
empty [] none = refl
empty (x ∷ xs) none = absurd (omega arith)

ended_known : (known : Option (List ℕ)) (entries : List Entry) (version : Version) (place : ℕ) (rest : List ℕ)
    → IfSome known (λ bytes. HasRead bytes entries (record { version = version; place = place; rest = rest })) → rest ≡ []
    → IfSome known (λ bytes. AuditOf bytes (Ok (record { version = version; entries = entries })))
ended_known None entries version place rest read none = tt
ended_known (Some bytes) entries version place rest read none =
    ends_as_audit bytes entries (record { version = version; place = place; rest = rest }) read none

-- nothing is left
pub ended : (known left : Option (List ℕ)) (entries : List Entry) (version : Version) (place : ℕ) (window : WindowState)
    → HasTaken known left entries (behind version place window) → Consumes left left [] → HoldsLast window.held left 0
    → IfSome known (λ bytes. AuditOf bytes (Ok (record { version = version; entries = entries })))
ended known left entries version place window taken none last =
    ended_known known entries version place (window.held ++ [])
    (read_whole known left left entries version place window window taken (reads_none window left none) last.end taken.within)
    (append-nil window.held ∙ empty window.held last.long)

-- ---- what a stop says of how much was read

pub cut_most : (read : ℕ) (why : InputFault) → IsCut read MOST_AUDIT_BYTES why → read ≤ MOST_AUDIT_BYTES + 1
cut_most read input.TooLong cut = omega arith
cut_most read input.Reader cut = omega arith
cut_most read input.NoMemory cut = absurd cut

pub cut_unread : (read : ℕ) (why : InputFault) → IsCut read MOST_AUDIT_BYTES why → input_stop why ≡ Read → read ≤ MOST_AUDIT_BYTES
cut_unread read input.TooLong cut is = cc
cut_unread read input.Reader cut is = cut
cut_unread read input.NoMemory cut is = absurd cut

pub refused_most : (number read : ℕ) (fault : AuditLineFault) (left : Option (List ℕ)) (stop : Stop)
    → IsRefused number fault read left stop → read ≤ MOST_AUDIT_BYTES + 1
refused_most number read fault left stop (IsRefused.faulty is end few) = omega arith
refused_most number read fault left stop (IsRefused.cut why is cut) = cut_most read why cut

pub refused_unread : (number read : ℕ) (fault : AuditLineFault) (left : Option (List ℕ)) (stop : Stop)
    → IsRefused number fault read left stop → stop ≡ Read → read ≤ MOST_AUDIT_BYTES
refused_unread number read fault left stop (IsRefused.faulty is end few) unread = few
refused_unread number read fault left stop (IsRefused.cut why is cut) unread = cut_unread read why cut (sym is ∙ unread)

-- ---- at the beginning

pub on_after_slide : (first old new : WindowState) (start before left : Option (List ℕ)) → Slides first old start before
    → ReadsOn old new before left → ReadsOn first new start left
on_after_slide first old new start before left slides on =
    let one = slides.counted in
    let two = on.counted in
    let long = length-append slides.more on.more in
    record {
      more = slides.more ++ on.more;
      consumed = Consumes-trans start before left slides.more on.more slides.consumed on.consumed;
      counted = omega arith;
    }

pub first_reads : (known left : Option (List ℕ)) (first new : WindowState) (most : ℕ) → ReadsOn first new known left
    → first.read ≡ 0 → new.read ≤ most → ReadsAtMost known left most
first_reads known left first new most on zero few =
    let count = on.counted in
    (on.more, on.consumed, omega arith)

pub first_cut : (known left : Option (List ℕ)) (first new : WindowState) (why : InputFault) → ReadsOn first new known left
    → first.read ≡ 0 → IsCut new.read MOST_AUDIT_BYTES why → TellsFault known (input_stop why)
first_cut known left first new input.TooLong on zero cut =
    let count = on.counted in
    is_longer known left on.more MOST_AUDIT_BYTES on.consumed (omega arith)
first_cut known left first new input.Reader on zero cut = tt
first_cut known left first new input.NoMemory on zero cut = absurd cut

-- the header is taken
pub begun : (known left : Option (List ℕ)) (version : Version) (first held new : WindowState) (rest : List ℕ)
    → Slides first held known left → first.held ≡ [] → first.read ≡ 0 → held.read ≤ MOST_AUDIT_BYTES
    → held.held ≡ header version ++ rest → new.held ≡ drop (length held.held - length rest) held.held → new.read ≡ held.read
    → HasTaken known left [] (behind version 0 new)
begun known left version first held new rest slides none zero within split dropped same =
    let count = length held.held - length rest in
    let parts = length-append (header version) rest in
    let long = ap length split in
    let all : held.held ≡ slides.more = slides.held ∙ ap (λ l. l ++ slides.more) none in
    let is : new.held ≡ rest = dropped ∙ ap (drop count) split ∙ drop_at (header version) rest count (omega arith) in
    let whole : slides.more ≡ audit_text version [] ++ new.held =
    sym all ∙ split ∙ ap (λ l. header version ++ l) (sym is) ∙ ap (λ l. l ++ new.held) (sym (append-nil (header version))) in
    let counted = slides.counted in
    let length_is = ap length whole in
    record {
      front = subst (Consumes known left) whole slides.consumed;
      counted = omega arith;
      within = subst (λ n. n ≤ MOST_AUDIT_BYTES) (sym same) within;
      faultless = tt;
      place = refl;
    }

no_header_known : (known before left : Option (List ℕ)) (first held new : WindowState)
    → Slides first held known before → first.held ≡ [] → first.read ≡ 0 → ReadsOn held new before left → IsAtEnd left
    → new.read ≤ MOST_AUDIT_BYTES → ((more : List ℕ) → HasNoHeader (held.held ++ more))
    → TellsFault known (Audit (Line 1 of_line.Header))
no_header_known None before left first held new slides none zero on end few unheaded = tt
no_header_known (Some bytes) None left first held new slides none zero on end few unheaded = absurd slides.consumed
no_header_known (Some bytes) (Some rest) None first held new slides none zero on end few unheaded = absurd on.consumed
no_header_known (Some bytes) (Some rest) (Some last) first held new slides none zero on end few unheaded =
    let all : held.held ≡ slides.more = slides.held ∙ ap (λ l. l ++ slides.more) none in
    let whole : bytes ≡ held.held ++ on.more =
    slides.consumed ∙ ap (λ l. l ++ rest) (sym all)
    ∙ ap (λ l. held.held ++ l) (on.consumed ∙ ap (λ l. on.more ++ l) end ∙ append-nil on.more) in
    let long = ap length whole in
    let same = ap length all in
    let parts = length-append held.held on.more in
    let one = slides.counted in
    let two = on.counted in
    (omega arith, (refl, subst HasNoHeader (sym whole) (unheaded on.more)))

-- what is told where there is no header, once the rest was read
pub header_tells : (known before left : Option (List ℕ)) (first held new : WindowState) (stop : Stop)
    → Slides first held known before → first.held ≡ [] → first.read ≡ 0 → ReadsOn held new before left
    → IsRefused 1 of_line.Header new.read left stop → ((more : List ℕ) → HasNoHeader (held.held ++ more)) → TellsFault known stop
header_tells known before left first held new stop slides none zero on (IsRefused.faulty is end few) unheaded =
    subst (TellsFault known) (sym is) (no_header_known known before left first held new slides none zero on end few unheaded)
header_tells known before left first held new stop slides none zero on (IsRefused.cut why is cut) unheaded =
    subst (TellsFault known) (sym is) (first_cut known left first new why (on_after_slide first held new known before left slides on) zero cut)
