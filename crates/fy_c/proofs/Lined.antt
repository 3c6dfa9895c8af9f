-- an audit that is read line by line
use Rattle.std.proofs.Common.{◌≡◌, ◌∙◌, ◌+◌, ◌-◌, ◌<◌, ◌≤◌, ℕ, List, [], ◌∷◌, ◌++◌, length, refl, sym, ap, ap₂, subst, arith, append_assoc, append-nil, length-append}
use Rattle.std.specs.Prelude.{◌≢◌, true, false, ◌==◌, Option, Some, None, Result, Ok, Err, OnOk, OnErr, IfErr, codes, ⊤}
use Rattle.std.proofs.lemmas.Bool.Decides.{nat_tests}
use Rattle.fy_acts.specs.declared.entry.Entry.{Entry}
use Rattle.fy_audit.specs.Audit.{Audit, AuditOf, AuditAnswers, MayStandFrom, BeginsWith}
use Rattle.fy_audit.specs.AuditText.{audit_text, entry_line, header}
use Rattle.fy_audit.specs.Reading.{ReaderState, HasRead, ReadsEntry, Stops, EntryExtendsRead, EndsAsAudit}
use Rattle.fy_audit.specs.declared.audit.TheConstants.{MOST_AUDIT_BYTES}
use Rattle.fy_audit.specs.declared.audit.AuditFault.{AuditFault}
use Rattle.fy_audit.specs.declared.audit.AuditFault.TheVariants.{TooLong, Line, NoMemory}
use Rattle.fy_audit.specs.declared.audit.AuditLineFault.TheVariants.{Header}
use Rattle.fy_replay.specs.Replayed.{HasReplayed}
use Rattle.fy_cluster.specs.Setup.{Setup}
use Rattle.fy_lines.specs.Lines.{lines_of}
use Rattle.fy_acts.specs.declared.version.Version.{Version}
use Rattle.fy_acts.specs.declared.version.Version.TheVariants.{First, Second}
use Rattle.fy_spelling.specs.Values.{text_of}
use Rattle.fy_spelling.specs.declared.command.TheConstants.{MOST_LINE_BYTES}
use Rattle.fy_c.specs.InStep.{progress}
use Rattle.fy_c.specs.Progress.{Progress}
use Rattle.fy_c.specs.declared.checking.Begun.TheInside.{Inside}
use Rattle.fy_c.specs.Checking.{HasProgress, HasBegun, HasChecked, MayBeRead, ReadsLine, ReadsOn, Refuses, audit_status, bad_of, next_number}
use Rattle.fy_c.specs.Statuses.{ending}
use Rattle.fy_c.specs.declared.checking.Check.{Check}
use Rattle.fy_c.specs.declared.status.Status.{Status}
use Rattle.fy_c.specs.declared.status.Status.TheVariants.{LineSyntax}

-- the header of a version, and that with what follows it, split at its line feed
header_split : (version : Version) (rest : List ℕ) →
    (front : List ℕ) × (audit_text version [] ≡ front ++ 10 ∷ [])
    × (audit_text version [] ++ rest ≡ front ++ 10 ∷ rest)
header_split First rest = (codes "{\"audit\":1}", refl, refl)
header_split Second rest = (codes "{\"audit\":2}", refl, refl)

-- more than a header was given
pub header_and_more : EndsAsAudit → (line : List ℕ) (state : ReaderState) → HasRead line [] state →
    (state.rest ≡ [] → ⊥) → Refuses (λ bytes. bytes ≡ []) 1 line LineSyntax
header_and_more ends line state read some =
    let parts = header_split state.version state.rest in
    let front = parts.0 ++ 10 ∷ [] in
    let over = length-append (audit_text state.version []) state.rest in
    let long = ap (λ (it : List ℕ). length it) read.split in
    let bound = read.bound in
    let only : ReaderState = record { version = state.version; place = 0; rest = [] } in
    let read_all : HasRead (audit_text state.version []) [] only = record {
      bound = omega arith;
      split = sym (append-nil (audit_text state.version []));
      faultless = tt;
      place = refl;
    } in
    let whole = ends (audit_text state.version []) [] only read_all refl in
    let audit : Audit = record { version = state.version; entries = [] } in
    Refuses.more parts.0 state.rest (read.split ∙ parts.2) some
    (λ bytes none. subst (λ before. length (before ++ line) ≤ MOST_AUDIT_BYTES) (sym none) bound)
    (λ bytes none. (
      audit,
      subst (λ before. AuditOf (before ++ front) (Ok audit)) (sym none)
          (subst (λ text. AuditOf text (Ok audit)) parts.1 whole),
    ))

-- a line without bytes, and one with some
pub empty_line : (line : List ℕ) → (length line == 0) ≡ true → line ≡ []
empty_line [] none = refl
empty_line (x ∷ line) none = absurd (grind (arith, nat_tests, none))

pub some_bytes : (line : List ℕ) → (length line == 0) ≡ false → 0 < length line
some_bytes line some = grind (arith, nat_tests, some)

-- a reader stopped at the line
pub stopped : (WasRead : List ℕ → Type 0) (state : ReaderState) (line : List ℕ) (fault : AuditFault) →
    Stops state fault → MayBeRead WasRead (state.place + 2) line →
    ((bytes : List ℕ) → WasRead bytes → AuditAnswers (bytes ++ line) (Err fault)) →
    Refuses WasRead (state.place + 2) line (audit_status fault)
stopped WasRead state line TooLong none may told = absurd none
stopped WasRead state line (Line number fault) stops may told =
    Refuses.faulty fault (λ bytes has. subst (λ n. AuditOf (bytes ++ line) (Err (Line n fault)))
    stops.0 (told bytes has))
stopped WasRead state line NoMemory stops may told = Refuses.no_memory may

-- bytes have one first line
same_first : (lines : List (List ℕ)) (front other : List ℕ) (after rest : List (List ℕ)) →
    lines ≡ front ∷ after → lines ≡ other ∷ rest → front ≡ other
same_first lines front other after rest is too = cc

-- the first line is the header of a version, which is short
short_header : (version : Version) (front : List ℕ) (after : List (List ℕ)) →
    lines_of (audit_text version []) ≡ front ∷ after → length front ≤ MOST_LINE_BYTES
short_header First front after is =
    subst (λ (l : List ℕ). length l ≤ MOST_LINE_BYTES)
    (same_first (lines_of (audit_text First [])) (codes "{\"audit\":1}") front [] after refl is)
    (omega arith)
short_header Second front after is =
    subst (λ (l : List ℕ). length l ≤ MOST_LINE_BYTES)
    (same_first (lines_of (audit_text Second [])) (codes "{\"audit\":2}") front [] after refl is)
    (omega arith)

-- a header alone may be read
pub header_may_be_read : (line : List ℕ) (state : ReaderState) → HasRead line [] state →
    state.rest ≡ [] → MayBeRead (λ bytes. bytes ≡ []) 1 line
header_may_be_read line state read none =
    let bound = read.bound in
    let whole = read.split ∙ ap (λ rest. audit_text state.version [] ++ rest) none
    ∙ append-nil (audit_text state.version []) in record {
      fits = λ bytes empty.
          subst (λ before. length (before ++ line) ≤ MOST_AUDIT_BYTES) (sym empty) bound;
      short = λ front after is.
          short_header state.version front after (ap lines_of (sym whole) ∙ is);
      begins = λ one. (
        state.version,
        state.rest,
        read.split ∙ ap (λ text. text ++ state.rest) (append-nil (header state.version)),
      );
    }

-- whether the whole audit is too long
IsTooLong : AuditFault → Type 0
IsTooLong TooLong = ⊤
IsTooLong (Line number fault) = ⊥
IsTooLong NoMemory = ⊥

-- no header was given
pub no_header : (line : List ℕ) (fault : AuditFault) → (fault ≢ TooLong → fault ≡ Line 1 Header) →
    AuditOf line (Err fault) → Refuses (λ bytes. bytes ≡ []) 1 line (audit_status fault)
unfolding IsTooLong
no_header line TooLong first told =
    Refuses.too_long (λ bytes none. subst (λ before. AuditOf (before ++ line) (Err TooLong))
    (sym none) told)
no_header line (Line number fault) first told =
    let is = first (λ same. subst IsTooLong (sym same) tt) in
    subst (λ f. Refuses (λ bytes. bytes ≡ []) 1 line (audit_status f)) (sym is)
    (Refuses.faulty Header (λ bytes none.
    subst (λ before. AuditOf (before ++ line) (Err (Line 1 Header))) (sym none)
    (subst (λ f. AuditOf line (Err f)) is told)))
no_header line NoMemory first told = absurd told

-- what is refused behind more is refused behind less
pub refuses_more : (Less More : List ℕ → Type 0) (number : ℕ) (line : List ℕ) (status : Status) →
    ((bytes : List ℕ) → Less bytes → More bytes) → Refuses More number line status →
    Refuses Less number line status
refuses_more Less More number line _ is (Refuses.too_long told) =
    Refuses.too_long (λ bytes has. told bytes (is bytes has))
refuses_more Less More number line _ is (Refuses.faulty fault told) =
    Refuses.faulty fault (λ bytes has. told bytes (is bytes has))
refuses_more Less More number line _ is (Refuses.empty none whole) =
    Refuses.empty none (λ bytes has. whole bytes (is bytes has))
refuses_more Less More number line _ is (Refuses.more front after split some fits whole) =
    Refuses.more front after split some (λ bytes has. fits bytes (is bytes has))
    (λ bytes has. whole bytes (is bytes has))
refuses_more Less More number line _ is (Refuses.no_memory may) = Refuses.no_memory (record {
  fits = λ bytes has. may.fits bytes (is bytes has);
  short = may.short;
  begins = may.begins;
})

-- so an entry is refused behind what a check has read, and a header where it has read nothing
pub refuses_entry : (check : Check) (now : Progress) (line : List ℕ) (status : Status) →
    check.begun ≡ Some now →
    Refuses (λ bytes. (setup : Setup) × HasProgress setup bytes now) (now.count + 2) line status →
    Refuses (λ bytes. HasChecked bytes check) (next_number check.begun) line status
refuses_entry check now line status is refused =
    subst (λ (it : Option Progress). Refuses (λ bytes. HasChecked bytes check) (next_number it) line
    status) (sym is)
    (refuses_more (λ bytes. HasChecked bytes check)
    (λ bytes. (setup : Setup) × HasProgress setup bytes now) (now.count + 2) line status
    (λ bytes has. (check.config, subst (HasBegun check.config bytes) is has)) refused)

pub refuses_header : (check : Check) (line : List ℕ) (status : Status) → check.begun ≡ None →
    Refuses (λ bytes. bytes ≡ []) 1 line status →
    Refuses (λ bytes. HasChecked bytes check) (next_number check.begun) line status
refuses_header check line status is refused =
    subst (λ (it : Option Progress). Refuses (λ bytes. HasChecked bytes check) (next_number it) line
    status) (sym is)
    (refuses_more (λ bytes. HasChecked bytes check) (λ bytes. bytes ≡ []) 1 line status
    (λ bytes has. subst (HasBegun check.config bytes) is has) refused)

-- a line has room behind what was read
pub has_room : (bytes line : List ℕ) (long : ℕ) → long ≡ length bytes → long ≤ MOST_AUDIT_BYTES →
    length line ≤ MOST_AUDIT_BYTES - long → length (bytes ++ line) ≤ MOST_AUDIT_BYTES
has_room bytes line long is few fits = let both = length-append bytes line in omega arith

-- a line with room and no long first line may be read behind entries
pub may_be_read : (line front : List ℕ) (after : List (List ℕ)) (now : Progress) →
    length line ≤ MOST_AUDIT_BYTES - now.bytes → lines_of line ≡ front ∷ after →
    length front ≤ MOST_LINE_BYTES →
    MayBeRead (λ bytes. (setup : Setup) × HasProgress setup bytes now) (now.count + 2) line
may_be_read line front after now fits first few = record {
  fits = λ bytes has. has_room bytes line now.bytes has.1.long
      (let short = has.1.audit.0 in let long = has.1.long in omega arith) fits;
  short = λ other rest is. subst (λ (l : List ℕ). length l ≤ MOST_LINE_BYTES)
      (same_first (lines_of line) front other after rest first is) few;
  begins = λ one. absurd (omega arith);
}

-- a line has no room behind what was read
pub has_no_room : (bytes line : List ℕ) (long : ℕ) → long ≡ length bytes →
    MOST_AUDIT_BYTES - long < length line → MOST_AUDIT_BYTES < length (bytes ++ line)
has_no_room bytes line long is over = let both = length-append bytes line in omega arith

-- a reader that goes on with a line behind what was read
pub goes_on : (setup : Setup) (bytes line : List ℕ) (progress : Progress) (state : ReaderState)
    (has : HasProgress setup bytes progress) → state.version ≡ progress.replayed.version →
    state.place ≡ progress.count → state.rest ≡ line →
    length line ≤ MOST_AUDIT_BYTES - progress.bytes → HasRead (bytes ++ line) has.entries state
goes_on setup bytes line progress state has version place rest fits = record {
  bound = has_room bytes line progress.bytes has.long
      (let few = has.audit.0 in let long = has.long in omega arith) fits;
  split = ap (λ b. b ++ line) has.audit.1
      ∙ ap₂ (λ (v : Version) (more : List ℕ). audit_text v has.entries ++ more) (sym version)
      (sym rest);
  faultless = subst (λ v. MayStandFrom v 0 has.entries) (sym version) has.audit.2;
  place = place ∙ has.count;
}

-- more than the line of an entry was given
pub entry_and_more : EntryExtendsRead → EndsAsAudit → (line after : List ℕ) (now : Progress)
    (state : ReaderState) (entry : Entry) → state.version ≡ now.replayed.version →
    state.place ≡ now.count → length line ≤ MOST_AUDIT_BYTES - now.bytes →
    BeginsWith state.version state.place line entry after → (after ≡ [] → ⊥) →
    Refuses (λ bytes. (setup : Setup) × HasProgress setup bytes now) (now.count + 2) line LineSyntax
entry_and_more more ends line after now state entry version place fits begins some =
    let front = entry_line entry in
    let old : ReaderState = record { version = state.version; place = state.place; rest = front } in
    let new : ReaderState = record { version = state.version; place = state.place + 1; rest = [] } in
    let long = ap (λ (it : List ℕ). length it) begins.split in
    let both = length-append front after in
    let step : ReadsEntry entry old new = record {
      front = record { split = sym (append-nil front); may = begins.may };
      version = refl;
      place = refl;
    } in
    Refuses.more (text_of entry) after
    (begins.split ∙ append_assoc (text_of entry) (10 ∷ []) after) some
    (λ bytes has. has_room bytes line now.bytes has.1.long
    (let few = has.1.audit.0 in let many = has.1.long in omega arith) fits)
    (λ bytes has.
    let read = goes_on has.0 bytes front now old has.1 version place refl (omega arith) in
    let entries = has.1.entries ++ entry ∷ [] in (
      record { version = state.version; entries = entries },
      ends (bytes ++ front) entries new
          (more (bytes ++ front) has.1.entries entry old new read step) refl,
    ))

-- so does one that begins as the fields say
pub begun_at : (setup : Setup) (bytes line : List ℕ) (inside : Inside) (now : Progress)
    (state : ReaderState) → progress inside ≡ now → inside.version ≡ inside.replayer.version →
    state ≡ record { version = inside.version; place = inside.count; rest = line } →
    length line ≤ MOST_AUDIT_BYTES - inside.bytes → (has : HasProgress setup bytes now) →
    HasRead (bytes ++ line) has.entries state
begun_at setup bytes line inside now state view kept is fits has =
    goes_on setup bytes line now state has
    (ap (λ (it : ReaderState). it.version) is ∙ kept
    ∙ ap (λ (it : Progress). it.replayed.version) view)
    (ap (λ (it : ReaderState). it.place) is ∙ ap (λ (it : Progress). it.count) view)
    (ap (λ (it : ReaderState). it.rest) is)
    (subst (λ n. length line ≤ MOST_AUDIT_BYTES - n) (ap (λ (it : Progress). it.bytes) view) fits)

-- what was read, with a line more
pub grown : EntryExtendsRead → EndsAsAudit → (setup : Setup) (bytes line : List ℕ)
    (old new : Progress) (before after : ReaderState) (entry : Entry)
    (has : HasProgress setup bytes old) → HasRead (bytes ++ line) has.entries before →
    ReadsEntry entry before after → after.rest ≡ [] →
    HasReplayed setup (has.entries ++ entry ∷ []) new.replayed →
    before.version ≡ new.replayed.version → new.count ≡ old.count + 1 →
    new.bytes ≡ old.bytes + length line → HasProgress setup (bytes ++ line) new
grown more ends setup bytes line old new before after entry has read step none replayed version count
    long =
    let entries = has.entries ++ entry ∷ [] in
    let whole = ends (bytes ++ line) entries after
    (more (bytes ++ line) has.entries entry before after read step) none in
    let one_more = length-append has.entries (entry ∷ []) in
    let both = length-append bytes line in
    let was = has.count in
    let had = has.long in
    record {
      entries = entries;
      audit = subst (λ v. AuditOf (bytes ++ line) (Ok (record { version = v; entries = entries })))
          (step.version ∙ version) whole;
      replayed = replayed;
      count = omega arith;
      long = omega arith;
    }

-- what a line comes to, by what was read of it
pub reads_line : {A : Type 0} (old new : Check) (line : List ℕ) (told : ℕ)
    (outcome : Result A Status) → OnOk outcome (ReadsOn old new line) →
    IfErr outcome (Refuses (λ bytes. HasChecked bytes old) (next_number old.begun) line) →
    OnErr outcome (new ≡ old) → told ≡ bad_of new.begun →
    ReadsLine old new line told (ending outcome)
reads_line old new line told (Ok done) on refused same bad = ReadsLine.read refl on bad
reads_line old new line told (Err status) on refused same bad =
    ReadsLine.refused refused same (bad ∙ ap (λ (it : Check). bad_of it.begun) same)
