-- what an audit is: the text of a journal, or the first fault
use Rattle.std.specs.Prelude.{◌≡◌, ◌<◌, ◌≤◌, ◌+◌, ℕ, suc, List, [], ◌∷◌, ◌++◌, length, Result, Ok, Err, IsTrue, ⊤}
use Rattle.fy_lines.specs.Lines.{lines_of}
use Rattle.fy_spelling.specs.Fits.{FitsEntry}
use Rattle.fy_spelling.specs.Values.{text_of}
use Rattle.fy_spelling.specs.declared.command.TheConstants.{MOST_LINE_BYTES}
use Rattle.fy_acts.specs.declared.entry.Entry.{Entry}
use Rattle.fy_audit.specs.AuditText.{header, entry_line, audit_text}
use Rattle.fy_acts.specs.Journal.{Log}
use Rattle.fy_audit.specs.Versions.{has_entry}
use Rattle.fy_audit.specs.declared.audit.TheConstants.{MOST_AUDIT_BYTES}
use Rattle.fy_audit.specs.declared.audit.AuditFault.{AuditFault}
use Rattle.fy_audit.specs.declared.audit.AuditFault.TheVariants.{TooLong, Line, NoMemory}
use Rattle.fy_audit.specs.declared.audit.AuditLineFault.{AuditLineFault}
use Rattle.fy_audit.specs.declared.audit.AuditLineFault.TheVariants as of_line
use Rattle.fy_audit.specs.declared.reader.NoEntry.{NoEntry}
use Rattle.fy_audit.specs.declared.reader.NoEntry.TheVariants as no_entry
use Rattle.fy_audit.specs.declared.reader.NoEntry.TheVariants.{Faulty}
use Rattle.fy_acts.specs.declared.version.Version.{Version}

-- what an audit tells: a version and the entries of a journal, the oldest first
pub record Audit : Type 0 where
  pub version : Version
  pub entries : List Entry

-- what an audit tells of a journal
abbrev pub audit_of : Log → Audit
audit_of journal = record { version = journal.version; entries = journal.entries }

-- the entry may stand at this place, counted from 0, in an audit of the version
pub record MayStand (version : Version) (place : ℕ) (entry : Entry) : Type 0 where
  pub at : entry.at ≡ place
  pub fits : FitsEntry entry
  pub short : length (text_of entry) ≤ MOST_LINE_BYTES
  pub known : IsTrue (has_entry version entry)

-- each of the entries may stand at its place, the first of them at this one
abbrev pub MayStandFrom : Version → ℕ → List Entry → Type 0
MayStandFrom version place [] = ⊤
MayStandFrom version place (entry ∷ entries) =
    MayStand version place entry × MayStandFrom version (suc place) entries

-- what is left of an audit begins with the line of an entry that may stand there
pub record BeginsWith (version : Version) (place : ℕ) (rest : List ℕ) (entry : Entry)
    (after : List ℕ) : Type 0 where
  pub split : rest ≡ entry_line entry ++ after
  pub may : MayStand version place entry

-- what is left of an audit begins with no entry that may stand there
abbrev pub BeginsWithNone : Version → ℕ → List ℕ → Type 0
BeginsWithNone version place rest =
    (entry : Entry) (after : List ℕ) → BeginsWith version place rest entry after → ⊥

-- a line, the first of what is left of an audit, has this fault where an entry has to stand
abbrev pub HasFault : Version → ℕ → List ℕ → List ℕ → AuditLineFault → Type 0
HasFault version place rest line of_line.Header = ⊥
HasFault version place rest line of_line.TooLong = MOST_LINE_BYTES < length line
HasFault version place rest line of_line.Syntax =
    (length line ≤ MOST_LINE_BYTES) × BeginsWithNone version place rest

-- what is left of an audit begins with a line that has this fault where an entry has to stand
pub record BeginsFaulty (version : Version) (place : ℕ) (rest : List ℕ) (fault : AuditLineFault) :
    Type 0 where
  pub line : List ℕ
  pub after : List (List ℕ)
  pub first : lines_of rest ≡ line ∷ after
  pub is : HasFault version place rest line fault

-- a line behind the header, counted from 1 with it, is the first that is no entry, by this fault
pub record FirstFaulty (bytes : List ℕ) (number : ℕ) (fault : AuditLineFault) : Type 0 where
  pub version : Version
  pub entries : List Entry
  pub rest : List ℕ
  pub split : bytes ≡ audit_text version entries ++ rest
  pub faultless : MayStandFrom version 0 entries
  pub place : number ≡ length entries + 2
  pub here : BeginsFaulty version (length entries) rest fault

-- no header stands before the rest
abbrev pub HasNoHeader : List ℕ → Type 0
HasNoHeader bytes = (version : Version) (rest : List ℕ) → bytes ≡ header version ++ rest → ⊥

-- a line of an audit, counted from 1, is the first faulty one
abbrev pub LineIsFaulty : List ℕ → ℕ → AuditLineFault → Type 0
LineIsFaulty bytes number of_line.Header = (number ≡ 1) × HasNoHeader bytes
LineIsFaulty bytes number of_line.TooLong = FirstFaulty bytes number of_line.TooLong
LineIsFaulty bytes number of_line.Syntax = FirstFaulty bytes number of_line.Syntax

-- what the bytes of an audit are: the text of a journal, or their first fault
abbrev pub AuditOf : List ℕ → Result Audit AuditFault → Type 0
AuditOf bytes (Ok audit) =
    (length bytes ≤ MOST_AUDIT_BYTES)
    × (bytes ≡ audit_text audit.version audit.entries)
    × MayStandFrom audit.version 0 audit.entries
AuditOf bytes (Err TooLong) = MOST_AUDIT_BYTES < length bytes
AuditOf bytes (Err (Line number fault)) =
    (length bytes ≤ MOST_AUDIT_BYTES) × LineIsFaulty bytes number fault
AuditOf bytes (Err NoMemory) = ⊥

-- what a reader may answer: what the bytes are, or that an allocation failed
abbrev pub AuditAnswers : List ℕ → Result Audit AuditFault → Type 0
AuditAnswers bytes (Err NoMemory) = ⊤
AuditAnswers bytes answer = AuditOf bytes answer

-- ---- step by step

-- why a reader may stop before what is left of an audit
abbrev pub EndsBefore : Version → ℕ → List ℕ → NoEntry → Type 0
EndsBefore version place rest (Faulty fault) = BeginsFaulty version place rest fault
EndsBefore version place rest no_entry.NoMemory = ⊤
