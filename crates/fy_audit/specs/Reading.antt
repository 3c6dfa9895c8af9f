-- reading an audit entry by entry
use Rattle.std.specs.Prelude.{◌≡◌, ◌≤◌, ◌+◌, ℕ, List, [], ◌∷◌, ◌++◌, length, Ok, Err, ⊤}
use Rattle.fy_acts.specs.declared.entry.Entry.{Entry}
use Rattle.fy_audit.specs.Audit.{MayStandFrom, BeginsWith, BeginsFaulty, AuditOf, AuditAnswers}
use Rattle.fy_audit.specs.AuditText.{audit_text}
use Rattle.fy_audit.specs.declared.audit.TheConstants.{MOST_AUDIT_BYTES}
use Rattle.fy_audit.specs.declared.audit.AuditFault.{AuditFault}
use Rattle.fy_audit.specs.declared.audit.AuditFault.TheVariants.{TooLong, Line, NoMemory}
use Rattle.fy_acts.specs.declared.version.Version.{Version}

-- an audit that is being read: its version, the place of the next entry, from 0, and what is left
pub record ReaderState : Type 0 where
  pub version : Version
  pub place : ℕ
  pub rest : List ℕ

-- of an audit these entries were read, each of which may stand at its place
pub record HasRead (bytes : List ℕ) (entries : List Entry) (reader_state : ReaderState) : Type 0 where
  pub bound : length bytes ≤ MOST_AUDIT_BYTES
  pub split : bytes ≡ audit_text reader_state.version entries ++ reader_state.rest
  pub faultless : MayStandFrom reader_state.version 0 entries
  pub place : reader_state.place ≡ length entries

-- the entry at the front of what was left is read
pub record ReadsEntry (entry : Entry) (old new : ReaderState) : Type 0 where
  pub front : BeginsWith old.version old.place old.rest entry new.rest
  pub version : new.version ≡ old.version
  pub place : new.place ≡ old.place + 1

-- why no entry is read of what is left: its first line, which has number place + 2, is faulty, or
-- an allocation failed
abbrev pub Stops : ReaderState → AuditFault → Type 0
Stops reader_state TooLong = ⊥
Stops reader_state (Line number fault) =
    (number ≡ reader_state.place + 2) × BeginsFaulty reader_state.version reader_state.place reader_state.rest fault
Stops reader_state NoMemory = ⊤

-- the entries that were read, and one more
abbrev pub EntryExtendsRead : Type 0
EntryExtendsRead =
    (bytes : List ℕ) (entries : List Entry) (entry : Entry) (old new : ReaderState) →
    HasRead bytes entries old → ReadsEntry entry old new → HasRead bytes (entries ++ entry ∷ []) new

-- whatever was read before, the fault at which reading stops is the audit's
abbrev pub StopsAreFaults : Type 0
StopsAreFaults =
    (bytes : List ℕ) (entries : List Entry) (reader_state : ReaderState) (fault : AuditFault) →
    HasRead bytes entries reader_state → Stops reader_state fault → AuditAnswers bytes (Err fault)

-- where nothing is left, what was read is the audit
abbrev pub EndsAsAudit : Type 0
EndsAsAudit =
    (bytes : List ℕ) (entries : List Entry) (reader_state : ReaderState) → HasRead bytes entries reader_state →
    reader_state.rest ≡ [] →
    AuditOf bytes (Ok (record { version = reader_state.version; entries = entries }))
