-- an audit that is checked line by line
use Rattle.std.specs.Prelude.{◌≡◌, ◌≢◌, ◌≤◌, ◌+◌, ℕ, List, [], ◌∷◌, ◌++◌, length, Option, Some, None, Ok, Err}
use Rattle.std.specs.Ptr.{null_ptr}
use Rattle.fy_acts.specs.declared.entry.Entry.{Entry}
use Rattle.fy_audit.specs.Audit.{Audit, AuditOf}
use Rattle.fy_audit.specs.AuditText.{header}
use Rattle.fy_audit.specs.declared.audit.TheConstants.{MOST_AUDIT_BYTES}
use Rattle.fy_audit.specs.declared.audit.AuditFault.{AuditFault}
use Rattle.fy_audit.specs.declared.audit.AuditFault.TheVariants as audit
use Rattle.fy_audit.specs.declared.audit.AuditLineFault.{AuditLineFault}
use Rattle.fy_audit.specs.declared.audit.AuditLineFault.TheVariants as of_line
use Rattle.fy_cluster.specs.Setup.{Setup}
use Rattle.fy_config.specs.Config.{ConfigOf}
use Rattle.fy_replay.specs.Replayed.{HasReplayed}
use Rattle.fy_acts.specs.declared.version.Version.{Version}
use Rattle.fy_lines.specs.Lines.{lines_of}
use Rattle.fy_spelling.specs.declared.command.TheConstants.{MOST_LINE_BYTES}
use Rattle.fy_c.specs.Opening.{NotOpened}
use Rattle.fy_c.specs.Progress.{Progress}
use Rattle.fy_c.specs.declared.check_handle.FyCheck.{FyCheck}
use Rattle.fy_c.specs.declared.checking.Check.{Check}
use Rattle.fy_c.specs.declared.status.Status.{Status}
use Rattle.fy_c.specs.declared.status.Status.TheVariants.{Done, NoMemory, LineTooLong, LineSyntax, NoHeader, AuditTooLong}

-- these bytes are an audit, whose entries were replayed
pub record HasProgress (setup : Setup) (bytes : List ℕ) (progress : Progress) : Type 0 where
  pub entries : List Entry
  pub audit : AuditOf bytes (Ok (record { version = progress.replayed.version; entries = entries }))
  pub replayed : HasReplayed setup entries progress.replayed
  pub count : progress.count ≡ length entries
  pub long : progress.bytes ≡ length bytes

-- so they are; or there are none yet
abbrev pub HasBegun : Setup → List ℕ → Option Progress → Type 0
HasBegun setup bytes None = bytes ≡ []
HasBegun setup bytes (Some progress) = HasProgress setup bytes progress

-- these bytes were read line by line
abbrev pub HasChecked : List ℕ → Check → Type 0
HasChecked bytes check = HasBegun check.config bytes check.begun

-- ---- what is told

-- the first bad entry, 2 ^ 32 - 1 where there is none
abbrev pub bad_number : Option ℕ → ℕ
bad_number None = 4294967295
bad_number (Some at) = at

-- how many entries were read
abbrev pub count_of : Option Progress → ℕ
count_of None = 0
count_of (Some progress) = progress.count

-- the first bad one of them
abbrev pub bad_of : Option Progress → ℕ
bad_of None = 4294967295
bad_of (Some progress) = bad_number progress.replayed.first_bad

-- ---- a line

-- the status for a faulty line of an audit
abbrev pub line_fault_status : AuditLineFault → Status
line_fault_status of_line.Header = NoHeader
line_fault_status of_line.TooLong = LineTooLong
line_fault_status of_line.Syntax = LineSyntax

-- the status for an audit that is refused
abbrev pub audit_status : AuditFault → Status
audit_status audit.TooLong = AuditTooLong
audit_status (audit.Line number fault) = line_fault_status fault
audit_status audit.NoMemory = NoMemory

-- what number the next line has, from 1 with the header
abbrev pub next_number : Option Progress → ℕ
next_number None = 1
next_number (Some progress) = progress.count + 2

-- what was read, and these bytes behind it, are an audit
abbrev pub IsAuditWith : (List ℕ → Type 0) → List ℕ → Type 0
IsAuditWith WasRead front =
    (bytes : List ℕ) → WasRead bytes → (it : Audit) × AuditOf (bytes ++ front) (Ok it)

-- what is asked of a line of this number before memory is: with it there aren't too many bytes
-- behind those that were read; no more stand before its line feed than a line may have; and a first
-- line begins with the header of a version
pub record MayBeRead (WasRead : List ℕ → Type 0) (number : ℕ) (line : List ℕ) : Type 0 where
  pub fits : (bytes : List ℕ) → WasRead bytes → length (bytes ++ line) ≤ MOST_AUDIT_BYTES
  pub short : (front : List ℕ) (after : List (List ℕ)) → lines_of line ≡ front ∷ after →
      length front ≤ MOST_LINE_BYTES
  pub begins : number ≡ 1 → (version : Version) × (rest : List ℕ) × (line ≡ header version ++ rest)

-- why a line of this number isn't read behind bytes that were read, in order: there are too many
-- with it; it is faulty; nothing is given; more follows its line feed. Or an allocation failed, and
-- all that is asked before holds
pub data Refuses (WasRead : List ℕ → Type 0) (number : ℕ) (line : List ℕ) : Status → Type 0 where
  too_long : ((bytes : List ℕ) → WasRead bytes → AuditOf (bytes ++ line) (Err audit.TooLong)) →
      Refuses WasRead number line AuditTooLong
  faulty : (fault : AuditLineFault) →
      ((bytes : List ℕ) → WasRead bytes → AuditOf (bytes ++ line) (Err (audit.Line number fault))) →
      Refuses WasRead number line (line_fault_status fault)
  empty : line ≡ [] → IsAuditWith WasRead [] → Refuses WasRead number line LineSyntax
  more : (front after : List ℕ) → line ≡ front ++ 10 ∷ after → after ≢ [] →
      ((bytes : List ℕ) → WasRead bytes → length (bytes ++ line) ≤ MOST_AUDIT_BYTES) →
      IsAuditWith WasRead (front ++ 10 ∷ []) → Refuses WasRead number line LineSyntax
  no_memory : MayBeRead WasRead number line → Refuses WasRead number line NoMemory

-- the line was read: whatever was read before, it was read behind that
pub record ReadsOn (old new : Check) (line : List ℕ) : Type 0 where
  pub config : new.config ≡ old.config
  pub more : (bytes : List ℕ) → HasChecked bytes old → HasChecked (bytes ++ line) new

-- what a line comes to. The first bad entry so far is told
pub data ReadsLine (old new : Check) (line : List ℕ) (told : ℕ) (status : Status) : Type 0 where
  read : status ≡ Done → ReadsOn old new line → told ≡ bad_of new.begun →
      ReadsLine old new line told status
  refused : Refuses (λ bytes. HasChecked bytes old) (next_number old.begun) line status →
      new ≡ old → told ≡ bad_of old.begun → ReadsLine old new line told status

-- ---- the calls

-- the check is open and nothing was read, or it is what it was
pub data BeginsCheck (config : List ℕ) (old new : FyCheck) : Status → Type 0 where
  begins : new.at ≢ null_ptr → ConfigOf config (Ok new.value.config) → new.value.begun ≡ None →
      BeginsCheck config old new Done
  refused : (status : Status) → NotOpened config status → new ≡ old →
      BeginsCheck config old new status

-- what was found of what was read: how many entries, and the first bad one
pub data Finding (check : Check) (count bad : ℕ) : Status → Type 0 where
  found : (progress : Progress) → check.begun ≡ Some progress → count ≡ progress.count →
      bad ≡ bad_number progress.replayed.first_bad → Finding check count bad Done
  no_header : check.begun ≡ None → count ≡ 0 → bad ≡ 4294967295 → Finding check count bad NoHeader
