-- an audit that is read piece by piece
use Rattle.std.specs.Prelude.{◌≡◌, ◌≤◌, ◌+◌, ℕ, List, ◌∷◌, ◌++◌, [], length, Option, IfSome, Ok, Err}
use Rattle.std.specs.Io.KnownBytes.{Consumes, IsAtEnd}
use Rattle.fy_lines.specs.Windows.{IsCut}
use Rattle.fy_lines.specs.declared.input.InputFault.{InputFault}
use Rattle.fy_acts.specs.declared.entry.Entry.{Entry}
use Rattle.fy_audit.specs.Audit.{Audit, AuditOf, MayStandFrom}
use Rattle.fy_audit.specs.AuditText.{audit_text}
use Rattle.fy_audit.specs.declared.audit.TheConstants.{MOST_AUDIT_BYTES}
use Rattle.fy_audit.specs.declared.audit.AuditLineFault.{AuditLineFault}
use Rattle.fy_audit.specs.declared.audit.AuditFault.TheVariants as audit
use Rattle.fy_acts.specs.declared.version.Version.{Version}
use Rattle.fy_streams.specs.declared.stop.Stop.{Stop}
use Rattle.fy_streams.specs.declared.stop.Stop.TheVariants.{Audit as audit_stopped, Read, NoMemory}
use Rattle.fy_streams.specs.Stops as stops
use Rattle.fy_streams.specs.Stops.{IfAuditFault}

-- an audit that is being read: its version, the place of the next entry, from 0, which bytes were
-- read behind the entries so far, and how many bytes in all
pub record InputState : Type 0 where
  pub version : Version
  pub place : ℕ
  pub held : List ℕ
  pub read : ℕ

-- of the known bytes of a reader, of which these are left, the header and these entries were taken
pub record HasTaken (known left : Option (List ℕ)) (entries : List Entry) (input : InputState)
    : Type 0 where
  pub front : Consumes known left (audit_text input.version entries ++ input.held)
  pub counted : input.read ≡ length (audit_text input.version entries ++ input.held)
  pub within : input.read ≤ MOST_AUDIT_BYTES
  pub faultless : MayStandFrom input.version 0 entries
  pub place : input.place ≡ length entries

-- the next entry was taken, whatever was before
pub record HasTakenOne (before left : Option (List ℕ)) (old new : InputState) (entry : Entry)
    : Type 0 where
  pub taken : (known : Option (List ℕ)) (entries : List Entry) → HasTaken known before entries old
      → HasTaken known left (entries ++ entry ∷ []) new
  pub at : entry.at ≡ old.place
  pub place : new.place ≡ old.place + 1
  pub few : new.place ≤ MOST_AUDIT_BYTES
  pub version : new.version ≡ old.version

-- bytes are an audit of this version and of so many entries, and this holds of these
pub record IsReadInto (bytes : List ℕ) (version : Version) (count : ℕ) (P : List Entry → Type 0)
    : Type 0 where
  pub audit : Audit
  pub read : AuditOf bytes (Ok audit)
  pub version_is : version ≡ audit.version
  pub count_is : count ≡ length audit.entries
  pub holds : P audit.entries

-- where a stop names a fault of an audit whose bytes are known, they are refused by it
abbrev pub TellsFault : Option (List ℕ) → Stop → Type 0
TellsFault known stop = IfAuditFault stop (λ fault. IfSome known (λ bytes. AuditOf bytes (Err fault)))

-- the stop for an audit of which not all can be read
abbrev pub input_stop : InputFault → Stop
input_stop fault = stops.input_stop (audit_stopped audit.TooLong) fault

-- the stop where a line, of this number, is faulty: by that, or by a fault of the whole in its
-- place
pub data IsRefused (number : ℕ) (fault : AuditLineFault) (read : ℕ) (left : Option (List ℕ)) (stop : Stop)
    : Type 0 where
  faulty : stop ≡ audit_stopped (audit.Line number fault) → IsAtEnd left → read ≤ MOST_AUDIT_BYTES →
      IsRefused number fault read left stop
  cut : (why : InputFault) → stop ≡ input_stop why → IsCut read MOST_AUDIT_BYTES why →
      IsRefused number fault read left stop

-- a stop of an audit that is read
abbrev pub IsInputStop : Stop → Type 0
IsInputStop (audit_stopped fault) = Unit {0}
IsInputStop Read = Unit {0}
IsInputStop NoMemory = Unit {0}
IsInputStop _ = ⊥
