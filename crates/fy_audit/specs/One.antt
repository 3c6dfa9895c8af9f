-- bytes that are of one thing each
use Rattle.std.specs.Prelude.{◌≡◌, ℕ, List, Result}
use Rattle.std.specs.List.{AllByRecursion}
use Rattle.fy_spelling.specs.Representable.{IsRepresentable}
use Rattle.fy_spelling.specs.declared.command.Command.{Command}
use Rattle.fy_acts.specs.declared.entry.Entry.{Entry}
use Rattle.fy_audit.specs.Audit.{Audit, AuditOf}
use Rattle.fy_audit.specs.AuditText.{audit_text}
use Rattle.fy_audit.specs.Script.{ScriptOf}
use Rattle.fy_audit.specs.declared.audit.AuditFault.{AuditFault}
use Rattle.fy_audit.specs.declared.script.ScriptFault.{ScriptFault}
use Rattle.fy_acts.specs.declared.version.Version.{Version}

-- bytes are one script, or have one first fault
abbrev pub ScriptIsUnambiguous : Type 0
ScriptIsUnambiguous =
    (bytes : List ℕ) (x y : Result (List Command) ScriptFault) → ScriptOf bytes x →
    ScriptOf bytes y → x ≡ y

-- bytes are one audit, or have one first fault
abbrev pub AuditIsUnambiguous : Type 0
AuditIsUnambiguous =
    (bytes : List ℕ) (x y : Result Audit AuditFault) → AuditOf bytes x → AuditOf bytes y → x ≡ y

-- two journals with one text are of one version and have the same entries, whatever entries a
-- program can hold
abbrev pub AuditTextIsInjective : Type 0
AuditTextIsInjective =
    (v w : Version) (xs ys : List Entry) → AllByRecursion IsRepresentable xs →
    AllByRecursion IsRepresentable ys → audit_text v xs ≡ audit_text w ys → (v ≡ w) × (xs ≡ ys)
