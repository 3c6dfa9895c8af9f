-- what a script comes to under a configuration
use Rattle.std.specs.Prelude.{◌≡◌, ◌<◌, ℕ, List, [], ◌∷◌, map, length, Option, IfSome, Result, Ok, Err}
use Rattle.std.specs.List.{flat_map}
use Rattle.fy_acts.specs.declared.act.Act.{Act}
use Rattle.fy_spelling.specs.declared.command.Command.{Command}
use Rattle.fy_acts.specs.declared.entry.Entry.{Entry}
use Rattle.fy_audit.specs.AuditText.{entry_line, audit_text}
use Rattle.fy_audit.specs.Script.{ScriptOf}
use Rattle.fy_acts.specs.declared.version.Version.TheVariants.{Second}
use Rattle.fy_audit.specs.declared.script.ScriptFault.{ScriptFault}
use Rattle.fy_cluster.specs.Setup.{Setup}
use Rattle.fy_cluster.specs.Replies.{Legal}
use Rattle.fy_cluster.specs.Execution.{Execution, next_entry, entered}
use Rattle.fy_cluster.specs.Survival.{by_and_act}
use Rattle.fy_streams.specs.declared.stop.Stop.{Stop}
use Rattle.fy_streams.specs.declared.stop.Stop.TheVariants.{Script, JournalFull}

-- who asks for what
abbrev pub asked : Command → ℕ × Act
asked command = (command.by, command.act)

-- the entries that these acts make, one after another
abbrev pub made_by : Execution → List (ℕ × Act) → List Entry
made_by execution [] = []
made_by execution (asked ∷ rest) =
    next_entry execution asked.0 asked.1 ∷ made_by (entered execution asked.0 asked.1) rest

-- the lines of these entries
abbrev pub lines_of_entries : List Entry → List ℕ
lines_of_entries entries = flat_map entry_line entries

-- the text is the audit of the legal journal whose acts are those of the commands
pub record IsAuditOf (setup : Setup) (commands : List Command) (text : List ℕ) : Type 0 where
  pub journal : List Entry
  pub legal : Legal setup journal
  pub acts : map by_and_act journal ≡ map asked commands
  pub written : text ≡ audit_text Second journal

-- RUN: the audit that a script comes to, or why it is refused; nothing is said of other stops
pub data Runs (setup : Setup) (bytes : List ℕ) : Result (List ℕ) Stop → Type 0 where
  refused : (fault : ScriptFault) → ScriptOf bytes (Err fault) → Runs setup bytes (Err (Script fault))
  journal_full : (commands : List Command) → ScriptOf bytes (Ok commands) →
      setup.limit < length commands → Runs setup bytes (Err JournalFull)
  ran : (commands : List Command) (text : List ℕ) → ScriptOf bytes (Ok commands) →
      IsAuditOf setup commands text → Runs setup bytes (Ok text)

-- a fact for the fault of a script; none for other stops
abbrev pub IfScriptFault : Stop → (ScriptFault → Type 0) → Type 0
IfScriptFault (Script fault) P = P fault
IfScriptFault _ P = Unit {0}

-- a fact for a stop that refuses a script; none for other stops
abbrev pub IfRunRefusal : Stop → Type 0 → Type 0
IfRunRefusal (Script fault) P = P
IfRunRefusal JournalFull P = P
IfRunRefusal _ P = Unit {0}

-- known bytes of a script that isn't refused, and what holds of its audit
abbrev pub HasAudit : Setup → Option (List ℕ) → (List ℕ → Type 0) → Type 0
HasAudit setup known P =
    IfSome known (λ bytes. (text : List ℕ) × Runs setup bytes (Ok text) × P text)
