-- The fault lines and the exit statuses of a command that stops.
use Rattle.std.specs.Prelude.{◌≡◌, ◌<◌, ℕ, List, ◌++◌, length, codes, decimal, Option, IfSome}
use Rattle.fy_lines.specs.Readings.{ReadsAtMost}
use Rattle.fy_lines.specs.declared.input.InputFault.{InputFault}
use Rattle.fy_lines.specs.declared.input.InputFault.TheVariants as input
use Rattle.fy_spelling.specs.declared.command.LineFault.{LineFault}
use Rattle.fy_spelling.specs.declared.command.LineFault.TheVariants as line
use Rattle.fy_audit.specs.declared.script.ScriptFault.{ScriptFault}
use Rattle.fy_audit.specs.declared.script.ScriptFault.TheVariants as script
use Rattle.fy_audit.specs.declared.audit.AuditLineFault.{AuditLineFault}
use Rattle.fy_audit.specs.declared.audit.AuditLineFault.TheVariants as audit_line
use Rattle.fy_audit.specs.declared.audit.AuditFault.{AuditFault}
use Rattle.fy_audit.specs.declared.audit.AuditFault.TheVariants as audit
use Rattle.fy_events.specs.declared.event.EventFault.{EventFault}
use Rattle.fy_events.specs.declared.event.EventFault.TheVariants as event
use Rattle.fy_events.specs.declared.events.EventsFault.{EventsFault}
use Rattle.fy_events.specs.declared.events.EventsFault.TheVariants as events
use Rattle.fy_config.specs.declared.fault.Part.{Part}
use Rattle.fy_config.specs.declared.fault.Part.TheVariants as part
use Rattle.fy_config.specs.declared.fault.ConfigFault.{ConfigFault}
use Rattle.fy_config.specs.declared.fault.ConfigFault.TheVariants as config
use Rattle.fy_judge.specs.declared.stop.JudgeFault.{JudgeFault}
use Rattle.fy_judge.specs.declared.stop.JudgeFault.TheVariants.{Syntax, Policy, Twice, TooMany, Unknown, PolicyUnmet}
use Rattle.fy_judge.specs.declared.stop.JudgeStop.{JudgeStop}
use Rattle.fy_judge.specs.declared.stop.JudgeStop.TheVariants as judge
use Rattle.fy_cluster.specs.declared.fault.Fault.{Fault}
use Rattle.fy_cluster.specs.declared.fault.Fault.TheVariants as cluster
use Rattle.fy_streams.specs.declared.stop.Stop.{Stop}
use Rattle.fy_streams.specs.declared.stop.Stop.TheVariants.{JudgeTooLong, JudgeLine, Config, Script, JournalFull, Audit, Events, SwarmClose, Read, Write, NoMemory}

-- the word for a fault of a line of judge's input
abbrev pub fault_word : JudgeFault → List ℕ
fault_word Syntax = codes "Syntax"
fault_word Policy = codes "Policy"
fault_word Twice = codes "Twice"
fault_word TooMany = codes "TooMany"
fault_word Unknown = codes "Unknown"
fault_word PolicyUnmet = codes "PolicyUnmet"

-- the word for a fault of a line of a script
abbrev pub line_word : LineFault → List ℕ
line_word line.TooLong = codes "TooLong"
line_word line.Syntax = codes "Syntax"
line_word line.Floor = codes "Floor"

-- the word for a fault of a line of an audit
abbrev pub audit_line_word : AuditLineFault → List ℕ
audit_line_word audit_line.Header = codes "Header"
audit_line_word audit_line.TooLong = codes "TooLong"
audit_line_word audit_line.Syntax = codes "Syntax"

-- the word for a fault of a line of events
abbrev pub event_word : EventFault → List ℕ
event_word event.Syntax = codes "Syntax"
event_word event.Entry = codes "Entry"
event_word event.Time = codes "Time"
event_word event.Does = codes "Does"
event_word event.Order = codes "Order"

-- the word for a part of a cluster file
abbrev pub part_word : Part → List ℕ
part_word part.JournalLimit = codes "JournalLimit"
part_word part.Policies = codes "Policies"
part_word part.Process = codes "Process"
part_word part.Actor = codes "Actor"
part_word part.Protect = codes "Protect"
part_word part.Unknown = codes "Unknown"

-- a line with a word in it
abbrev pub worded : List ℕ → List ℕ → List ℕ
worded head word = head ++ word ++ codes "\n"

-- a line with a number in it
abbrev pub numbered : List ℕ → ℕ → List ℕ → List ℕ
numbered head number ending = head ++ decimal number ++ ending

-- the line for a cluster file that is refused
abbrev pub config_text : ConfigFault → List ℕ
config_text config.TooLong = codes "config: TooLong\n"
config_text config.Toml = codes "config: Toml\n"
config_text (config.Field part) = worded (codes "config: Field ") (part_word part)
config_text (config.Limit part) = worded (codes "config: Limit ") (part_word part)
config_text (config.Name part index) =
    numbered (codes "config: Name " ++ part_word part ++ codes " ") index (codes "\n")
config_text (config.Policy index) = numbered (codes "config: Policy ") index (codes "\n")
config_text (config.PolicyUnmet index) = numbered (codes "config: PolicyUnmet ") index (codes "\n")
config_text config.NoMemory = codes "no memory\n"

-- the line for a script that is refused
abbrev pub script_text : ScriptFault → List ℕ
script_text script.TooLong = codes "script: TooLong\n"
script_text (script.Line number fault) =
    numbered (codes "script: line ") number (codes ": " ++ line_word fault ++ codes "\n")
script_text script.NoMemory = codes "no memory\n"

-- the line for an audit that is refused
abbrev pub audit_fault_text : AuditFault → List ℕ
audit_fault_text audit.TooLong = codes "audit: TooLong\n"
audit_fault_text (audit.Line number fault) =
    numbered (codes "audit: line ") number (codes ": " ++ audit_line_word fault ++ codes "\n")
audit_fault_text audit.NoMemory = codes "no memory\n"

-- the line for a file of events that is refused
abbrev pub events_fault_text : EventsFault → List ℕ
events_fault_text events.TooLong = codes "events: TooLong\n"
events_fault_text (events.Line number fault) =
    numbered (codes "events: line ") number (codes ": " ++ event_word fault ++ codes "\n")
events_fault_text events.NoMemory = codes "no memory\n"

-- the line that says why a command stops
abbrev pub stop_text : Stop → List ℕ
stop_text JudgeTooLong = codes "judge: TooLong\n"
stop_text (JudgeLine line fault) =
    numbered (codes "judge: line ") line (codes ": " ++ fault_word fault ++ codes "\n")
stop_text (Config fault) = config_text fault
stop_text (Script fault) = script_text fault
stop_text JournalFull = codes "script: JournalFull\n"
stop_text (Audit fault) = audit_fault_text fault
stop_text (Events fault) = events_fault_text fault
stop_text SwarmClose = codes "swarm: close\n"
stop_text Read = codes "read fault\n"
stop_text Write = codes "write fault\n"
stop_text NoMemory = codes "no memory\n"

-- the status: 1 refused input, or a swarm that isn't closed, 3 read or write fault, 4 an
-- allocation failure
abbrev pub stop_status : Stop → ℕ
stop_status JudgeTooLong = 1
stop_status (JudgeLine line fault) = 1
stop_status (Config config.NoMemory) = 4
stop_status (Config fault) = 1
stop_status (Script script.NoMemory) = 4
stop_status (Script fault) = 1
stop_status JournalFull = 1
stop_status (Audit audit.NoMemory) = 4
stop_status (Audit fault) = 1
stop_status (Events events.NoMemory) = 4
stop_status (Events fault) = 1
stop_status SwarmClose = 1
stop_status Read = 3
stop_status Write = 3
stop_status NoMemory = 4

-- the stop for one of judge
abbrev pub judge_stop : JudgeStop → Stop
judge_stop judge.TooLong = JudgeTooLong
judge_stop (judge.Line line fault) = JudgeLine line fault
judge_stop judge.Read = Read
judge_stop judge.Write = Write
judge_stop judge.NoMemory = NoMemory

-- the stop for an act that isn't entered
abbrev pub entering_stop : Fault → Stop
entering_stop cluster.JournalFull = JournalFull
entering_stop cluster.NoMemory = NoMemory

-- the stop for a cluster file that is refused
abbrev pub config_stop : ConfigFault → Stop
config_stop config.NoMemory = NoMemory
config_stop fault = Config fault

-- the stop for a script that is refused
abbrev pub script_stop : ScriptFault → Stop
script_stop script.NoMemory = NoMemory
script_stop fault = Script fault

-- the stop for a file of events that is refused
abbrev pub events_stop : EventsFault → Stop
events_stop events.NoMemory = NoMemory
events_stop fault = Events fault

-- the stop for an input of which not all can be read, where one stands for too many bytes
abbrev pub input_stop : Stop → InputFault → Stop
input_stop too_long input.TooLong = too_long
input_stop too_long input.Reader = Read
input_stop too_long input.NoMemory = NoMemory

-- not all bytes of a reader are had: they are more than so many, the reader failed before, or an
-- allocation did
pub data IsUnread (known left : Option (List ℕ)) (most : ℕ) (too_long stop : Stop) : Type 0 where
  long : stop ≡ too_long → IfSome known (λ bytes. most < length bytes) →
      IsUnread known left most too_long stop
  read : stop ≡ Read → ReadsAtMost known left most → IsUnread known left most too_long stop
  no_memory : stop ≡ NoMemory → IsUnread known left most too_long stop

-- a fact for the fault of a cluster file; none for other stops
abbrev pub IfConfigFault : Stop → (ConfigFault → Type 0) → Type 0
IfConfigFault (Config fault) P = P fault
IfConfigFault _ P = Unit {0}

-- a fact for the fault of an audit; none for other stops
abbrev pub IfAuditFault : Stop → (AuditFault → Type 0) → Type 0
IfAuditFault (Audit fault) P = P fault
IfAuditFault _ P = Unit {0}

-- a fact for the fault of a file of events; none for other stops
abbrev pub IfEventsFault : Stop → (EventsFault → Type 0) → Type 0
IfEventsFault (Events fault) P = P fault
IfEventsFault _ P = Unit {0}

-- a stop of run's own once its cluster file is read, or of any command
abbrev pub IsRunStop : Stop → Type 0
IsRunStop JudgeTooLong = ⊥
IsRunStop (JudgeLine line fault) = ⊥
IsRunStop (Config fault) = ⊥
IsRunStop (Audit fault) = ⊥
IsRunStop (Events fault) = ⊥
IsRunStop SwarmClose = ⊥
IsRunStop _ = Unit {0}

-- a stop of check's own once its cluster file is read, or of any command
abbrev pub IsCheckStop : Stop → Type 0
IsCheckStop (Audit fault) = Unit {0}
IsCheckStop Read = Unit {0}
IsCheckStop Write = Unit {0}
IsCheckStop NoMemory = Unit {0}
IsCheckStop _ = ⊥

-- a stop of show's own where the times of entries are given
abbrev pub IsTimesStop : Stop → Type 0
IsTimesStop (Events fault) = Unit {0}
IsTimesStop stop = IsCheckStop stop

-- a stop of a cluster file that is read
abbrev pub IsConfigStop : Stop → Type 0
IsConfigStop (Config fault) = Unit {0}
IsConfigStop Read = Unit {0}
IsConfigStop NoMemory = Unit {0}
IsConfigStop _ = ⊥
