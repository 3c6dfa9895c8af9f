-- the numbers that calls answer
use Rattle.std.specs.Prelude.{◌≡◌, ℕ, Result, Ok, Err}
use Rattle.fy_spelling.specs.declared.command.LineFault.{LineFault}
use Rattle.fy_spelling.specs.declared.command.LineFault.TheVariants as line
use Rattle.fy_spelling.specs.declared.command.CommandFault.{CommandFault}
use Rattle.fy_spelling.specs.declared.command.CommandFault.TheVariants as reading
use Rattle.fy_answers.specs.declared.fault.AnswerFault.{AnswerFault}
use Rattle.fy_answers.specs.declared.fault.AnswerFault.TheVariants as answer
use Rattle.fy_cluster.specs.declared.fault.Fault.{Fault}
use Rattle.fy_cluster.specs.declared.fault.Fault.TheVariants as cluster
use Rattle.fy_config.specs.declared.fault.ConfigFault.{ConfigFault}
use Rattle.fy_config.specs.declared.fault.ConfigFault.TheVariants as config
use Rattle.fy_c.specs.declared.status.Status.{Status}
use Rattle.fy_c.specs.declared.status.Status.TheVariants.{Done, NoMemory, JournalFull, Refused, Short, Unwritten, NoEntry, Argument, Name, Floor, LineTooLong, LineSyntax, ConfigTooLong, ConfigToml, ConfigField, ConfigLimit, ConfigName, ConfigPolicy, ConfigUnmet, NoHeader, AuditTooLong, Refuted}

-- the number by which C knows a status
abbrev pub number : Status → ℕ
number Done = 0
number NoMemory = 1
number JournalFull = 2
number Refused = 3
number Short = 4
number Unwritten = 5
number NoEntry = 6
number Argument = 7
number Name = 8
number Floor = 9
number LineTooLong = 10
number LineSyntax = 11
number ConfigTooLong = 12
number ConfigToml = 13
number ConfigField = 14
number ConfigLimit = 15
number ConfigName = 16
number ConfigPolicy = 17
number ConfigUnmet = 18
number NoHeader = 20
number AuditTooLong = 21
number Refuted = 22

-- how a call ended: `Done`, or the status of its error
abbrev pub ending : {A : Type 0} → Result A Status → Status
ending (Ok _) = Done
ending (Err status) = status

-- the number is that of a status of which this holds
abbrev pub Answers : ℕ → (Status → Type 0) → Type 0
Answers n Holds = (status : Status) × (n ≡ number status) × Holds status

-- the status for a cluster file that is refused
abbrev pub config_status : ConfigFault → Status
config_status config.TooLong = ConfigTooLong
config_status config.Toml = ConfigToml
config_status (config.Field part) = ConfigField
config_status (config.Limit part) = ConfigLimit
config_status (config.Name part index) = ConfigName
config_status (config.Policy index) = ConfigPolicy
config_status (config.PolicyUnmet index) = ConfigUnmet
config_status config.NoMemory = NoMemory

-- the status for a line that is no command
abbrev pub line_status : LineFault → Status
line_status line.TooLong = LineTooLong
line_status line.Syntax = LineSyntax
line_status line.Floor = Floor

-- the status for a line from which nothing could be read
abbrev pub reading_status : CommandFault → Status
reading_status (reading.Line fault) = line_status fault
reading_status reading.NoMemory = NoMemory

-- the status for a line that has no answer
abbrev pub answer_status : AnswerFault → Status
answer_status (answer.Line fault) = line_status fault
answer_status answer.JournalFull = JournalFull
answer_status answer.NoMemory = NoMemory
answer_status answer.Unwritten = Unwritten

-- the status for an act that isn't entered
abbrev pub entering_status : Fault → Status
entering_status cluster.JournalFull = JournalFull
entering_status cluster.NoMemory = NoMemory
