-- why a command that judges a history stops, and what is said of it
use Rattle.std.specs.Prelude.{◌≡◌, ℕ, List, ◌++◌, codes}
use Rattle.fy_lines.specs.Lines.{lines_of}
use Rattle.fy_streams.specs.Stops.{numbered, stop_text, stop_status}
use Rattle.fy_streams.specs.declared.stop.Stop.{Stop}
use Rattle.fy_streams.specs.declared.stop.Stop.TheVariants as stop
use Rattle.fy_history.specs.Histories.{FirstFaulty}
use Rattle.fy_history.specs.declared.fault.HistoryFault.{HistoryFault}
use Rattle.fy_history.specs.declared.fault.HistoryFault.TheVariants as fault
use Rattle.fy_history.specs.declared.fault.HistoryStop.{HistoryStop}
use Rattle.fy_history.specs.declared.fault.HistoryStop.TheVariants as history
use Rattle.fy_history.specs.declared.progress.Known.{Known}
use Rattle.fy_histories.specs.declared.stop.HistoriesStop.{HistoriesStop}
use Rattle.fy_histories.specs.declared.stop.HistoriesStop.TheVariants.{Line, Other}

-- the stop for a history that isn't read
abbrev pub history_stop : HistoryStop → HistoriesStop
history_stop (history.Line number why) = Line number why
history_stop history.Reader = Other stop.Read
history_stop history.NoMemory = Other stop.NoMemory

-- the status of a stop: 1 for a refused history, and else that of other commands
abbrev pub histories_status : HistoriesStop → ℕ
histories_status (Line number why) = 1
histories_status (Other other) = stop_status other

-- the end of the fault line for a fault
abbrev pub fault_ending : HistoryFault → List ℕ
fault_ending fault.TooLong = codes ": TooLong\n"
fault_ending fault.Syntax = codes ": Syntax\n"
fault_ending fault.Index = codes ": Index\n"
fault_ending fault.Time = codes ": Time\n"
fault_ending fault.Client = codes ": Client\n"
fault_ending fault.Value = codes ": Value\n"
fault_ending fault.Entry = codes ": Entry\n"
fault_ending fault.Order = codes ": Order\n"
fault_ending fault.Node = codes ": Node\n"

-- the fault line of a stop
abbrev pub histories_text : HistoriesStop → List ℕ
histories_text (Line number why) = numbered (codes "history: line ") number (fault_ending why)
histories_text (Other other) = stop_text other

-- where a stop names a line, that line is the first faulty one of the bytes
abbrev pub TellsHistory : Known → List ℕ → HistoriesStop → Type 0
TellsHistory known bytes (Line number why) = FirstFaulty known (lines_of bytes) number why
TellsHistory known bytes (Other other) = Unit {0}

-- a stop of a history that is read and judged
abbrev pub IsHistoryStop : HistoriesStop → Type 0
IsHistoryStop (Line number why) = Unit {0}
IsHistoryStop (Other stop.Read) = Unit {0}
IsHistoryStop (Other stop.Write) = Unit {0}
IsHistoryStop (Other stop.NoMemory) = Unit {0}
IsHistoryStop (Other _) = ⊥
