-- what bytes are as a history: lines that are all taken, or the first that is faulty
use Rattle.std.specs.Prelude.{◌≡◌, ◌≤◌, ◌<◌, ◌+◌, ℕ, List, [], ◌∷◌, ◌++◌, length, Result, Ok, Err, Option, IfSome, ◌⊎◌}
use Rattle.std.specs.Option.{option_map_or}
use Rattle.json.specs.Json.{Json}
use Rattle.fy_events.specs.Events.{IsJson}
use Rattle.fy_lines.specs.Lines.{lines_of}
use Rattle.fy_lines.specs.Readings.{HasLongLine}
use Rattle.fy_lines.specs.declared.input.InputFault.{InputFault}
use Rattle.fy_lines.specs.declared.input.InputFault.TheVariants as input
use Rattle.fy_history.specs.Lines.{line_of}
use Rattle.fy_history.specs.Progress.{State, at_first, take, IsHistoryOf}
use Rattle.fy_history.specs.declared.TheConstants.{MOST_HISTORY_LINES, MOST_HISTORY_LINE_BYTES}
use Rattle.fy_history.specs.declared.fault.HistoryFault.{HistoryFault}
use Rattle.fy_history.specs.declared.fault.HistoryFault.TheVariants.{TooLong, Syntax}
use Rattle.fy_history.specs.declared.fault.HistoryStop.{HistoryStop}
use Rattle.fy_history.specs.declared.fault.HistoryStop.TheVariants.{Line, Reader, NoMemory}
use Rattle.fy_history.specs.declared.fault.NotTaken.{NotTaken}
use Rattle.fy_history.specs.declared.fault.NotTaken.TheVariants as taken
use Rattle.fy_history.specs.declared.history.History.{History}
use Rattle.fy_history.specs.declared.progress.Known.{Known}

-- what a value comes to behind the lines so far
abbrev pub told : Known → State → Json → Result State HistoryFault
told known s value = option_map_or (take known s) (line_of value) (Err Syntax)

-- what a line comes to behind the lines so far, if it isn't too long
pub data LineOf (known : Known) (s : State) (line : List ℕ) : Result State HistoryFault → Type 0
  where
    json : (value : Json) → IsJson line value → LineOf known s line (told known s value)
    no_json : ((value : Json) → IsJson line value → ⊥) → LineOf known s line (Err Syntax)

-- the lines are all taken, and say this
pub data AreLines (known : Known) : List (List ℕ) → State → Type 0 where
  none : AreLines known [] at_first
  one_more : (lines : List (List ℕ)) (s now : State) (line : List ℕ) → AreLines known lines s
      → length line ≤ MOST_HISTORY_LINE_BYTES → length lines < MOST_HISTORY_LINES
      → LineOf known s line (Ok now) → AreLines known (lines ++ line ∷ []) now

-- a line is too long, or there are too many before it
abbrev pub IsTooLong : (before : List (List ℕ)) → (line : List ℕ) → Type 0
IsTooLong before line =
    (MOST_HISTORY_LINE_BYTES < length line) ⊎ (MOST_HISTORY_LINES ≤ length before)

-- a line behind others is faulty, by this fault
pub data IsFaulty (known : Known) (before : List (List ℕ)) (s : State) (line : List ℕ)
    : HistoryFault → Type 0 where
  too_long : IsTooLong before line → IsFaulty known before s line TooLong
  other : (fault : HistoryFault) → length line ≤ MOST_HISTORY_LINE_BYTES
      → length before < MOST_HISTORY_LINES → LineOf known s line (Err fault)
      → IsFaulty known before s line fault

-- a line, counted from 1, is the first that is faulty, by this fault
pub record FirstFaulty (known : Known) (lines : List (List ℕ)) (number : ℕ) (fault : HistoryFault)
    : Type 0 where
  pub before : List (List ℕ)
  pub s : State
  pub line : List ℕ
  pub after : List (List ℕ)
  pub split : lines ≡ before ++ line ∷ after
  pub faultless : AreLines known before s
  pub place : number ≡ length before + 1
  pub here : IsFaulty known before s line fault

-- HISTORY: the bytes are a history, and this is what it says
pub record IsRead (known : Known) (bytes : List ℕ) (history : History) : Type 0 where
  pub s : State
  pub lines : AreLines known (lines_of bytes) s
  pub says : IsHistoryOf s history

-- where a stop names a line, that line is the first faulty one of the bytes
abbrev pub TellsLine : Known → List ℕ → HistoryStop → Type 0
TellsLine known bytes (Line number fault) = FirstFaulty known (lines_of bytes) number fault
TellsLine known bytes Reader = Unit {0}
TellsLine known bytes NoMemory = Unit {0}

-- a fact for the fault of a line that isn't taken; none where an allocation failed
abbrev pub IfFaulty : NotTaken → (HistoryFault → Type 0) → Type 0
IfFaulty (taken.Faulty fault) P = P fault
IfFaulty taken.NoMemory P = Unit {0}

-- the stop where a line of this number isn't read
abbrev pub unread : (number : ℕ) → InputFault → HistoryStop
unread number input.TooLong = Line number TooLong
unread number input.Reader = Reader
unread number input.NoMemory = NoMemory

-- the stop where a line of this number isn't taken
abbrev pub untaken : (number : ℕ) → NotTaken → HistoryStop
untaken number (taken.Faulty fault) = Line number fault
untaken number taken.NoMemory = NoMemory

-- why no line of this number is read: where the stop names it, it is too long
abbrev pub NoLine : Option (List ℕ) → (number : ℕ) → HistoryStop → Type 0
NoLine known number (Line n fault) =
    (n ≡ number) × (fault ≡ TooLong) × HasLongLine known MOST_HISTORY_LINE_BYTES
NoLine known number Reader = Unit {0}
NoLine known number NoMemory = Unit {0}

-- why the next line isn't taken: where the stop names it, it is one too many, or faulty
abbrev pub IsRefused : Known → State → (line : List ℕ) → HistoryStop → Type 0
IsRefused known s line (Line number fault) =
    (number ≡ s.lines + 1)
    × (((fault ≡ TooLong) × (s.lines ≡ MOST_HISTORY_LINES))
    ⊎ ((s.lines < MOST_HISTORY_LINES) × LineOf known s line (Err fault)))
IsRefused known s line Reader = ⊥
IsRefused known s line NoMemory = Unit {0}
