-- what a script is: a command for each line, or the first fault
use Rattle.std.specs.Prelude.{◌≡◌, ◌<◌, ◌≤◌, ◌+◌, ℕ, List, [], ◌∷◌, ◌++◌, length, Result, Ok, Err, ⊤}
use Rattle.fy_lines.specs.Lines.{lines_of}
use Rattle.fy_spelling.specs.Command.{LineOf}
use Rattle.fy_spelling.specs.declared.command.Command.{Command}
use Rattle.fy_spelling.specs.declared.command.LineFault.{LineFault}
use Rattle.fy_audit.specs.declared.script.TheConstants.{MOST_SCRIPT_BYTES}
use Rattle.fy_audit.specs.declared.script.ScriptFault.{ScriptFault}
use Rattle.fy_audit.specs.declared.script.ScriptFault.TheVariants.{TooLong, Line, NoMemory}

-- each line is its command
abbrev pub AreCommands : List (List ℕ) → List Command → Type 0
AreCommands [] [] = ⊤
AreCommands [] (command ∷ commands) = ⊥
AreCommands (line ∷ lines) [] = ⊥
AreCommands (line ∷ lines) (command ∷ commands) =
    LineOf line (Ok command) × AreCommands lines commands

-- a line, counted from 1, is the first that is no command, by this fault
pub record FirstFaulty (lines : List (List ℕ)) (number : ℕ) (fault : LineFault) : Type 0 where
  pub before : List (List ℕ)
  pub commands : List Command
  pub line : List ℕ
  pub after : List (List ℕ)
  pub split : lines ≡ before ++ line ∷ after
  pub faultless : AreCommands before commands
  pub place : number ≡ length before + 1
  pub here : LineOf line (Err fault)

-- what the bytes of a script are: its commands, or its first fault
abbrev pub ScriptOf : List ℕ → Result (List Command) ScriptFault → Type 0
ScriptOf bytes (Ok commands) =
    (length bytes ≤ MOST_SCRIPT_BYTES) × AreCommands (lines_of bytes) commands
ScriptOf bytes (Err TooLong) = MOST_SCRIPT_BYTES < length bytes
ScriptOf bytes (Err (Line number fault)) =
    (length bytes ≤ MOST_SCRIPT_BYTES) × FirstFaulty (lines_of bytes) number fault
ScriptOf bytes (Err NoMemory) = ⊥

-- what a reader may answer: what the bytes are, or that an allocation failed, which takes the place
-- of any answer but TooLong
abbrev pub ScriptAnswers : List ℕ → Result (List Command) ScriptFault → Type 0
ScriptAnswers bytes (Err NoMemory) = length bytes ≤ MOST_SCRIPT_BYTES
ScriptAnswers bytes answer = ScriptOf bytes answer
