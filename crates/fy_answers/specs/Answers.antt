-- what a cluster answers to a line of a script
use Rattle.std.specs.Prelude.{◌≡◌, ◌<◌, ◌≤◌, ℕ, List, [], ◌∷◌, ◌++◌, length, Ok, Err}
use Rattle.fy_acts.specs.declared.act.Act.{Act}
use Rattle.fy_spelling.specs.Command.{LineOf}
use Rattle.fy_spelling.specs.declared.command.Command.{Command}
use Rattle.fy_spelling.specs.declared.command.TheConstants.{MOST_LINE_BYTES}
use Rattle.fy_spelling.specs.declared.command.CommandFault.{CommandFault}
use Rattle.fy_spelling.specs.declared.command.CommandFault.TheVariants as reading
use Rattle.fy_spelling.specs.declared.command.LineFault.{LineFault}
use Rattle.fy_lines.specs.Lines.{IsLine}
use Rattle.fy_asking.specs.Asks.{AskOf}
use Rattle.fy_asking.specs.Requests.{RequestOf}
use Rattle.fy_asking.specs.ToldTexts.{IsToldLine}
use Rattle.fy_questions.specs.Told.{IsTold}
use Rattle.fy_questions.specs.declared.question.Question.{Question}
use Rattle.fy_questions.specs.declared.told.Told.{Told}
use Rattle.fy_audit.specs.AuditText.{entry_line}
use Rattle.fy_cluster.specs.Execution.{Execution, next_entry, entered}
use Rattle.fy_cluster.specs.Survival.{Survives}
use Rattle.fy_cluster.specs.declared.fault.Fault.{Fault}
use Rattle.fy_cluster.specs.declared.fault.Fault.TheVariants as cluster
use Rattle.fy_answers.specs.declared.fault.AnswerFault.{AnswerFault}
use Rattle.fy_answers.specs.declared.fault.AnswerFault.TheVariants.{Line, JournalFull, NoMemory, Unwritten}

-- the fault of a line of which no command is read
abbrev pub reading_fault : CommandFault → AnswerFault
reading_fault (reading.Line fault) = Line fault
reading_fault reading.NoMemory = NoMemory

-- the fault of an act that isn't entered
abbrev pub entering_fault : Fault → AnswerFault
entering_fault cluster.JournalFull = JournalFull
entering_fault cluster.NoMemory = NoMemory

-- the journal has fewer entries than it may have
abbrev pub HasRoom : Execution → Type 0
HasRoom execution = length execution.journal < execution.setup.limit

-- the act is entered where there is room for it, and no acknowledged record is lost
pub record IsMade (old new : Execution) (by : ℕ) (act : Act) : Type 0 where
  pub room : HasRoom old
  pub entered : new ≡ entered old by act
  pub survives : Survives new.setup new.journal

-- the line of the entry that an act makes next
abbrev pub made_line : Execution → ℕ → Act → List ℕ
made_line execution by act = entry_line (next_entry execution by act)

-- an act is made, and the text is its entry's line
pub record HasEntered (old new : Execution) (by : ℕ) (act : Act) (text : List ℕ) : Type 0 where
  pub made : IsMade old new by act
  pub text_is : text ≡ made_line old by act

-- an act isn't made, since the journal is full, or it has room and an allocation failed; or the act
-- is made, and its entry's line couldn't be had, which is longer than the room for it
pub data HasNoEntry (old new : Execution) (by : ℕ) (act : Act) (room : ℕ) : AnswerFault → Type 0
  where
    full : old.setup.limit ≤ length old.journal → new ≡ old →
        HasNoEntry old new by act room JournalFull
    no_memory : HasRoom old → new ≡ old → HasNoEntry old new by act room NoMemory
    unwritten : IsMade old new by act → room < length (made_line old by act) →
        HasNoEntry old new by act room Unwritten

-- a line is answered by a text: it is a command, whose act is made, and the text is its entry's
-- line
pub record IsAnswered (old new : Execution) (line text : List ℕ) : Type 0 where
  pub command : Command
  pub asked : LineOf line (Ok command)
  pub entered : HasEntered old new command.by command.act text

-- a line has no answer: it is no command, an allocation failed as it was read, which isn't too
-- long, or its command has no entry or no line for that
pub data HasNoAnswer (old new : Execution) (line : List ℕ) (room : ℕ) : AnswerFault → Type 0 where
  faulty : (fault : LineFault) → LineOf line (Err fault) → new ≡ old →
      HasNoAnswer old new line room (Line fault)
  unread : length line ≤ MOST_LINE_BYTES → new ≡ old → HasNoAnswer old new line room NoMemory
  no_entry : (command : Command) → LineOf line (Ok command) → (fault : AnswerFault) →
      HasNoEntry old new command.by command.act room fault →
      HasNoAnswer old new line room fault

-- ---- lines that may be questions

-- the text is one line with its line feed
abbrev pub EndsLine : List ℕ → Type 0
EndsLine text = (line : List ℕ) × IsLine line × (text ≡ line ++ 10 ∷ [])

-- a line is a question, which changes nothing, and is answered by the line of what is told
pub record IsAnsweredAsk (old new : Execution) (line text : List ℕ) : Type 0 where
  pub question : Question
  pub asked : AskOf line (Ok question)
  pub told : Told
  pub is_told : IsTold old question told
  pub told_line : List ℕ
  pub spelled : IsToldLine old.setup told told_line
  pub text_is : text ≡ told_line ++ 10 ∷ []
  pub same : new ≡ old

-- a line is answered by a text: as an act, or as a question
pub data IsHandled (old new : Execution) (line text : List ℕ) : Type 0 where
  acted : IsAnswered old new line text → IsHandled old new line text
  asked : IsAnsweredAsk old new line text → IsHandled old new line text

-- a line has no answer: it is neither a command nor a question, an allocation failed before
-- anything changed, or its command has no entry or no line for that
pub data IsUnhandled (old new : Execution) (line : List ℕ) (room : ℕ) : AnswerFault → Type 0 where
  faulty : (fault : LineFault) → RequestOf line (Err fault) → new ≡ old →
      IsUnhandled old new line room (Line fault)
  no_memory : length line ≤ MOST_LINE_BYTES → new ≡ old → IsUnhandled old new line room NoMemory
  no_entry : (command : Command) → LineOf line (Ok command) → (fault : AnswerFault) →
      HasNoEntry old new command.by command.act room fault →
      IsUnhandled old new line room fault
