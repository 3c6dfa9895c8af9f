-- what a guard answers to the lines of a script that is still being written
use Rattle.std.specs.Prelude.{◌≡◌, ◌≤◌, ◌+◌, ◌-◌, ℕ, List, ◌∷◌, ◌++◌, length, map, Option, Some, IfSome, Ok, Err}
use Rattle.std.specs.Io.KnownBytes.{Appends}
use Rattle.fy_lines.specs.Lines.{lines_of}
use Rattle.fy_lines.specs.Readings.{HasLongLine, ReadsWithinLine, ReadsInsideLine}
use Rattle.fy_acts.specs.declared.entry.Entry.{Entry}
use Rattle.fy_spelling.specs.Command.{LineOf}
use Rattle.fy_spelling.specs.declared.command.Command.{Command}
use Rattle.fy_spelling.specs.declared.command.LineFault.{LineFault}
use Rattle.fy_spelling.specs.declared.command.LineFault.TheVariants.{TooLong}
use Rattle.fy_spelling.specs.declared.command.TheConstants.{MOST_LINE_BYTES}
use Rattle.fy_audit.specs.Script.{AreCommands}
use Rattle.fy_audit.specs.declared.script.ScriptFault.TheVariants.{Line}
use Rattle.fy_cluster.specs.Setup.{Setup}
use Rattle.fy_cluster.specs.Replies.{Legal}
use Rattle.fy_cluster.specs.Execution.{Execution}
use Rattle.fy_cluster.specs.Survival.{by_and_act}
use Rattle.fy_answers.specs.declared.fault.AnswerFault.{AnswerFault}
use Rattle.fy_answers.specs.declared.fault.AnswerFault.TheVariants as answer
use Rattle.fy_run.specs.RunTexts.{asked, lines_of_entries, IsAuditOf}
use Rattle.fy_streams.specs.declared.stop.Stop.{Stop}
use Rattle.fy_streams.specs.declared.stop.Stop.TheVariants.{Script, JournalFull, Read, NoMemory}

-- each line is a command, and the text is the audit of the legal journal of their acts
pub record Answered (setup : Setup) (lines : List (List ℕ)) (text : List ℕ) : Type 0 where
  pub commands : List Command
  pub each : AreCommands lines commands
  pub audit : IsAuditOf setup commands text

-- each line is a command, and the text are the lines of the entries of their acts, which make a
-- legal journal behind those of a cluster
pub record AnsweredFrom (from : Execution) (lines : List (List ℕ)) (text : List ℕ) : Type 0 where
  pub commands : List Command
  pub each : AreCommands lines commands
  pub made : List Entry
  pub legal : Legal from.setup (from.journal ++ made)
  pub acts : map by_and_act made ≡ map asked commands
  pub written : text ≡ lines_of_entries made

-- how many entries more the journal of a cluster may have
abbrev pub room_in : Execution → ℕ
room_in from = from.setup.limit - length from.journal

-- why the line behind so many answered ones has no answer: it is no command, or the journal, which
-- had room for so many entries more, is full
pub data StopsAtLine (room answered : ℕ) (line : List ℕ) : Stop → Type 0 where
  faulty : (fault : LineFault) → LineOf line (Err fault) →
      StopsAtLine room answered line (Script (Line (answered + 1) fault))
  full : (command : Command) → LineOf line (Ok command) → room ≤ answered →
      StopsAtLine room answered line JournalFull

-- what is said of lines and the text that answers them
abbrev pub Answering : Type 1
Answering = List (List ℕ) → List ℕ → Type 0

-- all lines of the known bytes are answered, by a text of which this holds
abbrev pub AllAnswered : Answering → Option (List ℕ) → (List ℕ → Type 0) → Type 0
AllAnswered Answers known P =
    IfSome known (λ bytes. (text : List ℕ) × Answers (lines_of bytes) text × P text)

-- what is said of answered lines, their text, the next line and why that stops it
abbrev pub Ending : Type 1
Ending = List (List ℕ) → List ℕ → List ℕ → Stop → Type 0

-- the lines before one that has no answer are answered, by a text of which this holds
pub record AreBefore (Ends : Ending) (bytes : List ℕ) (stop : Stop) (P : List ℕ → Type 0) : Type 0
  where
    pub front : List (List ℕ)
    pub line : List ℕ
    pub more : List (List ℕ)
    pub text : List ℕ
    pub lines : lines_of bytes ≡ front ++ line ∷ more
    pub ends : Ends front text line stop
    pub out : P text

-- the lines of the known bytes before the one that has no answer are answered
abbrev pub AnsweredBefore : Ending → Option (List ℕ) → Stop → (List ℕ → Type 0) → Type 0
AnsweredBefore Ends known stop P = IfSome known (λ bytes. AreBefore Ends bytes stop P)

-- some first lines are answered, by a text of which this holds
pub record AreFirst (Answers : Answering) (bytes : List ℕ) (P : List ℕ → Type 0) : Type 0 where
  pub front : List (List ℕ)
  pub more : List (List ℕ)
  pub text : List ℕ
  pub lines : lines_of bytes ≡ front ++ more
  pub answered : Answers front text
  pub out : P text

-- some first lines of the known bytes are answered
abbrev pub FirstAnswered : Answering → Option (List ℕ) → (List ℕ → Type 0) → Type 0
FirstAnswered Answers known P = IfSome known (λ bytes. AreFirst Answers bytes P)

-- some first lines were read and are answered, by a text of which this holds; and the rest was read
-- so far
pub record AreInTurn (Answers : Answering) (Reads : Option (List ℕ) → Option (List ℕ) → Type 0)
    (bytes : List ℕ) (left : Option (List ℕ)) (P : List ℕ → Type 0) : Type 0 where
  pub front : List (List ℕ)
  pub rest : List ℕ
  pub text : List ℕ
  pub lines : lines_of bytes ≡ front ++ lines_of rest
  pub within : Reads (Some rest) left
  pub answered : Answers front text
  pub out : P text

-- of the known bytes so many were read that the lines before the last one are answered; of that one
-- no byte behind its feed was read
abbrev pub AnsweredInTurn : Answering → Option (List ℕ) → Option (List ℕ) → (List ℕ → Type 0)
    → Type 0
AnsweredInTurn Answers old new P =
    IfSome old (λ bytes. AreInTurn Answers ReadsWithinLine bytes new P)

-- so many were read, and of the last line not its feed, nor more bytes than a line may have
abbrev pub AnsweredBeforeCut : Answering → Option (List ℕ) → Option (List ℕ) → (List ℕ → Type 0)
    → Type 0
AnsweredBeforeCut Answers old new P = IfSome old (λ bytes.
    AreInTurn Answers (λ rest left. ReadsInsideLine rest left MOST_LINE_BYTES) bytes new P)

-- nothing was read
abbrev pub ReadNothing : Option (List ℕ) → Option (List ℕ) → Type 0
ReadNothing old new = new ≡ old

-- the text went out whole, and maybe more behind it
abbrev pub AppendsAtLeast : Option (List ℕ) → Option (List ℕ) → List ℕ → Type 0
AppendsAtLeast old new text = (more : List ℕ) × Appends old new (text ++ more)

-- ---- a line at a time

-- why a guard stops at a line, which has this number, that has no answer
abbrev pub answer_stop : ℕ → AnswerFault → Stop
answer_stop number (answer.Line fault) = Script (Line number fault)
answer_stop number answer.JournalFull = JournalFull
answer_stop number answer.NoMemory = NoMemory
answer_stop number answer.Unwritten = NoMemory

-- the next line, which has this number, is too long, or couldn't be had
pub data NoLine (known : Option (List ℕ)) (number : ℕ) (stop : Stop) : Type 0 where
  too_long : stop ≡ Script (Line number TooLong) → HasLongLine known MOST_LINE_BYTES →
      NoLine known number stop
  read : stop ≡ Read → NoLine known number stop
  no_memory : stop ≡ NoMemory → NoLine known number stop
