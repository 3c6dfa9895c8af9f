-- what a guard answers that takes questions, and one that may
use Rattle.std.specs.Prelude.{◌≡◌, ◌≤◌, ◌+◌, ℕ, List, [], ◌∷◌, ◌++◌, Bool, true, false, not, filter, length, take, min, bytes_eq, Option, Ok, Err}
use Rattle.fy_lines.specs.Lines.{lines_of}
use Rattle.fy_acts.specs.declared.version.Version.TheVariants.{Second}
use Rattle.fy_spelling.specs.Command.{LineOf}
use Rattle.fy_spelling.specs.declared.command.Command.{Command}
use Rattle.fy_spelling.specs.declared.command.LineFault.{LineFault}
use Rattle.fy_audit.specs.AuditText.{header}
use Rattle.fy_audit.specs.declared.script.ScriptFault.TheVariants.{Line}
use Rattle.fy_cluster.specs.Execution.{Execution, opened}
use Rattle.fy_cluster.specs.Replies.{Legal}
use Rattle.fy_cluster.specs.Setup.{Setup}
use Rattle.fy_questions.specs.declared.question.Question.{Question}
use Rattle.fy_asking.specs.Asks.{AskOf}
use Rattle.fy_asking.specs.Requests.{RequestOf}
use Rattle.fy_asking.specs.ToldTexts.{told_head}
use Rattle.fy_answers.specs.Answers.{EndsLine, HasNoAnswer, IsAnswered, IsHandled, IsUnhandled}
use Rattle.fy_answers.specs.declared.fault.AnswerFault.{AnswerFault}
use Rattle.fy_lines.specs.Prefixes.{AppendsProperPrefix}
use Rattle.std.specs.Io.KnownBytes.{Keeps}
use Rattle.fy_guard.specs.Cuts.{with_feeds}
use Rattle.fy_guard.specs.GuardTexts.{Answered, AnsweredFrom, Answering, Ending, StopsAtLine, answer_stop, room_in}
use Rattle.fy_streams.specs.declared.stop.Stop.{Stop}
use Rattle.fy_streams.specs.declared.stop.Stop.TheVariants.{Script, JournalFull, Write}

-- a line is answered by a text: as an act; or where questions are taken as an act or a question, and
-- the text is one line with its feed
abbrev pub IsAnswer : Bool → Execution → Execution → List ℕ → List ℕ → Type 0
IsAnswer true old new line text = IsHandled old new line text × EndsLine text
IsAnswer false old new line text = IsAnswered old new line text

-- a line has no answer, for this reason
abbrev pub LacksAnswer : Bool → Execution → Execution → List ℕ → ℕ → AnswerFault → Type 0
LacksAnswer true = IsUnhandled
LacksAnswer false = HasNoAnswer

-- lines that are answered one after another: the text are the answers
pub data AreAnswers (questions : Bool) (from : Execution)
    : Execution → List (List ℕ) → List ℕ → Type 0 where
  nothing : AreAnswers questions from from [] []
  more : {mid new : Execution} {lines : List (List ℕ)} {text : List ℕ} (line answer : List ℕ) →
      AreAnswers questions from mid lines text → IsAnswer questions mid new line answer →
      AreAnswers questions from new (lines ++ line ∷ []) (text ++ answer)

-- the text are the answers to the lines of a guard that takes questions and goes on from a cluster
abbrev pub MixedFrom : Execution → Answering
MixedFrom from lines text = (now : Execution) × AreAnswers true from now lines text

-- the text is the header and the answers to the lines of such a guard of a new cluster
abbrev pub Mixed : Setup → Answering
Mixed setup lines text =
    (rest : List ℕ) × MixedFrom (opened setup) lines rest × (text ≡ header Second ++ rest)

-- the number of the line behind so many; numbers end at the greatest of 32 bits
abbrev pub number_behind : ℕ → ℕ
number_behind lines = min (lines + 1) 4294967295

-- why the line with this number has no answer: it is neither an act nor a question, or it is an
-- act and the journal is full
pub data StopsAtRequest (now : Execution) (number : ℕ) (line : List ℕ) : Stop → Type 0 where
  faulty : (fault : LineFault) → RequestOf line (Err fault) →
      StopsAtRequest now number line (Script (Line number fault))
  full : (command : Command) → LineOf line (Ok command) →
      now.setup.limit ≤ length now.journal → StopsAtRequest now number line JournalFull

-- ---- a guard that takes questions, or takes none

-- what it answers that goes on from a cluster
abbrev pub AnswersFrom : Bool → Execution → Answering
AnswersFrom true from = MixedFrom from
AnswersFrom false from = AnsweredFrom from

-- what it answers on a new cluster
abbrev pub Answers : Bool → Setup → Answering
Answers true setup = Mixed setup
Answers false setup = Answered setup

-- why it stops that goes on from a cluster: the lines are answered, and the next has no answer
abbrev pub EndsFrom : Bool → Execution → Ending
EndsFrom true from front text line stop =
    (now : Execution) × AreAnswers true from now front text
    × StopsAtRequest now (number_behind (length front)) line stop
EndsFrom false from front text line stop =
    AnsweredFrom from front text × StopsAtLine (room_in from) (length front) line stop

-- why it stops on a new cluster
abbrev pub Ends : Bool → Setup → Ending
Ends true setup front text line stop =
    (rest : List ℕ) × EndsFrom true (opened setup) front rest line stop
    × (text ≡ header Second ++ rest)
Ends false setup front text line stop =
    Answered setup front text × StopsAtLine setup.limit (length front) line stop

-- a line, which has this number, has no answer, and nothing is out; or its answer is out in part
pub data NoAnswer (questions : Bool) (old new : Execution) (line : List ℕ) (number : ℕ)
    (before after : Option (List ℕ)) (stop : Stop) : Type 0 where
  unanswered : (room : ℕ) → (fault : AnswerFault) →
      LacksAnswer questions old new line room fault → stop ≡ answer_stop number fault →
      Keeps before after → NoAnswer questions old new line number before after stop
  short : (answer : List ℕ) → IsAnswer questions old new line answer → stop ≡ Write →
      AppendsProperPrefix before after answer →
      NoAnswer questions old new line number before after stop

-- ---- what the answers are without those to questions

-- the line begins as what is told does
abbrev pub is_told : List ℕ → Bool
is_told line = bytes_eq (take (length told_head) line) told_head

-- the lines of a text but those of what is told
abbrev pub without_told : List ℕ → List ℕ
without_told text = with_feeds (filter (λ line. not (is_told line)) (lines_of text))

-- the acts among the lines, in their order; each other line is a question
pub data AreActsAmong : List (List ℕ) → List (List ℕ) → Type 0 where
  nothing : AreActsAmong [] []
  act : {lines acts : List (List ℕ)} (line : List ℕ) (command : Command) →
      AreActsAmong lines acts → LineOf line (Ok command) →
      AreActsAmong (lines ++ line ∷ []) (acts ++ line ∷ [])
  question : {lines acts : List (List ℕ)} (line : List ℕ) (asked : Question) →
      AreActsAmong lines acts → AskOf line (Ok asked) →
      AreActsAmong (lines ++ line ∷ []) acts

-- the answers less what is told are what a guard writes that goes on from there to the acts alone
abbrev pub ActsAloneFrom : Type 0
ActsAloneFrom =
    (from : Execution) (lines : List (List ℕ)) (text : List ℕ) → Legal from.setup from.journal →
    MixedFrom from lines text → (acts : List (List ℕ))
    × AreActsAmong lines acts × AnsweredFrom from acts (without_told text)

-- and so it is from the start on, where they are the audit of the acts alone
abbrev pub ActsAlone : Type 0
ActsAlone =
    (setup : Setup) (lines : List (List ℕ)) (text : List ℕ) →
    Mixed setup lines text → (acts : List (List ℕ))
    × AreActsAmong lines acts × Answered setup acts (without_told text)
