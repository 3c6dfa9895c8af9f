-- a line that may be a question, by what was read of it
use Rattle.std.proofs.Common.{◌≡◌, ◌++◌, ◌∷◌, ℕ, List, [], refl, sym, subst}
use Rattle.std.specs.Prelude.{Ok, Err}
use Rattle.fy_acts.specs.declared.act.Act.{Act}
use Rattle.fy_asking.specs.Asks.{AskOf}
use Rattle.fy_asking.specs.Requests.{RequestAnswers}
use Rattle.fy_asking.specs.ToldTexts.{IsToldLine}
use Rattle.fy_lines.specs.Lines.{IsLine}
use Rattle.fy_questions.specs.Told.{IsTold}
use Rattle.fy_questions.specs.declared.question.Question.{Question}
use Rattle.fy_questions.specs.declared.told.Told.{Told}
use Rattle.fy_spelling.specs.Command.{LineOf}
use Rattle.fy_spelling.specs.declared.command.Command.{Command}
use Rattle.fy_spelling.specs.declared.command.CommandFault.{CommandFault}
use Rattle.fy_spelling.specs.declared.command.CommandFault.TheVariants as reading
use Rattle.fy_cluster.specs.Execution.{Execution}
use Rattle.fy_answers.specs.Answers.{EndsLine, HasEntered, HasNoEntry, IsHandled, IsUnhandled, reading_fault}
use Rattle.fy_answers.specs.declared.fault.AnswerFault.{AnswerFault}
use Rattle.fy_answers.specs.declared.fault.AnswerFault.TheVariants.{NoMemory}

-- a reader of lines answers a fault: it is the line's, or an allocation failed
pub faulty_request : (execution : Execution) (line : List ℕ) (room : ℕ) (fault : CommandFault) →
    RequestAnswers line (Err fault) → IsUnhandled execution execution line room (reading_fault fault)
faulty_request execution line room (reading.Line fault) is = IsUnhandled.faulty fault is refl
faulty_request execution line room reading.NoMemory is = IsUnhandled.no_memory is refl

-- an act is entered
pub acted : (old new : Execution) (line text : List ℕ) (command : Command) (parts : ℕ × Act) →
    LineOf line (Ok command) → parts ≡ (command.by, command.act) →
    HasEntered old new parts.0 parts.1 text → IsHandled old new line text
acted old new line text command parts asked same entered =
    IsHandled.acted (record {
      command = command;
      asked = asked;
      entered = subst (λ (p : ℕ × Act). HasEntered old new p.0 p.1 text) same entered;
    })

-- or it isn't
pub not_acted : (old new : Execution) (line : List ℕ) (room : ℕ) (fault : AnswerFault)
    (command : Command) (parts : ℕ × Act) → LineOf line (Ok command) →
    parts ≡ (command.by, command.act) → HasNoEntry old new parts.0 parts.1 room fault →
    IsUnhandled old new line room fault
not_acted old new line room fault command parts asked same none =
    IsUnhandled.no_entry command asked fault
    (subst (λ (p : ℕ × Act). HasNoEntry old new p.0 p.1 room fault) same none)

-- what is told of a cluster to a question, as a line
abbrev pub Tells : Execution → Question → List ℕ → Type 0
Tells cluster question text =
    (told : Told) × (line : List ℕ) × IsTold cluster question told
    × IsToldLine cluster.setup told line × IsLine line × (text ≡ line ++ 10 ∷ [])

-- a question is told of
pub told : (cluster : Execution) (line text : List ℕ) (question : Question) →
    AskOf line (Ok question) → Tells cluster question text → IsHandled cluster cluster line text
told cluster line text question asked (what, told_line, is_told, spelled, is_line, is) =
    IsHandled.asked (record {
      question = question;
      asked = asked;
      told = what;
      is_told = is_told;
      told_line = told_line;
      spelled = spelled;
      text_is = is;
      same = refl;
    })

pub told_ends : (cluster : Execution) (question : Question) (text : List ℕ) →
    Tells cluster question text → EndsLine text
told_ends cluster question text (what, told_line, is_told, spelled, is_line, is) =
    (told_line, is_line, is)

-- or memory was refused
pub not_told : (cluster : Execution) (line : List ℕ) (room : ℕ) (question : Question)
    (fault : AnswerFault) → AskOf line (Ok question) → fault ≡ NoMemory →
    IsUnhandled cluster cluster line room fault
not_told cluster line room question fault asked is =
    subst (IsUnhandled cluster cluster line room) (sym is) (IsUnhandled.no_memory asked.0 refl)
