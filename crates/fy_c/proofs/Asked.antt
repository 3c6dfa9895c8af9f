-- what is told to a line that asks
use Rattle.std.proofs.Common.{◌≡◌, ℕ, List, refl, sym, subst}
use Rattle.std.specs.Prelude.{Ok, Err}
use Rattle.fy_spelling.specs.declared.command.CommandFault.{CommandFault}
use Rattle.fy_spelling.specs.declared.command.CommandFault.TheVariants as reading
use Rattle.fy_asking.specs.Asks.{AskOf}
use Rattle.fy_asking.specs.Requests.{AskAnswers}
use Rattle.fy_questions.specs.declared.question.Question.{Question}
use Rattle.fy_cluster.specs.Execution.{Execution}
use Rattle.fy_c.specs.Questioning.{HasTold, IsToldText, NotTold}
use Rattle.fy_c.specs.Statuses.{reading_status}
use Rattle.fy_c.specs.declared.status.Status.{Status}
use Rattle.fy_c.specs.declared.status.Status.TheVariants.{NoMemory}

-- the line is no question, or an allocation failed
pub no_question : (line : List ℕ) (fault : CommandFault) → AskAnswers line (Err fault) →
    NotTold line (reading_status fault)
no_question line (reading.Line fault) is = NotTold.faulty fault is
no_question line reading.NoMemory fits = NotTold.no_memory fits

-- its question is told of
pub told_it : (execution : Execution) (line text : List ℕ) (question : Question) →
    AskOf line (Ok question) → IsToldText execution question text → HasTold execution line text
told_it execution line text question asked (told, told_line, is_told, spelled, is) = record {
  question = question;
  asked = asked;
  told = told;
  is_told = is_told;
  told_line = told_line;
  spelled = spelled;
  text_is = is;
  same = refl;
}

-- or an allocation failed then
pub no_memory : (line : List ℕ) (question : Question) (status : Status) →
    AskOf line (Ok question) → status ≡ NoMemory → NotTold line status
no_memory line question status asked is = subst (NotTold line) (sym is) (NotTold.no_memory asked.0)
