-- what is told to a line that asks, and which bytes are told of it
use Rattle.std.specs.Prelude.{◌≡◌, ◌≤◌, ◌++◌, ◌∷◌, [], ℕ, List, length, Ok, Err}
use Rattle.fy_spelling.specs.declared.command.LineFault.{LineFault}
use Rattle.fy_spelling.specs.declared.command.TheConstants.{MOST_LINE_BYTES}
use Rattle.fy_asking.specs.Asks.{AskOf}
use Rattle.fy_asking.specs.ToldTexts.{IsToldLine}
use Rattle.fy_questions.specs.Told.{IsTold}
use Rattle.fy_questions.specs.declared.question.Question.{Question}
use Rattle.fy_questions.specs.declared.told.Told.{Told}
use Rattle.fy_cluster.specs.Execution.{Execution}
use Rattle.fy_answers.specs.Answers.{IsAnsweredAsk}
use Rattle.fy_c.specs.Acting.{Tells, IsShort}
use Rattle.fy_c.specs.Statuses.{line_status}
use Rattle.fy_c.specs.declared.status.Status.{Status}
use Rattle.fy_c.specs.declared.status.Status.TheVariants.{Done, NoMemory, Short}

-- the text is the line of what is told to the question
abbrev pub IsToldText : Execution → Question → List ℕ → Type 0
IsToldText execution question text =
    (told : Told) × (line : List ℕ) × IsTold execution question told
    × IsToldLine execution.setup told line × (text ≡ line ++ 10 ∷ [])

-- the line is a question, and the text is the line of what is told to it
abbrev pub HasTold : Execution → (line text : List ℕ) → Type 0
HasTold execution line text = IsAnsweredAsk execution execution line text

-- why nothing is told: the line is no question; or it isn't too long, and an allocation failed
pub data NotTold (line : List ℕ) : Status → Type 0 where
  faulty : (fault : LineFault) → AskOf line (Err fault) → NotTold line (line_status fault)
  no_memory : length line ≤ MOST_LINE_BYTES → NotTold line NoMemory

-- what is told is in the buffer; or it is longer than the buffer, and its length is told; or
-- nothing is told, and what was told before is then told still
pub data Asks (execution : Execution) (line before after : List ℕ) (was told : ℕ) : Status → Type 0
  where
    told_it : (text : List ℕ) → HasTold execution line text → Tells before after told text →
        Asks execution line before after was told Done
    short : (text : List ℕ) → HasTold execution line text → IsShort before (length text) told →
        after ≡ before → Asks execution line before after was told Short
    not_told : (status : Status) → NotTold line status → after ≡ before → told ≡ was →
        Asks execution line before after was told status
