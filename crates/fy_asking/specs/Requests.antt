-- a line that may be an act or a question
use Rattle.std.specs.Prelude.{◌≤◌, ◌⊎◌, ℕ, List, length, Result, Ok, Err}
use Rattle.fy_spelling.specs.Command.{LineOf}
use Rattle.fy_spelling.specs.declared.command.CommandFault.{CommandFault}
use Rattle.fy_spelling.specs.declared.command.CommandFault.TheVariants.{Line, NoMemory}
use Rattle.fy_spelling.specs.declared.command.LineFault.{LineFault}
use Rattle.fy_spelling.specs.declared.command.LineFault.TheVariants.{TooLong, Syntax, Floor}
use Rattle.fy_spelling.specs.declared.command.TheConstants.{MOST_LINE_BYTES}
use Rattle.fy_questions.specs.declared.question.Question.{Question}
use Rattle.fy_asking.specs.Asks.{AskOf}
use Rattle.fy_asking.specs.declared.request.Request.{Request}
use Rattle.fy_asking.specs.declared.request.Request.TheVariants.{Act, Ask}

-- what a reader of questions may answer: what the line comes to, or that an allocation failed,
-- which takes the place of any answer but TooLong
abbrev pub AskAnswers : List ℕ → Result Question CommandFault → Type 0
AskAnswers line (Ok question) = AskOf line (Ok question)
AskAnswers line (Err (Line fault)) = AskOf line (Err fault)
AskAnswers line (Err NoMemory) = length line ≤ MOST_LINE_BYTES

-- what a line comes to: the act or the question that it spells, or its first fault
abbrev pub RequestOf : List ℕ → Result Request LineFault → Type 0
RequestOf line (Ok (Act command)) = LineOf line (Ok command)
RequestOf line (Ok (Ask question)) = AskOf line (Ok question)
RequestOf line (Err TooLong) = LineOf line (Err TooLong)
RequestOf line (Err Syntax) = LineOf line (Err Syntax) × AskOf line (Err Syntax)
RequestOf line (Err Floor) = LineOf line (Err Floor) ⊎ AskOf line (Err Floor)

-- what a reader may answer: what the line comes to, or that an allocation failed, which takes the
-- place of any answer but TooLong
abbrev pub RequestAnswers : List ℕ → Result Request CommandFault → Type 0
RequestAnswers line (Ok request) = RequestOf line (Ok request)
RequestAnswers line (Err (Line fault)) = RequestOf line (Err fault)
RequestAnswers line (Err NoMemory) = length line ≤ MOST_LINE_BYTES
