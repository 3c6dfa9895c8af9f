-- what a line that may ask comes to
use Rattle.std.proofs.Common.{◌≡◌, ◌∙◌, ◌≤◌, ℕ, List, length, None, Some, Err, refl, sym, ap, subst, inl, inr}
use Rattle.serde_json.specs.Data.{Data}
use Rattle.fy_spelling.specs.Command.{IsJson, LineAnswers, LineOf}
use Rattle.fy_spelling.specs.declared.command.CommandFault.{CommandFault}
use Rattle.fy_spelling.specs.declared.command.CommandFault.TheVariants.{Line, NoMemory}
use Rattle.fy_spelling.specs.declared.command.LineFault.{LineFault}
use Rattle.fy_spelling.specs.declared.command.LineFault.TheVariants.{TooLong, Syntax, Floor}
use Rattle.fy_spelling.specs.declared.command.TheConstants.{MOST_LINE_BYTES}
use Rattle.fy_spelling.proofs.Lines.{one_value}
use Rattle.fy_asking.specs.Asks.{AskOf, IsCheckedAsk, question_from}
use Rattle.fy_asking.specs.Requests.{AskAnswers, RequestAnswers}
use Rattle.fy_asking.specs.declared.reading.Unchecked.{Unchecked}
use Rattle.fy_asking.specs.declared.reading.Unchecked.TheVariants.{Order, Other}

-- the value of a line asks nothing
pub nothing_asked : (line : List ℕ) (d : Data) → length line ≤ MOST_LINE_BYTES → IsJson line d →
    question_from d ≡ None → AskOf line (Err Syntax)
nothing_asked line d short json none =
    (short, λ value its. ap question_from (one_value line value d its json) ∙ none)

-- it asks for a kill that is none
pub floor_asked : (line : List ℕ) (d : Data) (asked : Unchecked) (fault : LineFault) →
    length line ≤ MOST_LINE_BYTES → IsJson line d → question_from d ≡ Some asked →
    IsCheckedAsk asked (Err fault) → AskOf line (Err fault)
floor_asked line d (Other question) fault short json found is = absurd (let no : ⊥ = cc in no)
floor_asked line d (Order by target kind floor tear) fault short json found is =
    subst (λ f. AskOf line (Err f)) (sym is.0) (
      short,
      record {
        value = d;
        json = json;
        asked = Order by target kind floor tear;
        found = found;
        comes = (refl, is.1);
      },
    )

-- a line that is no command has the fault that it has as a question
pub fault_of_ask : (line : List ℕ) (fault : CommandFault) → LineOf line (Err Syntax) →
    AskAnswers line (Err fault) → RequestAnswers line (Err fault)
fault_of_ask line (Line TooLong) syntax is = is
fault_of_ask line (Line Syntax) syntax is = (syntax, is)
fault_of_ask line (Line Floor) syntax is = inr is
fault_of_ask line NoMemory syntax is = is

-- and one that is no question has the fault that it has as a command
pub fault_of_act : (line : List ℕ) (fault : CommandFault) → AskOf line (Err Syntax) →
    LineAnswers line (Err fault) → RequestAnswers line (Err fault)
fault_of_act line (Line TooLong) syntax is = is
fault_of_act line (Line Syntax) syntax is = (is, syntax)
fault_of_act line (Line Floor) syntax is = inl is
fault_of_act line NoMemory syntax is = is

-- another fault of a question is the line's
pub other_of_ask : (line : List ℕ) (fault : CommandFault) → (fault ≡ Line Syntax → ⊥) →
    AskAnswers line (Err fault) → RequestAnswers line (Err fault)
other_of_ask line (Line TooLong) other is = is
other_of_ask line (Line Syntax) other is = absurd (other refl)
other_of_ask line (Line Floor) other is = inr is
other_of_ask line NoMemory other is = is

-- another fault of a command is the line's
pub other_of_act : (line : List ℕ) (fault : CommandFault) → (fault ≡ Line Syntax → ⊥) →
    LineAnswers line (Err fault) → RequestAnswers line (Err fault)
other_of_act line (Line TooLong) other is = is
other_of_act line (Line Syntax) other is = absurd (other refl)
other_of_act line (Line Floor) other is = inl is
other_of_act line NoMemory other is = is
