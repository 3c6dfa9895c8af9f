-- what judge answers
use Rattle.std.specs.Prelude.{◌≡◌, ℕ, ◌<◌, ◌≤◌, ◌+◌, Bool, true, false, ◌&&◌, ◌==◌, not, List, [], ◌∷◌, ◌++◌, length, Some, None, Result, Ok, Err, codes, if◌then◌else◌}
use Rattle.std.specs.List.{list_any, flat_map}
use Rattle.fy_decide.specs.declared.dead_book.Loss.{Loss}
use Rattle.fy_decide.specs.declared.dead_book.Loss.TheVariants.{Emptied, Gone}
use Rattle.fy_decide.specs.Safety.{everyone, may_destroy, first_unmet}
use Rattle.fy_lines.specs.Lines.{lines_of}
use Rattle.fy_judge.specs.declared.judge.TheConstants.{MOST_JUDGE_BYTES}
use Rattle.fy_judge.specs.declared.line.Ask.{Ask}
use Rattle.fy_judge.specs.declared.answer.Answer.{Answer}
use Rattle.fy_judge.specs.declared.answer.Answer.TheVariants.{Yes, No, WasGone}
use Rattle.fy_judge.specs.declared.stop.JudgeFault.{JudgeFault}
use Rattle.fy_judge.specs.declared.stop.JudgeFault.TheVariants.{PolicyUnmet}
use Rattle.fy_judge.specs.declared.stop.JudgeStop.{JudgeStop}
use Rattle.fy_judge.specs.declared.stop.JudgeStop.TheVariants.{TooLong, Line, NoMemory as StopNoMemory}
use Rattle.fy_decide.specs.declared.dead_book.MakeFault.{MakeFault}
use Rattle.fy_decide.specs.declared.dead_book.MakeFault.TheVariants.{Unmet, NoMemory}
use Rattle.fy_judge.specs.JudgeLines.{Input, empty_input, parse_line, Step, FollowLines}

-- whether a loss is for good
abbrev pub destroys_for_good : Loss → Bool
destroys_for_good Emptied = false
destroys_for_good Gone = true

-- the processes destroyed by the asks that were answered yes
abbrev pub destroyed_by : List Ask → ℕ → Bool
destroyed_by granted p = list_any (λ a. a.process.0 == p) granted

-- those of them that are gone
abbrev pub gone_by : List Ask → ℕ → Bool
gone_by granted p = list_any (λ a. destroys_for_good a.loss && a.process.0 == p) granted

-- all processes but those gone
abbrev pub left_by : Input → List Ask → ℕ → Bool
left_by i granted p = everyone i.processes p && not (gone_by granted p)

-- the answer to an ask, from the asks before it that were answered yes
abbrev pub answer_of : Input → List Ask → Ask → Answer
answer_of i granted a =
    if gone_by granted a.process.0 then WasGone
    else (if may_destroy i.processes i.policies (destroyed_by granted) (left_by i granted)
    (λ p. p == a.process.0) a.loss then Yes else No)

-- the asks answered yes, after one more answer
abbrev pub granted_after : List Ask → Ask → Answer → List Ask
granted_after granted a Yes = granted ++ a ∷ []
granted_after granted a _ = granted

-- the answers to asks, after those that were answered yes
abbrev pub answers_of : Input → List Ask → List Ask → List Answer
answers_of i granted [] = []
answers_of i granted (a ∷ later) =
    answer_of i granted a ∷ answers_of i (granted_after granted a (answer_of i granted a)) later

-- the line of an answer
abbrev pub answer_line : Answer → List ℕ
answer_line Yes = codes "yes\n"
answer_line No = codes "no\n"
answer_line WasGone = codes "gone\n"

-- a line for each ask
abbrev pub answers_text : Input → List ℕ
answers_text i = flat_map answer_line (answers_of i [] i.asks)

-- the first faulty line and its fault: the lines before it have none
pub record FirstFault (bytes : List ℕ) (line : ℕ) (fault : JudgeFault) : Type 0 where
  pub good : List (List ℕ)
  pub bad : List ℕ
  pub more : List (List ℕ)
  pub input : Input
  pub lines : lines_of bytes ≡ good ++ bad ∷ more
  pub said : FollowLines empty_input good input
  pub at_fault : Step input (parse_line bad) (Err fault)
  pub number : line ≡ length good + 1

-- every line is faultless, and this is what they say
pub record IsFaultless (bytes : List ℕ) (input : Input) : Type 0 where
  pub short : length bytes ≤ MOST_JUDGE_BYTES
  pub said : FollowLines empty_input (lines_of bytes) input

-- JUDGE: the text that answers the bytes, or why they are refused; nothing is said of other stops
pub data Judges (bytes : List ℕ) : Result (List ℕ) JudgeStop → Type 0 where
  too_long : MOST_JUDGE_BYTES < length bytes → Judges bytes (Err TooLong)
  line_fault : (line : ℕ) (fault : JudgeFault) → length bytes ≤ MOST_JUDGE_BYTES →
      FirstFault bytes line fault → Judges bytes (Err (Line line fault))
  policy_unmet : (i : Input) (k : ℕ) → IsFaultless bytes i →
      first_unmet i.processes i.policies ≡ Some k →
      Judges bytes (Err (Line (k + 1) PolicyUnmet))
  answered : (i : Input) → IsFaultless bytes i → first_unmet i.processes i.policies ≡ None →
      Judges bytes (Ok (answers_text i))

-- bytes have one answer
abbrev pub TextIsOne : Type 0
TextIsOne = (bytes : List ℕ) (x y : Result (List ℕ) JudgeStop) → Judges bytes x → Judges bytes y → x ≡ y

-- a judge stop is a refusal of the bytes
abbrev pub IfJudgeRefusal : JudgeStop → Type 0 → Type 0
IfJudgeRefusal TooLong P = P
IfJudgeRefusal (Line line fault) P = P
IfJudgeRefusal _ P = Unit {0}

-- the stop for a policy that isn't met, by its place
abbrev pub unmet_stop : MakeFault → JudgeStop
unmet_stop (Unmet k) = Line (k + 1) PolicyUnmet
unmet_stop NoMemory = StopNoMemory

-- what holds of the place of a policy that isn't met
abbrev pub IfUnmet : MakeFault → (ℕ → Type 0) → Type 0
IfUnmet (Unmet k) P = P k
IfUnmet NoMemory P = Unit {0}
