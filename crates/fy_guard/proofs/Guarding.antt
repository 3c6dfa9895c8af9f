-- the lines of a guard, and what was answered to them
use Rattle.std.proofs.Common.{Bool, true, false, ◌≡◌, ◌∙◌, ◌≤◌, ◌+◌, ℕ, List, [], ◌∷◌, ◌++◌, length, refl, sym, ap, subst, append_assoc, append-nil, length-append, Option, Some, None, inl}
use Rattle.std.specs.Prelude.{IfSome, Result, Ok, Err}
use Rattle.std.specs.Io.KnownBytes.{Appends, IsAtEnd}
use Rattle.std.proofs.KnownBytes.{Appends-nil, Appends-trans, Appends-kept, Keeps-refl}
use Rattle.fy_lines.proofs.WindowLemmas.{nothing_read}
use Rattle.fy_lines.specs.Lines.{lines_of}
use Rattle.fy_lines.specs.Prefixes.{AppendsProperPrefix}
use Rattle.fy_lines.specs.Readings.{HasLongLine, ReadsLine, ReadsWithinLine}
use Rattle.fy_lines.specs.declared.input.InputFault.{InputFault}
use Rattle.fy_lines.specs.declared.input.InputFault.TheVariants as input
use Rattle.fy_spelling.specs.Command.{LineOf}
use Rattle.fy_spelling.specs.declared.command.Command.{Command}
use Rattle.fy_spelling.specs.declared.command.TheConstants.{MOST_LINE_BYTES}
use Rattle.fy_spelling.specs.declared.command.LineFault.{LineFault}
use Rattle.fy_spelling.specs.declared.command.LineFault.TheVariants.{TooLong}
use Rattle.fy_asking.specs.Requests.{RequestOf}
use Rattle.fy_audit.specs.declared.script.ScriptFault.TheVariants.{Line}
use Rattle.fy_cluster.specs.Replies.{Legal}
use Rattle.fy_cluster.specs.Execution.{Execution}
use Rattle.fy_run.specs.RunTexts.{IfRunRefusal}
use Rattle.fy_run.proofs.Gathering.{short_behind}
use Rattle.fy_answers.specs.Answers.{HasNoAnswer, HasNoEntry, IsUnhandled}
use Rattle.fy_answers.specs.declared.fault.AnswerFault.{AnswerFault}
use Rattle.fy_answers.specs.declared.fault.AnswerFault.TheVariants as answer
use Rattle.fy_guard.specs.GuardTexts.{AllAnswered, AnsweredBefore, AppendsAtLeast, AreInTurn, FirstAnswered, NoLine, StopsAtLine, answer_stop, room_in}
use Rattle.fy_guard.specs.AskedTexts.{AnswersFrom, AreAnswers, EndsFrom, IsAnswer, LacksAnswer, NoAnswer, StopsAtRequest, number_behind}
use Rattle.fy_guard.proofs.Made.{answered_from, has_made, next_number, no_room}
use Rattle.fy_streams.specs.Stops.{IsRunStop, input_stop}
use Rattle.fy_streams.specs.declared.stop.Stop.{Stop}
use Rattle.fy_streams.specs.declared.stop.Stop.TheVariants.{JudgeTooLong, JudgeLine, Config, Script, JournalFull, Audit, Events, SwarmClose, Read, Write, NoMemory}

-- some first lines were read, and no byte behind them
abbrev pub AreRead : Option (List ℕ) → Option (List ℕ) → List (List ℕ) → Type 0
AreRead old left front =
    IfSome old (λ bytes. (rest : List ℕ) × (left ≡ Some rest) × (lines_of bytes ≡ front ++ lines_of rest))

-- and so many they are, each is answered, and the answers are out
pub record HasAnswered (questions : Bool) (from : Execution) (old left before out : Option (List ℕ))
    (execution : Execution) (count : ℕ) : Type 0 where
  pub starts : Legal from.setup from.journal
  pub small : from.setup.limit ≤ 1048576
  pub front : List (List ℕ)
  pub text : List ℕ
  pub each : AreAnswers questions from execution front text
  pub counted : length front ≡ count
  pub read : AreRead old left front
  pub written : Appends before out text

none_read : (known : Option (List ℕ)) → AreRead known known []
none_read None = tt
none_read (Some bytes) = (bytes, refl, refl)

-- nothing is read yet, and nothing is out
pub opens : (questions : Bool) (from : Execution) (known before : Option (List ℕ)) →
    Legal from.setup from.journal → from.setup.limit ≤ 1048576 →
    HasAnswered questions from known known before before from 0
opens questions from known before legal small = record {
  starts = legal;
  small = small;
  front = [];
  text = [];
  each = AreAnswers.nothing;
  counted = refl;
  read = none_read known;
  written = Appends-nil before;
}

one_read : (old left next : Option (List ℕ)) (front : List (List ℕ)) (line : List ℕ) →
    AreRead old left front → ReadsLine left next line → AreRead old next (front ++ line ∷ [])
one_read None left next front line read reads = tt
one_read (Some bytes) left next front line (rest, is, split) reads =
    let (more, left_is, first) = subst (λ known. ReadsLine known next line) is reads in (
      more,
      left_is,
      split ∙ ap (λ ls. front ++ ls) first ∙ sym (append_assoc front (line ∷ []) (lines_of more)),
    )

-- one line more is read and answered
pub goes_on : (line answer : List ℕ) {questions : Bool} {from : Execution}
    {old left next before out longer : Option (List ℕ)} {execution now : Execution} {count : ℕ} →
    HasAnswered questions from old left before out execution count → ReadsLine left next line →
    IsAnswer questions execution now line answer → Appends out longer answer →
    HasAnswered questions from old next before longer now (count + 1)
goes_on line answer {questions} {from} {old} {left} {next} {before} {out} {longer} {execution} {now} {count} has reads it written =
    record {
      starts = has.starts;
      small = has.small;
      front = has.front ++ line ∷ [];
      text = has.text ++ answer;
      each = AreAnswers.more line answer has.each it;
      counted = length-append has.front (line ∷ []) ∙ ap (λ n. n + 1) has.counted;
      read = one_read old left next has.front line has.read reads;
      written = Appends-trans before out longer has.text answer has.written written;
    }

-- what is answered one after another is what the guard answers
pub answers_from : (questions : Bool) {from now : Execution} {lines : List (List ℕ)} {text : List ℕ} →
    Legal from.setup from.journal → AreAnswers questions from now lines text →
    AnswersFrom questions from lines text
answers_from true {from} {now} {lines} {text} legal each = (now, each)
answers_from false {from} {now} {lines} {text} legal each = answered_from (has_made from legal each)

-- all lines are answered
pub answers_all : {questions : Bool} {from : Execution} (old : Option (List ℕ))
    {left before out : Option (List ℕ)} {execution : Execution} {count : ℕ} (P : List ℕ → Type 0) →
    (has : HasAnswered questions from old left before out execution count) → IsAtEnd left →
    P has.text → AllAnswered (AnswersFrom questions from) old P
answers_all {questions} {from} None {left} {before} {out} {execution} {count} P has ends holds = tt
answers_all {questions} {from} (Some bytes) {left} {before} {out} {execution} {count} P has ends holds =
    let (rest, is, split) = has.read in
    let none : rest ≡ [] = subst IsAtEnd is ends in
    let whole : lines_of bytes ≡ has.front =
    split ∙ ap (λ r. has.front ++ lines_of r) none ∙ append-nil has.front in (
      has.text,
      subst (λ ls. AnswersFrom questions from ls has.text) (sym whole)
          (answers_from questions has.starts has.each),
      holds,
    )

-- the lines that were read are answered, and of the next no more was read than the line
pub in_turn : {questions : Bool} {from : Execution}
    (Reads : Option (List ℕ) → Option (List ℕ) → Type 0) (old : Option (List ℕ))
    {left next before out : Option (List ℕ)} {execution : Execution} {count : ℕ}
    (P : List ℕ → Type 0) →
    (has : HasAnswered questions from old left before out execution count) → Reads left next →
    P has.text → IfSome old (λ bytes. AreInTurn (AnswersFrom questions from) Reads bytes next P)
in_turn {questions} {from} Reads None {left} {next} {before} {out} {execution} {count} P has within holds = tt
in_turn {questions} {from} Reads (Some bytes) {left} {next} {before} {out} {execution} {count} P has within holds =
    let (rest, is, split) = has.read in
    record {
      front = has.front;
      rest = rest;
      text = has.text;
      lines = split;
      within = subst (λ o. Reads o next) is within;
      answered = answers_from questions has.starts has.each;
      out = holds;
    }

-- nothing of the next line was read
pub within_nothing : (known : Option (List ℕ)) → ReadsWithinLine known known
within_nothing known = ([], nothing_read known known (Keeps-refl known), inl tt)

-- ---- where it stops

-- what holds of a stop that refuses a line
pub refusal_weaker : (stop : Stop) {A B : Type 0} → (A → B) → IfRunRefusal stop A → IfRunRefusal stop B
refusal_weaker (Script fault) {A} {B} f it = f it
refusal_weaker JournalFull {A} {B} f it = f it
refusal_weaker JudgeTooLong {A} {B} f it = tt
refusal_weaker (JudgeLine line fault) {A} {B} f it = tt
refusal_weaker (Config fault) {A} {B} f it = tt
refusal_weaker (Audit fault) {A} {B} f it = tt
refusal_weaker (Events fault) {A} {B} f it = tt
refusal_weaker SwarmClose {A} {B} f it = tt
refusal_weaker Read {A} {B} f it = tt
refusal_weaker Write {A} {B} f it = tt
refusal_weaker NoMemory {A} {B} f it = tt

-- a line has a fault
abbrev HasFault : Bool → List ℕ → LineFault → Type 0
HasFault true line fault = RequestOf line (Err fault)
HasFault false line fault = LineOf line (Err fault)

is_long : (questions : Bool) (line : List ℕ) → LineOf line (Err TooLong) → HasFault questions line TooLong
is_long true line long = long
is_long false line long = long

-- a faulty line stops it
ends_faulty : (questions : Bool) {from now : Execution} {front : List (List ℕ)} {text : List ℕ}
    (line : List ℕ) (fault : LineFault) → Legal from.setup from.journal →
    from.setup.limit ≤ 1048576 → AreAnswers questions from now front text →
    HasFault questions line fault →
    EndsFrom questions from front text line (Script (Line (number_behind (length front)) fault))
ends_faulty true {from} {now} {front} {text} line fault legal small each faulty =
    (now, each, StopsAtRequest.faulty fault faulty)
ends_faulty false {from} {now} {front} {text} line fault legal small each faulty =
    let made = has_made from legal each in (
      answered_from made,
      subst (λ n. StopsAtLine (room_in from) (length front) line (Script (Line n fault)))
          (sym (next_number made small)) (StopsAtLine.faulty fault faulty),
    )

-- a full journal stops it
ends_full : (questions : Bool) {from now : Execution} {front : List (List ℕ)} {text : List ℕ}
    (line : List ℕ) (command : Command) → Legal from.setup from.journal →
    AreAnswers questions from now front text → LineOf line (Ok command) →
    now.setup.limit ≤ length now.journal → EndsFrom questions from front text line JournalFull
ends_full true {from} {now} {front} {text} line command legal each spelled full =
    (now, each, StopsAtRequest.full command spelled full)
ends_full false {from} {now} {front} {text} line command legal each spelled full =
    let made = has_made from legal each in
    (answered_from made, StopsAtLine.full command spelled (no_room made full))

-- what holds where a line has no answer, for this reason
abbrev Stopped : Bool → Execution → List (List ℕ) → List ℕ → List ℕ → Stop → Type 0
Stopped questions from front text line stop =
    IfRunRefusal stop (EndsFrom questions from front text line stop)

ends_there : (questions : Bool) {from execution : Execution} (now : Execution)
    {front : List (List ℕ)} {text : List ℕ} (line : List ℕ) (room : ℕ) (fault : AnswerFault) →
    Legal from.setup from.journal → from.setup.limit ≤ 1048576 →
    AreAnswers questions from execution front text →
    LacksAnswer questions execution now line room fault →
    Stopped questions from front text line (answer_stop (number_behind (length front)) fault)
ends_there true {from} {execution} now {front} {text} line room _ legal small each (IsUnhandled.faulty fault faulty kept) =
    ends_faulty true line fault legal small each faulty
ends_there true {from} {execution} now {front} {text} line room _ legal small each (IsUnhandled.no_memory fits kept) = tt
ends_there true {from} {execution} now {front} {text} line room _ legal small each (IsUnhandled.no_entry command spelled _ (HasNoEntry.full full kept)) =
    ends_full true line command legal each spelled full
ends_there true {from} {execution} now {front} {text} line room _ legal small each (IsUnhandled.no_entry command spelled _ (HasNoEntry.no_memory has_room kept)) = tt
ends_there true {from} {execution} now {front} {text} line room _ legal small each (IsUnhandled.no_entry command spelled _ (HasNoEntry.unwritten made long)) = tt
ends_there false {from} {execution} now {front} {text} line room _ legal small each (HasNoAnswer.faulty fault faulty kept) =
    ends_faulty false line fault legal small each faulty
ends_there false {from} {execution} now {front} {text} line room _ legal small each (HasNoAnswer.unread fits kept) = tt
ends_there false {from} {execution} now {front} {text} line room _ legal small each (HasNoAnswer.no_entry command spelled _ (HasNoEntry.full full kept)) =
    ends_full false line command legal each spelled full
ends_there false {from} {execution} now {front} {text} line room _ legal small each (HasNoAnswer.no_entry command spelled _ (HasNoEntry.no_memory has_room kept)) = tt
ends_there false {from} {execution} now {front} {text} line room _ legal small each (HasNoAnswer.no_entry command spelled _ (HasNoEntry.unwritten made long)) = tt

-- the next line stops it
abbrev StopsThere : Bool → Execution → List (List ℕ) → List ℕ → Stop → Option (List ℕ) → Type 0
StopsThere questions from front text stop known =
    IfSome known (λ bytes. (line : List ℕ) × (more : List (List ℕ)) × (lines_of bytes ≡ line ∷ more)
    × EndsFrom questions from front text line stop)

-- the lines before it are answered
stops_before : {questions : Bool} {from : Execution} (old : Option (List ℕ))
    {left before out : Option (List ℕ)} {execution : Execution} {count : ℕ} (stop : Stop)
    (P : List ℕ → Type 0) →
    (has : HasAnswered questions from old left before out execution count) →
    StopsThere questions from has.front has.text stop left → P has.text →
    AnsweredBefore (EndsFrom questions from) old stop P
stops_before {questions} {from} None {left} {before} {out} {execution} {count} stop P has there holds = tt
stops_before {questions} {from} (Some bytes) {left} {before} {out} {execution} {count} stop P has there holds =
    let (rest, is, split) = has.read in
    let (line, more, first, ends) = subst (StopsThere questions from has.front has.text stop) is there in
    record {
      front = has.front;
      line = line;
      more = more;
      text = has.text;
      lines = split ∙ ap (λ ls. has.front ++ ls) first;
      ends = ends;
      out = holds;
    }

-- a line that was read stops it
read_stops : (questions : Bool) (from : Execution) (front : List (List ℕ)) (text line : List ℕ)
    (stop : Stop) (known next : Option (List ℕ)) → ReadsLine known next line →
    EndsFrom questions from front text line stop → StopsThere questions from front text stop known
read_stops questions from front text line stop None next reads ends = tt
read_stops questions from front text line stop (Some bytes) next (rest, is, first) ends =
    (line, lines_of rest, first, ends)

-- a line that is too long stops it
long_stops : {questions : Bool} {from : Execution} {old left before out : Option (List ℕ)}
    {execution : Execution} {count : ℕ} (known : Option (List ℕ)) →
    (has : HasAnswered questions from old left before out execution count) →
    HasLongLine known MOST_LINE_BYTES → StopsThere questions from has.front has.text
    (Script (Line (number_behind (length has.front)) TooLong)) known
long_stops {questions} {from} {old} {left} {before} {out} {execution} {count} None has long = tt
long_stops {questions} {from} {old} {left} {before} {out} {execution} {count} (Some bytes) has (line, more, first, is) =
    (line, more, first, ends_faulty questions line TooLong has.starts has.small has.each (is_long questions line is))

-- what a reader of lines answers of the next one, which has this number, where it isn't had
pub no_line : (known : Option (List ℕ)) (number : ℕ) (fault : InputFault) (stop : Stop) →
    (fault ≡ input.TooLong → HasLongLine known MOST_LINE_BYTES) →
    stop ≡ input_stop (Script (Line number TooLong)) fault → NoLine known number stop
no_line known number input.TooLong stop long is = NoLine.too_long is (long refl)
no_line known number input.Reader stop long is = NoLine.read is
no_line known number input.NoMemory stop long is = NoLine.no_memory is

-- and where the reader failed, the line isn't too long
pub not_long : (number : ℕ) (fault : InputFault) → input_stop (Script (Line number TooLong)) fault ≡ Read →
    fault ≡ input.TooLong → ⊥
not_long number fault read long = let bad : ⊥ = cc in bad

-- the lines before are answered, if the stop refuses a line
abbrev pub Refused : Bool → Execution → Option (List ℕ) → (List ℕ → Type 0) → Stop → Type 0
Refused questions from old P stop =
    IfRunRefusal stop (AnsweredBefore (EndsFrom questions from) old stop P)

-- the next line is too long, or couldn't be had
pub refused_line : {questions : Bool} {from : Execution} {old left before out : Option (List ℕ)}
    {execution : Execution} {count number : ℕ} {stop : Stop} (P : List ℕ → Type 0) →
    (has : HasAnswered questions from old left before out execution count) →
    number ≡ number_behind count → NoLine left number stop → P has.text →
    Refused questions from old P stop
refused_line {questions} {from} {old} {left} {before} {out} {execution} {count} {number} {stop} P has is (NoLine.too_long told long) holds =
    let told_is : stop ≡ Script (Line (number_behind (length has.front)) TooLong) =
    told ∙ ap (λ n. Script (Line n TooLong)) (is ∙ ap number_behind (sym has.counted)) in
    subst (Refused questions from old P) (sym told_is)
    (stops_before old (Script (Line (number_behind (length has.front)) TooLong)) P has (long_stops left has long) holds)
refused_line {questions} {from} {old} {left} {before} {out} {execution} {count} {number} {stop} P has is (NoLine.read told) holds =
    subst (Refused questions from old P) (sym told) tt
refused_line {questions} {from} {old} {left} {before} {out} {execution} {count} {number} {stop} P has is (NoLine.no_memory told) holds =
    subst (Refused questions from old P) (sym told) tt

-- a line that was read has no answer, or its answer isn't out whole
pub refused_answer : {questions : Bool} {from : Execution} {old left before out short : Option (List ℕ)}
    {execution now : Execution} {count number : ℕ} {stop : Stop} (line : List ℕ) (next : Option (List ℕ)) →
    HasAnswered questions from old left before out execution count → number ≡ number_behind count →
    ReadsLine left next line → NoAnswer questions execution now line number out short stop →
    Refused questions from old (Appends before short) stop
refused_answer {questions} {from} {old} {left} {before} {out} {short} {execution} {now} {count} {number} {stop} line next has is reads (NoAnswer.unanswered room fault none told keeps) =
    let here = answer_stop (number_behind (length has.front)) fault in
    let told_is : stop ≡ here =
    told ∙ ap (λ n. answer_stop n fault) (is ∙ ap number_behind (sym has.counted)) in
    subst (Refused questions from old (Appends before short)) (sym told_is)
    (refusal_weaker here
    (λ ends. stops_before old here (Appends before short) has
    (read_stops questions from has.front has.text line here left next reads ends)
    (Appends-kept before out short has.text has.written keeps))
    (ends_there questions now line room fault has.starts has.small has.each none))
refused_answer {questions} {from} {old} {left} {before} {out} {short} {execution} {now} {count} {number} {stop} line next has is reads (NoAnswer.short answer it told stops) =
    subst (Refused questions from old (Appends before short)) (sym told) tt

pub at_least : (old new : Option (List ℕ)) (text : List ℕ) → Appends old new text →
    AppendsAtLeast old new text
at_least old new text written = ([], subst (Appends old new) (sym (append-nil text)) written)

-- what is out where an answer isn't whole: all answers before it
pub still_out : {questions : Bool} {from : Execution} {old left before out short : Option (List ℕ)}
    {execution now : Execution} {line : List ℕ} {count number : ℕ} {stop : Stop} →
    (has : HasAnswered questions from old left before out execution count) →
    NoAnswer questions execution now line number out short stop →
    AppendsAtLeast before short has.text
still_out {questions} {from} {old} {left} {before} {out} {short} {execution} {now} {line} {count} {number} {stop} has (NoAnswer.unanswered room fault none told keeps) =
    at_least before short has.text (Appends-kept before out short has.text has.written keeps)
still_out {questions} {from} {old} {left} {before} {out} {short} {execution} {now} {line} {count} {number} {stop} has (NoAnswer.short answer it told stops) =
    let (front, rest, is, grown, some) = stops in
    (front, Appends-trans before out short has.text front has.written grown)

-- and where an allocation fails, nothing more
pub none_out : {questions : Bool} {from : Execution} {old left before out short : Option (List ℕ)}
    {execution now : Execution} {line : List ℕ} {count number : ℕ} {stop : Stop} →
    (has : HasAnswered questions from old left before out execution count) →
    NoAnswer questions execution now line number out short stop → stop ≡ NoMemory →
    Appends before short has.text
none_out {questions} {from} {old} {left} {before} {out} {short} {execution} {now} {line} {count} {number} {stop} has (NoAnswer.unanswered room fault none told keeps) is =
    Appends-kept before out short has.text has.written keeps
none_out {questions} {from} {old} {left} {before} {out} {short} {execution} {now} {line} {count} {number} {stop} has (NoAnswer.short answer it told stops) is =
    let bad : ⊥ = cc in absurd bad

-- some first lines are answered
pub first_answered : (questions : Bool) (from : Execution) (old left : Option (List ℕ))
    (front : List (List ℕ)) (text : List ℕ) (now : Execution) (P : List ℕ → Type 0) →
    AreRead old left front → Legal from.setup from.journal →
    AreAnswers questions from now front text → P text →
    FirstAnswered (AnswersFrom questions from) old P
first_answered questions from None left front text now P read legal each holds = tt
first_answered questions from (Some bytes) left front text now P (rest, is, split) legal each holds = record {
  front = front;
  more = lines_of rest;
  text = text;
  lines = split;
  answered = answers_from questions legal each;
  out = holds;
}

-- a line that has no answer stops it neither by a read fault nor by a write fault
abbrev IsAnswerStop : Stop → Type 0
IsAnswerStop (Script fault) = Unit {0}
IsAnswerStop JournalFull = Unit {0}
IsAnswerStop NoMemory = Unit {0}
IsAnswerStop _ = ⊥

answers_own : (number : ℕ) (fault : AnswerFault) → IsAnswerStop (answer_stop number fault) × IsRunStop (answer_stop number fault)
answers_own number (answer.Line fault) = (tt, tt)
answers_own number answer.JournalFull = (tt, tt)
answers_own number answer.NoMemory = (tt, tt)
answers_own number answer.Unwritten = (tt, tt)

-- an answer isn't out whole
pub answer_short : {questions : Bool} {from : Execution} {old left before out short : Option (List ℕ)}
    {execution now : Execution} {count number : ℕ} {stop : Stop} (line : List ℕ) (next : Option (List ℕ)) →
    HasAnswered questions from old left before out execution count → ReadsLine left next line →
    NoAnswer questions execution now line number out short stop → stop ≡ Write →
    FirstAnswered (AnswersFrom questions from) old (AppendsProperPrefix before short)
answer_short {questions} {from} {old} {left} {before} {out} {short} {execution} {now} {count} {number} {stop} line next has reads (NoAnswer.unanswered room fault none told keeps) is =
    absurd (subst IsAnswerStop (sym told ∙ is) (answers_own number fault).0)
answer_short {questions} {from} {old} {left} {before} {out} {short} {execution} {now} {count} {number} {stop} line next has reads (NoAnswer.short answer it told stops) is =
    first_answered questions from old next (has.front ++ line ∷ []) (has.text ++ answer) now (AppendsProperPrefix before short)
    (one_read old left next has.front line has.read reads) has.starts (AreAnswers.more line answer has.each it)
    (short_behind before out short has.text answer has.written stops)

pub no_answer_read : {questions : Bool} {execution now : Execution} {line : List ℕ} {number : ℕ}
    {out short : Option (List ℕ)} {stop : Stop} →
    NoAnswer questions execution now line number out short stop → stop ≡ Read → ⊥
no_answer_read {questions} {execution} {now} {line} {number} {out} {short} {stop} (NoAnswer.unanswered room fault none told keeps) is =
    subst IsAnswerStop (sym told ∙ is) (answers_own number fault).0
no_answer_read {questions} {execution} {now} {line} {number} {out} {short} {stop} (NoAnswer.short answer it told stops) is =
    let bad : ⊥ = cc in bad

pub no_answer_own : {questions : Bool} {execution now : Execution} {line : List ℕ} {number : ℕ}
    {out short : Option (List ℕ)} {stop : Stop} →
    NoAnswer questions execution now line number out short stop → IsRunStop stop
no_answer_own {questions} {execution} {now} {line} {number} {out} {short} {stop} (NoAnswer.unanswered room fault none told keeps) =
    subst IsRunStop (sym told) (answers_own number fault).1
no_answer_own {questions} {execution} {now} {line} {number} {out} {short} {stop} (NoAnswer.short answer it told stops) =
    subst IsRunStop (sym told) tt

pub no_line_write : {known : Option (List ℕ)} {number : ℕ} {stop : Stop} →
    NoLine known number stop → stop ≡ Write → ⊥
no_line_write {known} {number} {stop} (NoLine.too_long told long) is = let bad : ⊥ = cc in bad
no_line_write {known} {number} {stop} (NoLine.read told) is = let bad : ⊥ = cc in bad
no_line_write {known} {number} {stop} (NoLine.no_memory told) is = let bad : ⊥ = cc in bad

pub no_line_own : {known : Option (List ℕ)} {number : ℕ} {stop : Stop} →
    NoLine known number stop → IsRunStop stop
no_line_own {known} {number} {stop} (NoLine.too_long told long) = subst IsRunStop (sym told) tt
no_line_own {known} {number} {stop} (NoLine.read told) = subst IsRunStop (sym told) tt
no_line_own {known} {number} {stop} (NoLine.no_memory told) = subst IsRunStop (sym told) tt

-- one result has one stop
pub same_stop : (result : Result Bool Stop) (stop other : Stop) → result ≡ Err stop →
    result ≡ Err other → stop ≡ other
same_stop result stop other is also = cc
