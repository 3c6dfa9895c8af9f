-- the header before the answers
use Rattle.std.proofs.Common.{arith, Bool, true, false, ◌≡◌, ℕ, List, [], ◌++◌, length, refl, sym, subst, append_assoc, append-nil, Option, Some, None}
use Rattle.std.specs.Prelude.{IfSome}
use Rattle.std.specs.Io.KnownBytes.{Appends}
use Rattle.std.proofs.KnownBytes.{Appends-trans}
use Rattle.fy_lines.specs.Lines.{lines_of}
use Rattle.fy_lines.specs.Prefixes.{AppendsProperPrefix}
use Rattle.fy_acts.specs.declared.version.Version.TheVariants.{Second}
use Rattle.fy_audit.specs.AuditText.{header}
use Rattle.fy_cluster.specs.Setup.{Setup}
use Rattle.fy_cluster.specs.Execution.{Execution, opened}
use Rattle.fy_run.specs.RunTexts.{IfRunRefusal}
use Rattle.fy_run.proofs.Gathering.{short_behind}
use Rattle.fy_guard.specs.GuardTexts.{AllAnswered, AnsweredBefore, AppendsAtLeast, AreInTurn, FirstAnswered, StopsAtLine, room_in}
use Rattle.fy_guard.specs.AskedTexts.{Answers, AnswersFrom, AreAnswers, Ends, EndsFrom}
use Rattle.fy_guard.proofs.Made.{audited}
use Rattle.fy_guard.proofs.Guarding.{Refused, answers_from, refusal_weaker}
use Rattle.fy_streams.specs.declared.stop.Stop.{Stop}

-- what is answered on a new cluster, behind the header
answers_behind : (questions : Bool) (setup : Setup) (from : Execution) → from ≡ opened setup →
    (lines : List (List ℕ)) (text : List ℕ) → AnswersFrom questions from lines text →
    Answers questions setup lines (header Second ++ text)
answers_behind true setup from same lines text it =
    (text, subst (λ f. AnswersFrom true f lines text) same it, refl)
answers_behind false setup from same lines text it =
    audited setup lines text (subst (λ f. AnswersFrom false f lines text) same it)

-- and why it stops there
ends_behind : (questions : Bool) (setup : Setup) (from : Execution) → from ≡ opened setup →
    (front : List (List ℕ)) (text line : List ℕ) (stop : Stop) →
    EndsFrom questions from front text line stop →
    Ends questions setup front (header Second ++ text) line stop
ends_behind true setup from same front text line stop it =
    (text, subst (λ f. EndsFrom true f front text line stop) same it, refl)
ends_behind false setup from same front text line stop it =
    let ends = subst (λ f. EndsFrom false f front text line stop) same it in
    let room : room_in (opened setup) ≡ setup.limit = omega arith in (
      audited setup front text ends.0,
      subst (λ r. StopsAtLine r (length front) line stop) room ends.1,
    )

-- what holds of a text behind the header, by what holds of the text
abbrev pub Headed : (List ℕ → Type 0) → (List ℕ → Type 0) → Type 0
Headed P Q = (text : List ℕ) → P text → Q (header Second ++ text)

pub all_headed : (questions : Bool) (setup : Setup) (from : Execution) → from ≡ opened setup →
    (known : Option (List ℕ)) (P Q : List ℕ → Type 0) → Headed P Q →
    AllAnswered (AnswersFrom questions from) known P → AllAnswered (Answers questions setup) known Q
all_headed questions setup from same None P Q headed all = tt
all_headed questions setup from same (Some bytes) P Q headed (text, it, holds) =
    (header Second ++ text, answers_behind questions setup from same (lines_of bytes) text it, headed text holds)

each_headed : (questions : Bool) (setup : Setup) (from : Execution) → from ≡ opened setup →
    (known : Option (List ℕ)) (stop : Stop) (P Q : List ℕ → Type 0) → Headed P Q →
    AnsweredBefore (EndsFrom questions from) known stop P →
    AnsweredBefore (Ends questions setup) known stop Q
each_headed questions setup from same None stop P Q headed before = tt
each_headed questions setup from same (Some bytes) stop P Q headed before = record {
  front = before.front;
  line = before.line;
  more = before.more;
  text = header Second ++ before.text;
  lines = before.lines;
  ends = ends_behind questions setup from same before.front before.text before.line stop before.ends;
  out = headed before.text before.out;
}

pub before_headed : (questions : Bool) (setup : Setup) (from : Execution) → from ≡ opened setup →
    (known : Option (List ℕ)) (stop : Stop) (P Q : List ℕ → Type 0) → Headed P Q →
    Refused questions from known P stop →
    IfRunRefusal stop (AnsweredBefore (Ends questions setup) known stop Q)
before_headed questions setup from same known stop P Q headed =
    refusal_weaker stop (each_headed questions setup from same known stop P Q headed)

pub some_headed : (questions : Bool) (setup : Setup) (from : Execution) → from ≡ opened setup →
    (known : Option (List ℕ)) (P Q : List ℕ → Type 0) → Headed P Q →
    FirstAnswered (AnswersFrom questions from) known P →
    FirstAnswered (Answers questions setup) known Q
some_headed questions setup from same None P Q headed first = tt
some_headed questions setup from same (Some bytes) P Q headed first = record {
  front = first.front;
  more = first.more;
  text = header Second ++ first.text;
  lines = first.lines;
  answered = answers_behind questions setup from same first.front first.text first.answered;
  out = headed first.text first.out;
}

pub turn_headed : (questions : Bool) (setup : Setup) (from : Execution) → from ≡ opened setup →
    (Reads : Option (List ℕ) → Option (List ℕ) → Type 0) (known left : Option (List ℕ))
    (P Q : List ℕ → Type 0) → Headed P Q →
    IfSome known (λ bytes. AreInTurn (AnswersFrom questions from) Reads bytes left P) →
    IfSome known (λ bytes. AreInTurn (Answers questions setup) Reads bytes left Q)
turn_headed questions setup from same Reads None left P Q headed turn = tt
turn_headed questions setup from same Reads (Some bytes) left P Q headed turn = record {
  front = turn.front;
  rest = turn.rest;
  text = header Second ++ turn.text;
  lines = turn.lines;
  within = turn.within;
  answered = answers_behind questions setup from same turn.front turn.text turn.answered;
  out = headed turn.text turn.out;
}

-- the header isn't out whole
pub header_short : (questions : Bool) (setup : Setup) (known before short : Option (List ℕ)) →
    AppendsProperPrefix before short (header Second) →
    FirstAnswered (Answers questions setup) known (AppendsProperPrefix before short)
header_short questions setup None before short stops = tt
header_short questions setup (Some bytes) before short stops = record {
  front = [];
  more = lines_of bytes;
  text = header Second ++ [];
  lines = refl;
  answered = answers_behind questions setup (opened setup) refl [] []
      (answers_from questions {from = opened setup} {now = opened setup} {lines = []} {text = []}
      (omega arith, tt) AreAnswers.nothing);
  out = subst (AppendsProperPrefix before short) (sym (append-nil (header Second))) stops;
}

pub appends_headed : (first second third : Option (List ℕ)) → Appends first second (header Second) →
    Headed (Appends second third) (Appends first third)
appends_headed first second third head text written =
    Appends-trans first second third (header Second) text head written

pub at_least_headed : (first second third : Option (List ℕ)) → Appends first second (header Second) →
    Headed (AppendsAtLeast second third) (AppendsAtLeast first third)
at_least_headed first second third head text (more, written) = (
  more,
  subst (Appends first third) (sym (append_assoc (header Second) text more))
      (Appends-trans first second third (header Second) (text ++ more) head written),
)

pub short_headed : (first second third : Option (List ℕ)) → Appends first second (header Second) →
    Headed (AppendsProperPrefix second third) (AppendsProperPrefix first third)
short_headed first second third head text stops = short_behind first second third (header Second) text head stops
