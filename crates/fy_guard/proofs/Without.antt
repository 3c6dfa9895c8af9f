-- what is out less what is told
use Rattle.std.proofs.Common.{arith, ◌≡◌, ◌∙◌, ◌≤◌, ◌+◌, ℕ, Bool, true, false, not, if◌then◌else◌, List, [], ◌∷◌, ◌++◌, filter, take, length, bytes_eq, refl, sym, ap, subst, append_assoc, append-nil, length-append, codes}
use Rattle.std.proofs.lemmas.List.{take-append-le}
use Rattle.std.specs.List.{AllByRecursion}
use Rattle.fy_lines.specs.Lines.{IsLine, lines_of}
use Rattle.fy_lines.proofs.SplitLemmas.{lines_of_ended}
use Rattle.fy_acts.specs.declared.entry.Entry.{Entry}
use Rattle.fy_acts.specs.declared.version.Version.TheVariants.{Second}
use Rattle.fy_spelling.specs.Pieces.{entry_pieces}
use Rattle.fy_spelling.specs.Values.{text_of}
use Rattle.fy_spelling.proofs.Same.{bare_of, entry_same}
use Rattle.fy_audit.specs.AuditText.{header}
use Rattle.fy_cluster.specs.Execution.{Execution, next_entry, opened}
use Rattle.fy_asking.specs.ToldTexts.{told_head}
use Rattle.fy_answers.specs.Answers.{EndsLine, IsAnswered, IsAnsweredAsk, IsHandled}
use Rattle.fy_guard.specs.Cuts.{with_feeds}
use Rattle.fy_guard.specs.GuardTexts.{Answered, AnsweredFrom}
use Rattle.fy_guard.specs.AskedTexts.{ActsAlone, ActsAloneFrom, AreActsAmong, AreAnswers, is_told, without_told}
use Rattle.fy_guard.proofs.CutLemmas.{one_behind}
use Rattle.fy_guard.proofs.Made.{answered_from, audited, has_made}

-- a line that isn't told is kept
abbrev pub is_kept : List ℕ → Bool
is_kept line = not (is_told line)

-- ---- lines

all_and_one : (xs : List (List ℕ)) (x : List ℕ) → AllByRecursion IsLine xs → IsLine x →
    AllByRecursion IsLine (xs ++ x ∷ [])
all_and_one [] x each one = (one, tt)
all_and_one (y ∷ xs) x each one = (each.0, all_and_one xs x each.1 one)

lines_of_feeds : (xs : List (List ℕ)) → AllByRecursion IsLine xs → lines_of (with_feeds xs) ≡ xs
lines_of_feeds [] each = refl
lines_of_feeds (x ∷ xs) each =
    ap lines_of (append_assoc x (10 ∷ []) (with_feeds xs))
    ∙ lines_of_ended x (with_feeds xs) each.0
    ∙ ap (λ l. x ∷ l) (lines_of_feeds xs each.1)

-- what is kept of one line
abbrev kept_of : Bool → List ℕ → List (List ℕ)
kept_of kept line = if kept then line ∷ [] else []

kept_more : (xs : List (List ℕ)) (x : List ℕ) →
    filter is_kept (xs ++ x ∷ []) ≡ filter is_kept xs ++ kept_of (is_kept x) x
kept_more [] x = by (is_kept x)
  where
    by : (b : Bool) → (if b then x ∷ [] else []) ≡ kept_of b x
    by true = refl
    by false = refl
kept_more (y ∷ xs) x = by (is_kept y) (kept_more xs x)
  where
    by : (b : Bool) → filter is_kept (xs ++ x ∷ []) ≡ filter is_kept xs ++ kept_of (is_kept x) x →
        (if b then y ∷ filter is_kept (xs ++ x ∷ []) else filter is_kept (xs ++ x ∷ []))
        ≡ (if b then y ∷ filter is_kept xs else filter is_kept xs) ++ kept_of (is_kept x) x
    by true behind = ap (λ l. y ∷ l) behind
    by false behind = behind

-- ---- entries and what is told

-- the text of an entry begins by its act
begins_by_act : (entry : Entry) (rest text : List ℕ) → entry_pieces entry ≡ text_of entry →
    (tail : List ℕ) × (text_of entry ≡ 123 ∷ 34 ∷ 97 ∷ tail)
begins_by_act entry rest text same = (_, sym same)

-- what begins so isn't told
not_told : (line tail : List ℕ) → line ++ 10 ∷ [] ≡ (123 ∷ 34 ∷ 97 ∷ tail) ++ 10 ∷ [] → is_kept line ≡ true
not_told [] tail is = let no : ⊥ = cc in absurd no
not_told (a ∷ []) tail is = let no : ⊥ = cc in absurd no
not_told (a ∷ b ∷ []) tail is = let no : ⊥ = cc in absurd no
not_told (a ∷ b ∷ c ∷ more) tail is =
    let first : a ≡ 123 = cc in
    let second : b ≡ 34 = cc in
    let third : c ≡ 97 = cc in
    rw (first, second, third) refl

-- what begins as what is told does, with its feed, is told
told_is_told : (line body : List ℕ) → line ++ 10 ∷ [] ≡ (told_head ++ body) ++ 10 ∷ [] → is_kept line ≡ false
told_is_told line body is =
    let count : length line + 1 ≡ (8 + length body) + 1 =
    sym (length-append line (10 ∷ [])) ∙ ap length is ∙ length-append (told_head ++ body) (10 ∷ [])
    ∙ ap (λ n. n + 1) (length-append told_head body) in
    let long : 8 ≤ length line = omega (arith, count) in
    let front : take 8 line ≡ told_head =
    sym (take-append-le 8 line (10 ∷ []) long) ∙ ap (take 8) is in
    ap (λ l. not (bytes_eq l told_head)) front

-- ---- all lines

-- the acts among lines that were answered, and the answers to them alone
record AreAlone (from now : Execution) (lines : List (List ℕ)) (text : List ℕ) : Type 0 where
  pub acts : List (List ℕ)
  pub among : AreActsAmong lines acts
  pub answers : List (List ℕ)
  pub are_lines : AllByRecursion IsLine answers
  pub is : text ≡ with_feeds answers
  pub each : AreAnswers false from now acts (with_feeds (filter is_kept answers))

-- one text more
ends_more : (text answer line : List ℕ) (answers : List (List ℕ)) → text ≡ with_feeds answers →
    answer ≡ line ++ 10 ∷ [] → text ++ answer ≡ with_feeds (answers ++ line ∷ [])
ends_more text answer line answers is ends =
    ap (λ t. t ++ answer) is ∙ ap (λ l. with_feeds answers ++ l) ends ∙ sym (one_behind answers line)

act_more : (from mid new : Execution) (lines : List (List ℕ)) (text line answer : List ℕ) →
    AreAlone from mid lines text → IsAnswered mid new line answer → EndsLine answer →
    AreAlone from new (lines ++ line ∷ []) (text ++ answer)
act_more from mid new lines text line answer alone it (told, is_line, ends) =
    let command = it.command in
    let entry : Entry = next_entry mid command.by command.act in
    let begun = begins_by_act entry [] [] (entry_same entry (bare_of command.act it.asked.1.act)) in
    let kept : is_kept told ≡ true =
    not_told told begun.0 (sym ends ∙ it.entered.text_is ∙ ap (λ t. t ++ 10 ∷ []) begun.1) in
    let one : filter is_kept (alone.answers ++ told ∷ []) ≡ filter is_kept alone.answers ++ told ∷ [] =
    kept_more alone.answers told ∙ ap (λ b. filter is_kept alone.answers ++ kept_of b told) kept in
    record {
      acts = alone.acts ++ line ∷ [];
      among = AreActsAmong.act line command alone.among it.asked;
      answers = alone.answers ++ told ∷ [];
      are_lines = all_and_one alone.answers told alone.are_lines is_line;
      is = ends_more text answer told alone.answers alone.is ends;
      each = subst (AreAnswers false from new (alone.acts ++ line ∷ []))
          (ends_more _ answer told (filter is_kept alone.answers) refl ends ∙ ap with_feeds (sym one))
          (AreAnswers.more line answer alone.each it);
    }

ask_more : (from mid new : Execution) (lines : List (List ℕ)) (text line answer : List ℕ) →
    AreAlone from mid lines text → IsAnsweredAsk mid new line answer → EndsLine answer →
    AreAlone from new (lines ++ line ∷ []) (text ++ answer)
ask_more from mid new lines text line answer alone it (told, is_line, ends) =
    let (body, spelled, is) = it.spelled in
    let dropped : is_kept told ≡ false =
    told_is_told told (body ++ codes "}") (sym ends ∙ it.text_is ∙ ap (λ l. l ++ 10 ∷ []) is) in
    let none : filter is_kept (alone.answers ++ told ∷ []) ≡ filter is_kept alone.answers =
    kept_more alone.answers told ∙ ap (λ b. filter is_kept alone.answers ++ kept_of b told) dropped
    ∙ append-nil (filter is_kept alone.answers) in
    record {
      acts = alone.acts;
      among = AreActsAmong.question line it.question alone.among it.asked;
      answers = alone.answers ++ told ∷ [];
      are_lines = all_and_one alone.answers told alone.are_lines is_line;
      is = ends_more text answer told alone.answers alone.is ends;
      each = subst (λ now. AreAnswers false from now alone.acts (with_feeds (filter is_kept (alone.answers ++ told ∷ []))))
          (sym it.same)
          (subst (AreAnswers false from mid alone.acts) (ap with_feeds (sym none)) alone.each);
    }

alone_of : (from : Execution) {now : Execution} {lines : List (List ℕ)} {text : List ℕ} →
    AreAnswers true from now lines text → AreAlone from now lines text
alone_of from AreAnswers.nothing = record {
  acts = [];
  among = AreActsAmong.nothing;
  answers = [];
  are_lines = tt;
  is = refl;
  each = AreAnswers.nothing;
}
alone_of from (AreAnswers.more {mid} {new} {lines} {text} line answer before (IsHandled.acted it, ends)) =
    act_more from mid new lines text line answer (alone_of from before) it ends
alone_of from (AreAnswers.more {mid} {new} {lines} {text} line answer before (IsHandled.asked it, ends)) =
    ask_more from mid new lines text line answer (alone_of from before) it ends

pub acts_alone_from : ActsAloneFrom
acts_alone_from from lines text legal (now, each) =
    let alone = alone_of from each in
    let kept : without_told text ≡ with_feeds (filter is_kept alone.answers) =
    ap without_told alone.is
    ∙ ap (λ ls. with_feeds (filter is_kept ls)) (lines_of_feeds alone.answers alone.are_lines) in
    (alone.acts, alone.among, subst (AnsweredFrom from alone.acts) (sym kept) (answered_from (has_made from legal alone.each)))

pub acts_alone : ActsAlone
acts_alone setup lines text (rest, mixed, is) =
    let (acts, among, answered) = acts_alone_from (opened setup) lines rest (omega arith, tt) mixed in
    let kept : without_told text ≡ header Second ++ without_told rest = ap without_told is in
    (acts, among, subst (Answered setup acts) (sym kept) (audited setup acts (without_told rest) answered))
