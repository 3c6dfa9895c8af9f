-- lines that say something, and the first that doesn't
use Rattle.std.proofs.Common.{◌≡◌, ◌≢◌, ◌∙◌, ◌<◌, ◌≤◌, ◌+◌, ℕ, List, [], ◌∷◌, ◌++◌, length, Option, Some, None, refl, sym, ap, subst}
use Rattle.std.specs.Prelude.{Result, Ok, Err, IfErr, IfSome}
use Rattle.std.proofs.lemmas.List.{append-nil, append_assoc}
use Rattle.fy_decide.specs.DeadBook.{Losses}
use Rattle.fy_decide.specs.declared.dead_book.MakeFault.{MakeFault}
use Rattle.fy_decide.specs.declared.dead_book.MakeFault.TheVariants.{Unmet, NoMemory}
use Rattle.fy_lines.specs.Lines.{lines_of}
use Rattle.fy_judge.specs.declared.stop.JudgeFault.{JudgeFault}
use Rattle.fy_judge.specs.declared.stop.JudgeStop.TheVariants.{TooLong, Line, Read as StopRead, Write as StopWrite}
use Rattle.fy_judge.specs.declared.input.TakeFault.{TakeFault}
use Rattle.fy_judge.specs.declared.input.TakeFault.TheVariants.{Fault, NoMemory as LineNoMemory}
use Rattle.fy_lines.specs.declared.input.InputFault.{InputFault}
use Rattle.fy_lines.specs.declared.input.InputFault.TheVariants as input
use Rattle.fy_judge.specs.JudgeViews.{IfFault, line_stop_of, input_stop_of}
use Rattle.fy_decide.specs.Safety.{first_unmet}
use Rattle.fy_judge.specs.JudgeLines.{Input, empty_input, parse_line, Step, FollowLines}
use Rattle.fy_judge.specs.declared.judge.TheConstants.{MOST_JUDGE_BYTES}
use Rattle.fy_judge.specs.JudgeTexts.{IsFaultless, Judges, too_long, line_fault, policy_unmet, IfJudgeRefusal, unmet_stop}

-- one line more
pub FollowLines-push : (i : Input) (lines : List (List ℕ)) (j : Input) (line : List ℕ) (k : Input) → FollowLines i lines j → Step j (parse_line line) (Ok k) → FollowLines i (lines ++ line ∷ []) k
FollowLines-push i [] j line k same step = (k, subst (λ x. Step x (parse_line line) (Ok k)) (sym same) step, refl)
FollowLines-push i (l ∷ ls) j line k said step = (said.0, said.1, FollowLines-push said.0 ls j line k said.2 step)

pub split-push : (bytes : List ℕ) (good : List (List ℕ)) (rest line next : List ℕ) → lines_of bytes ≡ good ++ lines_of rest → lines_of rest ≡ line ∷ lines_of next → lines_of bytes ≡ (good ++ line ∷ []) ++ lines_of next
split-push bytes good rest line next split first = split ∙ ap (λ ls. good ++ ls) first ∙ sym (append_assoc good (line ∷ []) (lines_of next))

-- the first faulty line
pub first_fault : (bytes : List ℕ) (good : List (List ℕ)) (input : Input) (rest line next : List ℕ) (n : ℕ) (fault : JudgeFault) → length bytes ≤ MOST_JUDGE_BYTES → lines_of bytes ≡ good ++ lines_of rest → lines_of rest ≡ line ∷ lines_of next → FollowLines empty_input good input
    → n ≡ length good → Step input (parse_line line) (Err fault) → Judges bytes (Err (Line (n + 1) fault))
first_fault bytes good input rest line next n fault short split first said count step = line_fault (n + 1) fault short (record {
  good = good;
  bad = line;
  more = lines_of next;
  input = input;
  lines = split ∙ ap (λ ls. good ++ ls) first;
  said = said;
  at_fault = step;
  number = ap (λ k. k + 1) count;
})

-- the end of the lines
pub faultless : (bytes : List ℕ) (good : List (List ℕ)) (rest : List ℕ) (input : Input) → length bytes ≤ MOST_JUDGE_BYTES → lines_of bytes ≡ good ++ lines_of rest → rest ≡ [] → FollowLines empty_input good input → IsFaultless bytes input
faultless bytes good rest input short split done said = record {
  short = short;
  said = subst (λ ls. FollowLines empty_input ls input) (sym (split ∙ ap (λ r. good ++ lines_of r) done ∙ append-nil good)) said;
}

-- what an answer of DeadBook::make says of the policies
module _ (o : Option ℕ) (r : Result Losses MakeFault) (refused : (k : ℕ) → o ≡ Some k → r ≡ Err (Unmet k)) (memory : o ≡ None → IfErr r (λ f. f ≡ NoMemory)) where
  pub all_met : (b : Losses) → r ≡ Ok b → o ≡ None
  all_met b ok = go o refl
    where
      go : (x : Option ℕ) → o ≡ x → o ≡ None
      go None is = is
      go (Some k) is = let e : r ≡ Err (Unmet k) = refused k is in absurd (let y : ⊥ = cc in y)

  pub unmet_at : (k : ℕ) → r ≡ Err (Unmet k) → o ≡ Some k
  unmet_at k err = go o refl
    where
      go : (x : Option ℕ) → o ≡ x → o ≡ Some k
      go None is = let f : Unmet k ≡ NoMemory = subst (λ x. IfErr x (λ f. f ≡ NoMemory)) err (memory is) in absurd (let y : ⊥ = cc in y)
      go (Some j) is = let e : r ≡ Err (Unmet j) = refused j is in is ∙ ap Some (let same : j ≡ k = cc in same)

-- the stop for a line that is not taken is the refusal of the bytes
pub line_refused : (bytes : List ℕ) (good : List (List ℕ)) (input : Input) (rest line next : List ℕ) (n : ℕ) (f : TakeFault) → length bytes ≤ MOST_JUDGE_BYTES → lines_of bytes ≡ good ++ lines_of rest → lines_of rest ≡ line ∷ lines_of next → FollowLines empty_input good input
    → n ≡ length good → IfFault f (λ fault. Step input (parse_line line) (Err fault)) → IfJudgeRefusal (line_stop_of (n + 1) f) (Judges bytes (Err (line_stop_of (n + 1) f)))
line_refused bytes good input rest line next n (Fault fault) short split first said count step = first_fault bytes good input rest line next n fault short split first said count step
line_refused bytes good input rest line next n LineNoMemory short split first said count step = tt

-- it is no fault of a reader or a writer
pub line_stop-other : (n : ℕ) (f : TakeFault) → (line_stop_of n f ≢ StopRead) × (line_stop_of n f ≢ StopWrite)
line_stop-other n (Fault fault) = (λ e. let x : ⊥ = cc in x, λ e. let x : ⊥ = cc in x)
line_stop-other n LineNoMemory = (λ e. let x : ⊥ = cc in x, λ e. let x : ⊥ = cc in x)

-- the refusal for a policy that isn't met
pub unmet_refused : (f : MakeFault) (i : Input) (r : Result Losses MakeFault) → ((k : ℕ) → first_unmet i.processes i.policies ≡ Some k → r ≡ Err (Unmet k)) → (first_unmet i.processes i.policies ≡ None → IfErr r (λ f. f ≡ NoMemory)) → r ≡ Err f
    → (bytes : List ℕ) → IsFaultless bytes i → IfJudgeRefusal (unmet_stop f) (Judges bytes (Err (unmet_stop f)))
unmet_refused (Unmet k) i r refused memory is bytes faultless = policy_unmet i k faultless (unmet_at (first_unmet i.processes i.policies) r refused memory k is)
unmet_refused NoMemory i r refused memory is bytes faultless = tt

-- too many known bytes are refused
pub known_long : (o : Option (List ℕ)) → IfSome o (λ xs. MOST_JUDGE_BYTES < length xs) → IfSome o (λ xs. Judges xs (Err TooLong))
known_long None h = tt
known_long (Some xs) h = too_long h

-- the stop for an input that is not read whole is its refusal
pub input_refused : (o : Option (List ℕ)) (fault : InputFault)
    → (fault ≡ input.TooLong → IfSome o (λ xs. MOST_JUDGE_BYTES < length xs))
    → IfJudgeRefusal (input_stop_of fault) (IfSome o (λ xs. Judges xs (Err (input_stop_of fault))))
input_refused o input.TooLong long = known_long o (long refl)
input_refused o input.Reader long = tt
input_refused o input.NoMemory long = tt
