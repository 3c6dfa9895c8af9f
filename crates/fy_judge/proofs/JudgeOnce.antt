-- bytes have one answer
use Rattle.std.proofs.Common.{◌≡◌, ◌∙◌, ◌+◌, ◌<◌, ◌≤◌, zero, suc, ℕ, List, [], ◌∷◌, ◌++◌, length, Option, Some, None, refl, sym, ap, subst, arith}
use Rattle.std.specs.Prelude.{Result, Ok, Err}
use Rattle.fy_decide.specs.Safety.{first_unmet}
use Rattle.fy_lines.specs.Lines.{lines_of}
use Rattle.fy_judge.specs.declared.stop.JudgeFault.{JudgeFault}
use Rattle.fy_judge.specs.declared.stop.JudgeFault.TheVariants.{PolicyUnmet}
use Rattle.fy_judge.specs.declared.stop.JudgeStop.{JudgeStop}
use Rattle.fy_judge.specs.declared.stop.JudgeStop.TheVariants.{TooLong, Line}
use Rattle.fy_judge.specs.JudgeLines.{Input, empty_input, parse_line, Step, FollowLines}
use Rattle.fy_judge.specs.declared.judge.TheConstants.{MOST_JUDGE_BYTES}
use Rattle.fy_judge.specs.JudgeTexts.{FirstFault, IsFaultless, Judges, too_long, line_fault, policy_unmet, answered, answers_text, TextIsOne}
use Rattle.fy_judge.proofs.StepOnce.{NamesOccur, ReadingSettled, Differ, Step-once, Differ-Step}

-- of these lines, so many are faultless, and the next has the fault
FaultsAt : Input → List (List ℕ) → ℕ → JudgeFault → Type 0
FaultsAt i [] n fault = ⊥
FaultsAt i (line ∷ lines) zero fault = Step i (parse_line line) (Err fault)
FaultsAt i (line ∷ lines) (suc n) fault = (j : Input) × Step i (parse_line line) (Ok j) × FaultsAt j lines n fault

faults_at : (i : Input) (good : List (List ℕ)) (bad : List ℕ) (more : List (List ℕ)) (j : Input) (fault : JudgeFault) → FollowLines i good j → Step j (parse_line bad) (Err fault) → FaultsAt i (good ++ bad ∷ more) (length good) fault
unfolding FaultsAt
faults_at i [] bad more j fault said step = subst (λ k. Step k (parse_line bad) (Err fault)) (sym said) step
faults_at i (line ∷ good) bad more j fault said step = (said.0, said.1, faults_at said.0 good bad more j fault said.2 step)

first_faults_at : (bytes : List ℕ) (line : ℕ) (fault : JudgeFault) (first : FirstFault bytes line fault) → FaultsAt empty_input (lines_of bytes) (length first.good) fault
first_faults_at bytes line fault first =
    subst (λ lines. FaultsAt empty_input lines (length first.good) fault) (sym first.lines) (faults_at empty_input first.good first.bad first.more first.input fault first.said first.at_fault)

module _ (occur : NamesOccur) (settled : ReadingSettled) where
  next_once : (i : Input) → Differ i.processes → (line : List ℕ) (j k : Input) → Step i (parse_line line) (Ok j) → Step i (parse_line line) (Ok k) → j ≡ k
  next_once i differ line j k a b = let one : Ok j ≡ Ok k = Step-once settled i differ (parse_line line) (Ok j) (Ok k) a b in cc

  fault_once : (i : Input) → Differ i.processes → (line : List ℕ) (fault another : JudgeFault) → Step i (parse_line line) (Err fault) → Step i (parse_line line) (Err another) → fault ≡ another
  fault_once i differ line fault another a b = let one : Err fault ≡ Err another = Step-once settled i differ (parse_line line) (Err fault) (Err another) a b in cc

  next_or_fault : (i : Input) → Differ i.processes → (line : List ℕ) (j : Input) (fault : JudgeFault) → Step i (parse_line line) (Ok j) → Step i (parse_line line) (Err fault) → ⊥
  next_or_fault i differ line j fault a b = let one : Ok j ≡ Err fault = Step-once settled i differ (parse_line line) (Ok j) (Err fault) a b in cc

  -- faultless lines say one thing
  FollowLines-once : (i : Input) → Differ i.processes → (lines : List (List ℕ)) (j k : Input) → FollowLines i lines j → FollowLines i lines k → j ≡ k
  FollowLines-once i differ [] j k a b = sym a ∙ b
  FollowLines-once i differ (line ∷ lines) j k a b =
      FollowLines-once a.0 (Differ-Step occur i differ (parse_line line) a.0 a.1) lines j k a.2
      (subst (λ m. FollowLines m lines k) (next_once i differ line b.0 a.0 b.1 a.1) b.2)

  -- lines have one first fault, at one place
  FaultsAt-once : (i : Input) → Differ i.processes → (lines : List (List ℕ)) (n m : ℕ) (fault another : JudgeFault) → FaultsAt i lines n fault → FaultsAt i lines m another → (n ≡ m) × (fault ≡ another)
  unfolding FaultsAt
  FaultsAt-once i differ [] n m fault another a b = absurd a
  FaultsAt-once i differ (line ∷ lines) zero zero fault another a b = (refl, fault_once i differ line fault another a b)
  FaultsAt-once i differ (line ∷ lines) zero (suc m) fault another a b = absurd (next_or_fault i differ line b.0 fault b.1 a)
  FaultsAt-once i differ (line ∷ lines) (suc n) zero fault another a b = absurd (next_or_fault i differ line a.0 another a.1 b)
  FaultsAt-once i differ (line ∷ lines) (suc n) (suc m) fault another a b =
      let one = FaultsAt-once a.0 (Differ-Step occur i differ (parse_line line) a.0 a.1) lines n m fault another a.2
      (subst (λ j. FaultsAt j lines m another) (next_once i differ line b.0 a.0 b.1 a.1) b.2) in
      (ap suc one.0, one.1)

  -- lines with a fault aren't faultless
  faults_or_says : (i : Input) → Differ i.processes → (lines : List (List ℕ)) (n : ℕ) (fault : JudgeFault) (j : Input) → FaultsAt i lines n fault → FollowLines i lines j → ⊥
  unfolding FaultsAt
  faults_or_says i differ [] n fault j a b = a
  faults_or_says i differ (line ∷ lines) zero fault j a b = next_or_fault i differ line b.0 fault b.1 a
  faults_or_says i differ (line ∷ lines) (suc n) fault j a b =
      faults_or_says a.0 (Differ-Step occur i differ (parse_line line) a.0 a.1) lines n fault j a.2
      (subst (λ k. FollowLines k lines j) (next_once i differ line b.0 a.0 b.1 a.1) b.2)

  no_names : Differ empty_input.processes
  no_names p q id e f = absurd (let x : ⊥ = cc in x)

  one_input : (bytes : List ℕ) (i j : Input) → IsFaultless bytes i → IsFaultless bytes j → i ≡ j
  one_input bytes i j a b = FollowLines-once empty_input no_names (lines_of bytes) i j a.said b.said

  one_fault : (bytes : List ℕ) (line other : ℕ) (fault another : JudgeFault) → FirstFault bytes line fault → FirstFault bytes other another → (line ≡ other) × (fault ≡ another)
  one_fault bytes line other fault another a b =
      let one = FaultsAt-once empty_input no_names (lines_of bytes) (length a.good) (length b.good) fault another (first_faults_at bytes line fault a) (first_faults_at bytes other another b) in
      (a.number ∙ ap (λ n. n + 1) one.0 ∙ sym b.number, one.1)

  faulty_or_not : (bytes : List ℕ) (line : ℕ) (fault : JudgeFault) (i : Input) → FirstFault bytes line fault → IsFaultless bytes i → ⊥
  faulty_or_not bytes line fault i a b = faults_or_says empty_input no_names (lines_of bytes) (length a.good) fault i (first_faults_at bytes line fault a) b.said

  -- the answer to faultless lines, by the first policy that isn't met
  answer_by : Option ℕ → List ℕ → Result (List ℕ) JudgeStop
  answer_by None text = Ok text
  answer_by (Some k) text = Err (Line (k + 1) PolicyUnmet)

  -- bytes are too long, or have a first fault, or are faultless
  data JudgedBy (bytes : List ℕ) (x : Result (List ℕ) JudgeStop) : Type 0 where
    long : MOST_JUDGE_BYTES < length bytes → x ≡ Err TooLong → JudgedBy bytes x
    faulty : (line : ℕ) (fault : JudgeFault) → length bytes ≤ MOST_JUDGE_BYTES → FirstFault bytes line fault → x ≡ Err (Line line fault) → JudgedBy bytes x
    faultless : (i : Input) → IsFaultless bytes i → x ≡ answer_by (first_unmet i.processes i.policies) (answers_text i) → JudgedBy bytes x

  judged_by : (bytes : List ℕ) (x : Result (List ℕ) JudgeStop) → Judges bytes x → JudgedBy bytes x
  unfolding answer_by
  judged_by bytes x (too_long long_input) = long long_input refl
  judged_by bytes x (line_fault line fault short first) = faulty line fault short first refl
  judged_by bytes x (policy_unmet i k good unmet) = faultless i good (ap (λ o. answer_by o (answers_text i)) (sym unmet))
  judged_by bytes x (answered i good met) = faultless i good (ap (λ o. answer_by o (answers_text i)) (sym met))

  once : (bytes : List ℕ) (x y : Result (List ℕ) JudgeStop) → JudgedBy bytes x → JudgedBy bytes y → x ≡ y
  once bytes x y (long much e) (long also f) = e ∙ sym f
  once bytes x y (long much e) (faulty line fault short first f) = absurd (omega arith)
  once bytes x y (long much e) (faultless i good f) = absurd (let short : length bytes ≤ MOST_JUDGE_BYTES = good.short in omega arith)
  once bytes x y (faulty line fault short first e) (long much f) = absurd (omega arith)
  once bytes x y (faulty line fault short first e) (faulty other another also second f) =
      let one = one_fault bytes line other fault another first second in
      e ∙ (λ k. Err (Line (one.0 k) (one.1 k))) ∙ sym f
  once bytes x y (faulty line fault short first e) (faultless i good f) = absurd (faulty_or_not bytes line fault i first good)
  once bytes x y (faultless i good e) (long much f) = absurd (let short : length bytes ≤ MOST_JUDGE_BYTES = good.short in omega arith)
  once bytes x y (faultless i good e) (faulty line fault short first f) = absurd (faulty_or_not bytes line fault i first good)
  once bytes x y (faultless i good e) (faultless j also f) =
      e ∙ ap (λ (k : Input). answer_by (first_unmet k.processes k.policies) (answers_text k)) (one_input bytes i j good also) ∙ sym f

  pub judged_once : TextIsOne
  judged_once bytes x y a b = once bytes x y (judged_by bytes x a) (judged_by bytes y b)
