-- a history that is being read: which of its lines were taken
use Rattle.std.proofs.Common.{◌≡◌, ◌≤◌, ◌<◌, ◌+◌, ◌∙◌, ◌⊎◌, inl, inr, ℕ, List, [], ◌∷◌, ◌++◌, length, Option, None, Some, IfSome, Result, Ok, Err, refl, sym, ap, subst, arith, append_assoc, append-nil, length-append}
use Rattle.std.specs.Io.KnownBytes.{IsAtEnd}
use Rattle.fy_lines.specs.Lines.{lines_of}
use Rattle.fy_lines.specs.Readings.{ReadsLine}
use Rattle.fy_history.specs.Histories.{LineOf, AreLines, none, one_more, IsFaulty, too_long, other, FirstFaulty, IsRead, TellsLine, NoLine, IsRefused}
use Rattle.fy_history.specs.Progress.{State, at_first, IsHistoryOf}
use Rattle.fy_history.specs.declared.TheConstants.{MOST_HISTORY_LINES, MOST_HISTORY_LINE_BYTES}
use Rattle.fy_history.specs.declared.fault.HistoryFault.{HistoryFault}
use Rattle.fy_history.specs.declared.fault.HistoryFault.TheVariants.{TooLong}
use Rattle.fy_history.specs.declared.fault.HistoryStop.{HistoryStop}
use Rattle.fy_history.specs.declared.fault.HistoryStop.TheVariants.{Line, Reader, NoMemory}
use Rattle.fy_history.specs.declared.history.History.{History}
use Rattle.fy_history.specs.declared.progress.Known.{Known}

-- of known bytes these lines were taken, and no byte behind them was read
pub record Taken (known : Known) (bytes : List ℕ) (left : Option (List ℕ)) (s : State) : Type 0
  where
    pub done : List (List ℕ)
    pub rest : List ℕ
    pub is : left ≡ Some rest
    pub split : lines_of bytes ≡ done ++ lines_of rest
    pub lines : AreLines known done s
    pub count : s.lines ≡ length done

abbrev pub HasTaken : Known → (old left : Option (List ℕ)) → State → Type 0
HasTaken known old left s = IfSome old (λ bytes. Taken known bytes left s)

-- nothing is read yet
pub opens : (known : Known) (old : Option (List ℕ)) → HasTaken known old old at_first
opens known None = tt
opens known (Some bytes) = record {
  done = [];
  rest = bytes;
  is = refl;
  split = refl;
  lines = none;
  count = refl;
}

-- the next line was taken
pub goes_on : (known : Known) (old left next : Option (List ℕ)) (s now : State) (line : List ℕ)
    → HasTaken known old left s → ReadsLine left next line
    → length line ≤ MOST_HISTORY_LINE_BYTES → s.lines < MOST_HISTORY_LINES
    → LineOf known s line (Ok now) → now.lines ≡ s.lines + 1 → HasTaken known old next now
goes_on known None left next s now line taken reads short few is count = tt
goes_on known (Some bytes) left next s now line taken reads short few is count =
    let read = subst (λ o. ReadsLine o next line) taken.is reads in
    record {
      done = taken.done ++ line ∷ [];
      rest = read.0;
      is = read.1;
      split =
          taken.split ∙ ap (λ (lines : List (List ℕ)). taken.done ++ lines) read.2
          ∙ sym (append_assoc taken.done (line ∷ []) (lines_of read.0));
      lines = one_more taken.done s now line taken.lines short
          (subst (λ (n : ℕ). n < MOST_HISTORY_LINES) taken.count few) is;
      count = omega (arith, length-append taken.done (line ∷ []), taken.count, count);
    }

-- all lines were taken
pub ends : (known : Known) (old left : Option (List ℕ)) (s : State) (history : History)
    → HasTaken known old left s → IsAtEnd left → IsHistoryOf s history
    → IfSome old (λ bytes. IsRead known bytes history)
ends known None left s history taken end says = tt
ends known (Some bytes) left s history taken end says =
    let over : taken.rest ≡ [] = subst IsAtEnd taken.is end in
    let all : lines_of bytes ≡ taken.done =
    taken.split ∙ ap (λ (rest : List ℕ). taken.done ++ lines_of rest) over
    ∙ append-nil taken.done in
    record {
      s = s;
      lines = subst (λ lines. AreLines known lines s) (sym all) taken.lines;
      says = says;
    }

-- the next line is too long
pub no_line : (known : Known) (old left : Option (List ℕ)) (s : State) (stop : HistoryStop)
    → HasTaken known old left s → NoLine left (s.lines + 1) stop
    → IfSome old (λ bytes. TellsLine known bytes stop)
no_line known None left s stop taken why_not = tt
no_line known (Some bytes) left s Reader taken why_not = tt
no_line known (Some bytes) left s NoMemory taken why_not = tt
no_line known (Some bytes) left s (Line number why) taken why_not =
    let long = subst (λ o. NoLine o (s.lines + 1) (Line number why)) taken.is why_not in
    let found = long.2 in
    record {
      before = taken.done;
      s = s;
      line = found.0;
      after = found.1;
      split = taken.split ∙ ap (λ (lines : List (List ℕ)). taken.done ++ lines) found.2;
      faultless = taken.lines;
      place = omega (arith, long.0, taken.count);
      here = subst (λ f. IsFaulty known taken.done s found.0 f) (sym long.1)
          (too_long (inl found.3));
    }

-- the next line isn't taken
pub refused : (known : Known) (old left next : Option (List ℕ)) (s : State) (line : List ℕ)
    (stop : HistoryStop) → HasTaken known old left s → ReadsLine left next line
    → length line ≤ MOST_HISTORY_LINE_BYTES → IsRefused known s line stop
    → IfSome old (λ bytes. TellsLine known bytes stop)
refused known None left next s line stop taken reads short why_not = tt
refused known (Some bytes) left next s line Reader taken reads short why_not = absurd why_not
refused known (Some bytes) left next s line NoMemory taken reads short why_not = tt
refused known (Some bytes) left next s line (Line number why) taken reads short why_not =
    let read = subst (λ o. ReadsLine o next line) taken.is reads in
    record {
      before = taken.done;
      s = s;
      line = line;
      after = lines_of read.0;
      split = taken.split ∙ ap (λ (lines : List (List ℕ)). taken.done ++ lines) read.2;
      faultless = taken.lines;
      place = omega (arith, why_not.0, taken.count);
      here = by why_not.1;
    }
  where
    by : ((why ≡ TooLong) × (s.lines ≡ MOST_HISTORY_LINES))
        ⊎ ((s.lines < MOST_HISTORY_LINES) × LineOf known s line (Err why))
        → IsFaulty known taken.done s line why
    by (inl full) = subst (λ f. IsFaulty known taken.done s line f) (sym full.0)
        (too_long (inr (omega (arith, full.1, taken.count))))
    by (inr faulty) = other why short (omega (arith, faulty.0, taken.count)) faulty.1
