-- what the dead book keeps while the asks are answered
use Rattle.std.specs.Prelude.{◌≡◌, ℕ, List}
use Rattle.std.specs.FinSet as sets
use Rattle.fy_decide.specs.DeadBook.{Losses}
use Rattle.fy_judge.specs.declared.line.Ask.{Ask}
use Rattle.fy_judge.specs.JudgeLines.{Input}
use Rattle.fy_judge.specs.JudgeTexts.{destroyed_by, left_by}

-- the book has the losses of the asks that were answered yes
pub record RecordsGranted (i : Input) (granted : List Ask) (book : Losses) : Type 0 where
  pub processes : book.processes ≡ i.processes
  pub policies : book.policies ≡ i.policies
  pub destroyed : (p : ℕ) → sets.contains book.destroyed p ≡ destroyed_by granted p
  pub left : (p : ℕ) → sets.contains book.left p ≡ left_by i granted p
