-- who is lost after a history, and what is borne from there on
use Rattle.std.specs.Prelude.{◌≡◌, ℕ, ◌&&◌, nat_lt, length}
use Rattle.std.specs.FinSet as sets
use Rattle.fy_decide.specs.DeadBook.{Losses}
use Rattle.fy_tolerance.specs.Bears.{IsFindings}
use Rattle.fy_tolerance.specs.declared.book.LossesSoFar.{LossesSoFar}
use Rattle.fy_cluster.specs.Setup.{Setup}
use Rattle.fy_cluster.specs.History.{History, destroyed, gone, left}
use Rattle.fy_cluster.specs.Sights.{is_asleep}
use Rattle.fy_questions.specs.declared.told.Bearing.{Bearing}

-- the losses are those of a history: who is destroyed, who is gone, and who is neither up nor gone
pub record AreLossesNow (c : Setup) (h : History) (losses : LossesSoFar) : Type 0 where
  pub destroyed : (p : ℕ) → sets.contains losses.destroyed p ≡ destroyed h p
  pub gone : (p : ℕ) → sets.contains losses.gone p ≡ (nat_lt p (length c.processes) && gone h p)
  pub down : (p : ℕ) → sets.contains losses.down p ≡ is_asleep c h p

-- the book has exactly the destroyed of a history, and those left
pub record HasLostSoFar (c : Setup) (h : History) (dead : Losses) : Type 0 where
  pub processes_are : dead.processes ≡ c.processes
  pub policies_are : dead.policies ≡ c.policies
  pub destroyed : (p : ℕ) → sets.contains dead.destroyed p ≡ destroyed h p
  pub left : (p : ℕ) → sets.contains dead.left p ≡ left c h p

-- the losses after a history, and what the book of exactly these bears
pub record IsBearing (c : Setup) (h : History) (told : Bearing) : Type 0 where
  pub those : AreLossesNow c h told.before
  pub dead : Losses
  pub book : HasLostSoFar c h dead
  pub found : IsFindings dead told.findings
