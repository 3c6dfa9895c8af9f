-- how much of the cluster may still be lost, as a guard's journal left it
use Rattle.std.specs.Prelude.{◌≡◌, ℕ, ◌+◌, ◌≤◌, Bool, ◌&&◌, ◌==◌, List, length}
use Rattle.std.specs.FinSet as sets
use Rattle.std.specs.List.{AllZip, list_any}
use Rattle.fy_policy.specs.Counted.{number_of}
use Rattle.fy_decide.specs.declared.dead_book.Loss.{Loss}
use Rattle.fy_decide.specs.declared.dead_book.Loss.TheVariants.{Emptied, Gone}
use Rattle.fy_decide.specs.DeadBook.{Losses, MayLose}
use Rattle.fy_tolerance.specs.Bears.{IsTolerance, least_any}
use Rattle.fy_tolerance.specs.declared.tolerance.Tolerance.{Tolerance}
use Rattle.fy_cluster.specs.Execution.{Execution}
use Rattle.fy_c.specs.Numbers.{bit}
use Rattle.fy_c.specs.Sets.{destroyed_in, left_in}
use Rattle.fy_c.specs.declared.bearing.FyBorne.{FyBorne}
use Rattle.fy_c.specs.declared.status.Status.{Status}
use Rattle.fy_c.specs.declared.status.Status.TheVariants.{Done, NoMemory}

-- the book has exactly those destroyed and those left, as the journal left them
pub record IsBookNow (execution : Execution) (dead : Losses) : Type 0 where
  pub processes_are : dead.processes ≡ execution.setup.processes
  pub policies_are : dead.policies ≡ execution.setup.policies
  pub destroyed : (p : ℕ) → sets.contains dead.destroyed p ≡ destroyed_in execution p
  pub left : (p : ℕ) → sets.contains dead.left p ≡ left_in execution p

-- every set of at most so many processes may be lost
abbrev pub BearsAny : Losses → Loss → ℕ → Type 0
BearsAny dead loss count =
    (s : ℕ → Bool) → number_of s (length dead.processes) ≤ count → MayLose dead s loss

-- a policy bears this number, and those that it names as too many are one more
abbrev pub is_exact_at : ℕ → Tolerance → Bool
is_exact_at any one = one.any == any && sets.len one.too_many == one.any + 1

-- some policy bears this number so
abbrev pub is_exact : ℕ → List Tolerance → Bool
is_exact any found = list_any (is_exact_at any) found

-- any so many may be lost, by the least number of the policies; where it is exact, no greater
-- number is borne; and 0 always is exact
pub record IsBorneBy (dead : Losses) (loss : Loss) (any exact : ℕ) : Type 0 where
  pub found : List Tolerance
  pub tolerances : AllZip (λ policy one. IsTolerance dead policy loss one) dead.policies found
  pub any_is : any ≡ least_any (length dead.processes) found
  pub exact_is : exact ≡ bit (is_exact any found) 1
  pub borne : BearsAny dead loss any
  pub greatest : exact ≡ 1 → (count : ℕ) → BearsAny dead loss count → count ≤ any
  pub none : any ≡ 0 → exact ≡ 1

-- how many may still be emptied, and how many may be gone
pub record IsBorneNow (execution : Execution) (told : FyBorne) : Type 0 where
  pub dead : Losses
  pub book : IsBookNow execution dead
  pub emptied : IsBorneBy dead Emptied told.emptied told.emptied_exact
  pub gone : IsBorneBy dead Gone told.gone told.gone_exact

-- the numbers are told, or an allocation failed
pub data Bears (execution : Execution) (before after : FyBorne) : Status → Type 0 where
  told : IsBorneNow execution after → Bears execution before after Done
  no_memory : after ≡ before → Bears execution before after NoMemory
