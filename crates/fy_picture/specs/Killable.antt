-- how many more a policy could bear
use Rattle.std.specs.Prelude.{◌≡◌, ◌==◌, ◌<◌, ℕ, Bool, ◌&&◌, not, List, [], ◌∷◌, length, filter, map, slice_get, Some}
use Rattle.std.specs.FinSet as sets
use Rattle.std.specs.List.{range_with_len}
use Rattle.fy_locality.specs.declared.locality.Locality.{Locality}
use Rattle.fy_policy.specs.Tree.{Tree}
use Rattle.fy_decide.specs.Safety.{may_destroy}
use Rattle.fy_decide.specs.declared.dead_book.Loss.TheVariants.{Gone}
use Rattle.fy_cluster.specs.Setup.{Setup}
use Rattle.fy_cluster.specs.History.{History, destroyed, left}
use Rattle.fy_picture.specs.declared.column.Column.{Column}
use Rattle.fy_picture.specs.declared.column.States.{States}

-- a process that is left and not destroyed could be killed for good next, as far as one policy
-- goes: the destroyed with it are short of the policy, and those left without it satisfy it
abbrev pub is_killable : List Locality → Tree → (destroyed left : ℕ → Bool) → ℕ → Bool
is_killable processes P destroyed left p =
    left p && not (destroyed p)
    && may_destroy processes (P ∷ []) destroyed left (λ q. q == p) Gone

-- how many processes could each go
abbrev pub killable_by : List Locality → Tree → (destroyed left : ℕ → Bool) → ℕ
killable_by processes P destroyed left =
    length (filter (is_killable processes P destroyed left) (range_with_len 0 (length processes)))

-- how many could after a history
abbrev pub killable : Setup → History → Tree → ℕ
killable c h P = killable_by c.processes P (destroyed h) (left c h)

-- ---- the counts of columns

-- how many could go in these states
abbrev pub killable_at : List Locality → Tree → States → ℕ
killable_at processes P states =
    killable_by processes P (sets.contains states.destroyed) (sets.contains states.left)

-- for each policy, how many could go in these states
pub record AreCountsAt (processes : List Locality) (policies : List Tree) (states : States)
    (counts : List ℕ) : Type 0 where
  pub count : length counts ≡ length policies
  pub each : (place : ℕ) (P : Tree) → slice_get policies place ≡ Some P
      → slice_get counts place ≡ Some (killable_at processes P states)

-- the same processes are destroyed and left
pub record HaveSameLosses (one other : States) : Type 0 where
  pub destroyed : one.destroyed ≡ other.destroyed
  pub left : one.left ≡ other.left

-- what columns show of processes
abbrev pub states_in : List Column → List States
states_in columns = map (λ column. column.states) columns

-- so many columns have the counts of their own states
abbrev pub AreCounted : Setup → ℕ → List Column → Type 0
AreCounted c count columns =
    (k : ℕ) (column : Column) → k < count → slice_get columns k ≡ Some column →
    AreCountsAt c.processes c.policies column.states column.counts.items
