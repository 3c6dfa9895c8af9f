-- what a picture shows at a column
use Rattle.std.specs.Prelude.{◌≡◌, ◌≤◌, ℕ, List, length, take, slice_get, Some}
use Rattle.std.specs.FinSet as sets
use Rattle.fy_policy.specs.Tree.{Tree}
use Rattle.fy_acts.specs.declared.entry.Entry.{Entry}
use Rattle.fy_cluster.specs.Setup.{Setup}
use Rattle.fy_cluster.specs.History.{History, destroyed, history, left}
use Rattle.fy_cluster.specs.Sights.{clogged_in, up_in}
use Rattle.fy_picture.specs.declared.column.Column.{Column}
use Rattle.fy_picture.specs.declared.column.States.{States}
use Rattle.fy_picture.specs.Killable.{killable}

-- which processes are up, clogged, destroyed and left in a history
pub record AreStates (c : Setup) (h : History) (states : States) : Type 0 where
  pub up : (p : ℕ) → sets.contains states.up p ≡ up_in c h p
  pub clogged : (p : ℕ) → sets.contains states.clogged p ≡ clogged_in c h p
  pub destroyed : (p : ℕ) → sets.contains states.destroyed p ≡ destroyed h p
  pub left : (p : ℕ) → sets.contains states.left p ≡ left c h p

-- for each policy, how many processes could each be killed for good next
pub record AreCounts (c : Setup) (h : History) (counts : List ℕ) : Type 0 where
  pub count : length counts ≡ length c.policies
  pub each : (place : ℕ) (P : Tree) → slice_get c.policies place ≡ Some P
      → slice_get counts place ≡ Some (killable c h P)

-- the column shows the cluster in the history of all entries up to its end
pub record IsColumn (c : Setup) (journal : List Entry) (column : Column) : Type 0 where
  pub end : column.end ≤ length journal
  pub states : AreStates c (history c (take column.end journal)) column.states
  pub counts : AreCounts c (history c (take column.end journal)) column.counts.items
