-- What the folds of History come to, by the places of entries. A history has the newest first. So
-- of `later ++ at ∷ before` the entry `at` came after those of `before`, and then came `later`.
use Rattle.std.specs.Prelude.{◌≡◌, ◌↔◌, ℕ, ◌+◌, ◌<◌, min, Bool, ◌&&◌, List, ◌∷◌, ◌++◌, Contains, IsTrue, IsFalse, Some, is_some}
use Rattle.std.specs.List.{list_any}
use Rattle.fy_locality.specs.declared.ProcId.{ProcId}
use Rattle.fy_net.specs.declared.limits.TheConstants.{LAST_TICK}
use Rattle.fy_cluster.specs.History.{History, Step, clogs, unclogs, heals_at, now, clogged, marks, delivers_ack_of, members_for, acked}

-- ---- acknowledged records

-- an entry delivered the process's acknowledgement of the record, and none since healed the process
pub record HasMark (h : History) (r p : ℕ) : Type 0 where
  pub later : List Step
  pub at : Step
  pub before : History
  pub split : h ≡ later ++ at ∷ before
  pub delivered : IsTrue (marks at r p)
  pub unhealed : IsFalse (list_any (λ m. heals_at m p) later)

-- an entry delivered an acknowledgement of the record, and with it each member had such a mark
pub record IsAckedAt (h : History) (r : ℕ) : Type 0 where
  pub later : List Step
  pub at : Step
  pub before : History
  pub split : h ≡ later ++ at ∷ before
  pub delivered : IsTrue (delivers_ack_of at r)
  pub by_each : (p : ProcId) → Contains (members_for before r) p → HasMark (at ∷ before) r p.0

-- a record is acknowledged exactly where there is such an entry
abbrev pub AckedByPlace : Type 0
AckedByPlace = (h : History) (r : ℕ) → IsTrue (acked h r) ↔ IsAckedAt h r

-- ---- clogs

-- the entry ended the clogs of the process
abbrev pub unclogs_at : Step → ℕ → Bool
unclogs_at m p = m.targets p && is_some (unclogs m.entry.act m.entry.reply)

-- an entry clogged the process until after a time, and none since ended its clogs
pub record IsCloggedPast (h : History) (p time : ℕ) : Type 0 where
  pub later : List Step
  pub at : Step
  pub before : History
  pub split : h ≡ later ++ at ∷ before
  pub named : IsTrue (at.targets p)
  pub ticks : ℕ
  pub clogged : clogs at.entry.act at.entry.reply ≡ Some ticks
  pub lasts : time < min (now before + ticks) LAST_TICK
  pub unended : IsFalse (list_any (λ m. unclogs_at m p) later)

-- a process is clogged exactly where an entry clogged it until after now, and none since ended that
abbrev pub CloggedByPlace : Type 0
CloggedByPlace = (h : History) (p : ℕ) → IsTrue (clogged h p) ↔ IsCloggedPast h p (now h)
