-- A store of one's own beside a guard. The guard sees acts and answers alone. Who has which record
-- is the store's to know, and three premises tie the two. Under them each acknowledged record has a
-- holder that isn't destroyed, at every moment. Records are numbered in any way.
use Rattle.std.specs.Prelude.{◌≡◌, ℕ, ◌+◌, ◌<◌, Bool, List, ◌++◌, length, Contains, IsTrue, IsFalse, ◌⊎◌}
use Rattle.fy_policy.specs.Tree.{Tree}
use Rattle.fy_policy.specs.Sat.{Sat}
use Rattle.fy_decide.specs.Safety.{with_set}
use Rattle.fy_acts.specs.declared.entry.Entry.{Entry}
use Rattle.fy_cluster.specs.Setup.{Setup, IsMet}
use Rattle.fy_cluster.specs.History.{ProcessSet, history, destroyed}
use Rattle.fy_cluster.specs.Replies.{Legal}

-- what is so at a moment: the guard's journal, who has each record synced, and which records are
-- acknowledged
pub record Moment : Type 0 where
  pub journal : List Entry
  pub holders : ℕ → ProcessSet
  pub acknowledged : ℕ → Bool

-- those that the guard knows as destroyed
abbrev pub known_destroyed : Setup → Moment → ProcessSet
known_destroyed c now = destroyed (history c now.journal)

-- the record's holders together with the destroyed satisfy one of the policies
abbrev pub IsCovered : Setup → Moment → ℕ → Type 0
IsCovered c now r =
    (P : Tree)
    × Contains c.policies P
    × Sat c.processes P (with_set (now.holders r) (known_destroyed c now))

-- the process was destroyed and isn't any more
pub record IsHealed (c : Setup) (before after : Moment) (p : ℕ) : Type 0 where
  pub was : IsTrue (known_destroyed c before p)
  pub is : IsFalse (known_destroyed c after p)

-- the premises, from one moment to the next:
-- 1. A process that had an acknowledged record and hasn't any more is destroyed by the guard's
--    journal, or the record is covered without it. No other death takes one, nor its disk, nor the
--    store.
-- 2. The store acknowledges a record only if its holders together with the destroyed satisfy one of
--    the policies: at the acknowledgement, and after each heal.
-- 3. A process is healed only once it has the acknowledged records again. It may lack those that 2
--    covers without it.
pub record KeepsPremises (c : Setup) (before after : Moment) : Type 0 where
  pub grows : (more : List Entry) × (after.journal ≡ before.journal ++ more)
  pub dies : (r p : ℕ) → IsTrue (before.acknowledged r) → IsTrue (before.holders r p) →
      IsFalse (after.holders r p) → IsTrue (known_destroyed c after p) ⊎ IsCovered c after r
  pub acknowledges : (r : ℕ) → IsFalse (before.acknowledged r) → IsTrue (after.acknowledged r) →
      IsCovered c after r
  pub heals : (p r : ℕ) → IsHealed c before after p → IsTrue (before.acknowledged r) →
      IsTrue (after.holders r p) ⊎ IsCovered c after r

-- a store from a moment on: the guard's journals are legal, what is acknowledged at first is
-- covered, and the premises are kept from each moment to the next
pub record IsGuarded (c : Setup) (at : ℕ → Moment) : Type 0 where
  pub legal : (n : ℕ) → Legal c (at n).journal
  pub begins : (r : ℕ) → IsTrue ((at 0).acknowledged r) → IsCovered c (at 0) r
  pub goes_on : (n : ℕ) → KeepsPremises c (at n) (at (n + 1))

-- the record has a holder that isn't destroyed
pub record IsHeld (c : Setup) (now : Moment) (r : ℕ) : Type 0 where
  pub holder : ℕ
  pub there : holder < length c.processes
  pub holds : IsTrue (now.holders r holder)
  pub remains : IsFalse (known_destroyed c now holder)

-- each acknowledged record of a guarded store has such a holder, at every moment
abbrev pub HoldersAreLeft : Type 0
HoldersAreLeft =
    (c : Setup) (at : ℕ → Moment) → IsMet c → IsGuarded c at → (n r : ℕ) →
    IsTrue ((at n).acknowledged r) → IsHeld c (at n) r
