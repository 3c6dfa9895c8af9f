-- Whose fault a lost record is, and what a store kept that lost none. Positions and moments are as
-- in Destroyed and in the cluster's Stores.
use Rattle.std.specs.Prelude.{◌≡◌, ℕ, ◌+◌, ◌<◌, ◌≤◌, List, ◌++◌, length, Some, IsTrue, IsFalse, slice_get, ◌⊎◌}
use Rattle.fy_decide.specs.Safety.{AreShort}
use Rattle.fy_acts.specs.declared.entry.Entry.{Entry}
use Rattle.fy_cluster.specs.Setup.{Setup, IsMet}
use Rattle.fy_cluster.specs.History.{heals}
use Rattle.fy_cluster.specs.Replies.{Legal}
use Rattle.fy_cluster.specs.Stores.{Moment, IsCovered, KeepsPremises, IsGuarded, IsHeld}
use Rattle.fy_holders.specs.declared.outages.Blame.{Blame}
use Rattle.fy_holders.specs.declared.outages.Blame.TheVariants.{Store, StoreOrWhole}
use Rattle.fy_holders.specs.Destroyed.{destroyed_since}

-- those destroyed since a position are short of every policy
abbrev pub AreShortSince : Setup → List Entry → (position : ℕ) → Type 0
AreShortSince c journal position =
    AreShort c.processes c.policies (destroyed_since c journal position)

-- who is to blame for the loss of a record that was acknowledged at a position: the store where
-- those destroyed since are short of every policy, else the store or whole
abbrev pub IsToBlame : Setup → List Entry → (position : ℕ) → Blame → Type 0
IsToBlame c journal position Store = AreShortSince c journal position
IsToBlame c journal position StoreOrWhole = AreShortSince c journal position → ⊥

-- the first two premises, from one moment to the next:
-- 1. A process that had an acknowledged record and hasn't any more was destroyed by the guard's
--    journal at some position between the two moments, or the record is covered without it. It may
--    be healed since, whether that was right or wrong.
-- 2. The store acknowledges a record only if its holders together with the destroyed satisfy one of
--    the policies.
pub record KeepsTwo (c : Setup) (before after : Moment) : Type 0 where
  pub grows : (more : List Entry) × (after.journal ≡ before.journal ++ more)
  pub dies : (r p : ℕ) → IsTrue (before.acknowledged r) → IsTrue (before.holders r p) →
      IsFalse (after.holders r p) →
      IsTrue (destroyed_since c after.journal (length before.journal) p) ⊎ IsCovered c after r
  pub acknowledges : (r : ℕ) → IsFalse (before.acknowledged r) → IsTrue (after.acknowledged r) →
      IsCovered c after r

-- a store from a moment on: what is acknowledged at first is covered, and the two premises are kept
-- from each moment to the next
pub record IsByTwo (c : Setup) (at : ℕ → Moment) : Type 0 where
  pub begins : (r : ℕ) → IsTrue ((at 0).acknowledged r) → IsCovered c (at 0) r
  pub goes_on : (n : ℕ) → KeepsTwo c (at n) (at (n + 1))

-- the record is acknowledged from the first of these moments to the second, and at none before
pub record IsAckedFirst (at : ℕ → Moment) (k n r : ℕ) : Type 0 where
  pub since : (j : ℕ) → k ≤ j → j ≤ n → IsTrue ((at j).acknowledged r)
  pub first : (j : ℕ) → j < k → IsFalse ((at j).acknowledged r)

-- the record has a holder that was never destroyed since a position
pub record IsHeldSince (c : Setup) (position : ℕ) (now : Moment) (r : ℕ) : Type 0 where
  pub holder : ℕ
  pub there : holder < length c.processes
  pub holds : IsTrue (now.holders r holder)
  pub never : IsFalse (destroyed_since c now.journal position holder)

-- who keeps the three premises keeps these two
abbrev pub ThreeKeepTwo : Type 0
ThreeKeepTwo =
    (c : Setup) (before after : Moment) → KeepsPremises c before after → KeepsTwo c before after

-- of a store that keeps the two: where those destroyed since the acknowledgement are short of every
-- policy, the record has a holder that was never destroyed since, whatever the heals were worth
abbrev pub HoldersAreLeftByTwo : Type 0
HoldersAreLeftByTwo =
    (c : Setup) (at : ℕ → Moment) → IsByTwo c at → (k n r : ℕ) → k ≤ n → IsAckedFirst at k n r →
    AreShortSince c (at n).journal (length (at k).journal) →
    IsHeldSince c (length (at k).journal) (at n) r

-- and so, where nobody holds it who was never destroyed since, the store broke one of the two
abbrev pub StoreLostIt : Type 0
StoreLostIt =
    (c : Setup) (at : ℕ → Moment) (k n r : ℕ) → k ≤ n → IsAckedFirst at k n r →
    AreShortSince c (at n).journal (length (at k).journal) →
    (IsHeldSince c (length (at k).journal) (at n) r → ⊥) → IsByTwo c at → ⊥

-- where nobody holds an acknowledged record who isn't destroyed, one of the three premises was
-- broken
abbrev pub OneOfThreeIsBroken : Type 0
OneOfThreeIsBroken =
    (c : Setup) (at : ℕ → Moment) → IsMet c → (n r : ℕ) → IsTrue ((at n).acknowledged r) →
    (IsHeld c (at n) r → ⊥) → IsGuarded c at → ⊥

-- an entry from a position on healed a process that was destroyed since
pub record SomeHeal (c : Setup) (journal : List Entry) (position : ℕ) : Type 0 where
  pub place : ℕ
  pub entry : Entry
  pub process : ℕ
  pub from : position ≤ place
  pub there : slice_get journal place ≡ Some entry
  pub healed : heals entry.act entry.reply ≡ Some process
  pub was : IsTrue (destroyed_since c journal position process)

-- where those destroyed since a position of a legal journal aren't short of every policy, there is
-- such an entry
abbrev pub SomeHealIsBelieved : Type 0
SomeHealIsBelieved =
    (c : Setup) (journal : List Entry) (position : ℕ) → IsMet c → Legal c journal →
    (AreShortSince c journal position → ⊥) → SomeHeal c journal position
