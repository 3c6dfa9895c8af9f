-- A store that elects. Records and candidates are numbered: a candidate is a process. Who remembers
-- what is the store's to know, and premises tie it to who forgot. Under them nobody is elected who
-- lacks an acknowledged record, exactly where those who forgot may forget.
use Rattle.std.specs.Prelude.{◌≡◌, ◌↔◌, ◌⊎◌, ℕ, ◌+◌, Bool, ◌||◌, List, Contains, IsTrue, IsFalse}
use Rattle.fy_locality.specs.declared.locality.Locality.{Locality}
use Rattle.fy_policy.specs.Sat.{Sat}
use Rattle.fy_policy.specs.Tree.{Tree, IsPolicy}
use Rattle.fy_votes.specs.Votes.{MayForgetByEach}

-- what is so at a moment: which records are acknowledged, which processes remember each, which vote
-- for each candidate, and which forgot: the damaged and the destroyed, while they aren't healed
pub record Moment : Type 0 where
  pub acknowledged : ℕ → Bool
  pub remember : (r : ℕ) → ℕ → Bool
  pub vote : (candidate : ℕ) → ℕ → Bool
  pub forgot : ℕ → Bool

-- those who remember the record, together with those who forgot, satisfy one of the policies of
-- writes
abbrev pub IsSynced : List Locality → (writes : List Tree) → Moment → (r : ℕ) → Type 0
IsSynced processes writes now r =
    (policy : Tree)
    × Contains writes policy
    × Sat processes policy (λ p. now.remember r p || now.forgot p)

-- the premises, from one moment to the next:
-- 1. A process that remembered a record and doesn't any more is one of those who forgot.
-- 2. The store acknowledges a record only if it is synced.
-- 3. A process is one of those who forgot until it has the acknowledged records again. It may lack
--    those that are synced without it.
pub record Keeps (processes : List Locality) (writes : List Tree) (before after : Moment) : Type 0
  where
    pub forgets : (r p : ℕ) → IsTrue (before.remember r p) → IsFalse (after.remember r p) →
        IsTrue (after.forgot p)
    pub acknowledges : (r : ℕ) → IsFalse (before.acknowledged r) → IsTrue (after.acknowledged r) →
        IsSynced processes writes after r
    pub heals : (r p : ℕ) → IsTrue (before.forgot p) → IsFalse (after.forgot p) →
        IsTrue (before.acknowledged r) →
        IsTrue (after.remember r p) ⊎ IsSynced processes writes after r

-- a process that forgot nothing doesn't vote for a candidate that lacks a record, while it remembers
-- the record and the record is acknowledged
abbrev pub VotesByMemory : Moment → Type 0
VotesByMemory now =
    (r candidate p : ℕ) → IsTrue (now.acknowledged r) → IsFalse (now.forgot p) →
    IsTrue (now.remember r p) → IsTrue (now.vote candidate p) → IsTrue (now.remember r candidate)

-- a store from a moment on: what is acknowledged at first is synced, the premises are kept from each
-- moment to the next, and at each moment processes vote by what they remember
pub record IsStore (processes : List Locality) (writes : List Tree) (at : ℕ → Moment) : Type 0
  where
    pub begins : (r : ℕ) → IsTrue ((at 0).acknowledged r) → IsSynced processes writes (at 0) r
    pub goes_on : (n : ℕ) → Keeps processes writes (at n) (at (n + 1))
    pub votes : (n : ℕ) → VotesByMemory (at n)

-- a candidate is elected by those who vote for it: they satisfy the policy of elections
abbrev pub IsElected : List Locality → (elections : Tree) → Moment → (candidate : ℕ) → Type 0
IsElected processes elections now candidate = Sat processes elections (now.vote candidate)

-- whoever is elected remembers each acknowledged record, in any store, at any moment at which these
-- processes are those who forgot
abbrev pub ElectsNobodyLacking :
    List Locality → (writes : List Tree) → (elections : Tree) → (forgetful : ℕ → Bool) → Type 0
ElectsNobodyLacking processes writes elections forgetful =
    (at : ℕ → Moment) → IsStore processes writes at →
    (n : ℕ) → ((p : ℕ) → (at n).forgot p ≡ forgetful p) →
    (r candidate : ℕ) → IsTrue ((at n).acknowledged r) →
    IsElected processes elections (at n) candidate → IsTrue ((at n).remember r candidate)

-- exactly where those who forgot may forget, nobody is elected who lacks an acknowledged record
abbrev pub NobodyLackingIsElected : Type 0
NobodyLackingIsElected =
    (processes : List Locality) (writes : List Tree) (elections : Tree) (forgetful : ℕ → Bool)
    → IsPolicy elections
    → MayForgetByEach processes writes elections forgetful
    ↔ ElectsNobodyLacking processes writes elections forgetful
