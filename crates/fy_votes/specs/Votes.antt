-- which processes of a cluster may forget: sets of processes are tests on their numbers
use Rattle.std.specs.Prelude.{◌≡◌, ℕ, ◌<◌, Bool, true, List, length, Contains, IsTrue, IsFalse}
use Rattle.fy_locality.specs.declared.locality.Locality.{Locality}
use Rattle.fy_policy.specs.Sat.{Sat}
use Rattle.fy_policy.specs.Tree.{Tree}

-- two groups have a process in common that isn't in a set
pub record MeetOutside (processes : List Locality) (writers voters forgetful : ℕ → Bool) : Type 0
  where
    pub process : ℕ
    pub there : process < length processes
    pub wrote : IsTrue (writers process)
    pub votes : IsTrue (voters process)
    pub remembers : IsFalse (forgetful process)

-- a set may forget where each group that satisfies the policy of writes and each group that
-- satisfies the policy of elections have a process in common that isn't in the set
abbrev pub MayForget : List Locality → (writes elections : Tree) → (forgetful : ℕ → Bool) → Type 0
MayForget processes writes elections forgetful =
    (writers voters : ℕ → Bool)
    → Sat processes writes writers → Sat processes elections voters
    → MeetOutside processes writers voters forgetful

-- a set may forget by each of several policies of writes
abbrev pub MayForgetByEach :
    List Locality → (writes : List Tree) → (elections : Tree) → (forgetful : ℕ → Bool) → Type 0
MayForgetByEach processes writes elections forgetful =
    (policy : Tree) → Contains writes policy → MayForget processes policy elections forgetful

-- where a set may forget, so may a smaller one
abbrev pub SmallerMayForget : Type 0
SmallerMayForget =
    (processes : List Locality) (writes elections : Tree) (smaller forgetful : ℕ → Bool)
    → ((p : ℕ) → p < length processes → smaller p ≡ true → forgetful p ≡ true)
    → MayForget processes writes elections forgetful
    → MayForget processes writes elections smaller
