-- what may be destroyed: sets of processes are tests on their numbers
use Rattle.std.specs.Prelude.{ℕ, Bool, not, ◌&&◌, ◌||◌, nat_lt, List, Option, length}
use Rattle.std.specs.List.{list_all, position, AllByRecursion}
use Rattle.fy_locality.specs.declared.locality.Locality.{Locality}
use Rattle.fy_policy.specs.Tree.{Tree, IsPolicy}
use Rattle.fy_policy.specs.Sat.{Sat, satisfies}
use Rattle.fy_decide.specs.declared.dead_book.Loss.{Loss}
use Rattle.fy_decide.specs.declared.dead_book.Loss.TheVariants.{Emptied, Gone}

-- every process
abbrev pub everyone : List Locality → ℕ → Bool
everyone processes p = nat_lt p (length processes)

-- those of either set
abbrev pub with_set : (ℕ → Bool) → (ℕ → Bool) → ℕ → Bool
with_set s t p = s p || t p

-- those of the first set that aren't in the second
abbrev pub without_set : (ℕ → Bool) → (ℕ → Bool) → ℕ → Bool
without_set s t p = s p && not (t p)

-- a set is short of a policy where it doesn't satisfy it; here of each policy
abbrev pub AreShort : List Locality → List Tree → (ℕ → Bool) → Type 0
AreShort processes policies s = AllByRecursion (λ P. Sat processes P s → ⊥) policies

-- a set satisfies each policy
abbrev pub AreSatisfied : List Locality → List Tree → (ℕ → Bool) → Type 0
AreSatisfied processes policies s = AllByRecursion (λ P. Sat processes P s) policies

-- each is within the limits of a policy, and the set satisfies it
abbrev pub AreMet : List Locality → List Tree → (ℕ → Bool) → Type 0
AreMet processes policies s = AllByRecursion (λ P. IsPolicy P × Sat processes P s) policies

-- the destroyed with the set are short of every policy and, where the set is gone, those left
-- without it satisfy each
abbrev pub MayDestroy : List Locality → List Tree → (destroyed left s : ℕ → Bool) → Loss → Type 0
MayDestroy processes policies destroyed left s Emptied =
    AreShort processes policies (with_set destroyed s)
MayDestroy processes policies destroyed left s Gone =
    AreShort processes policies (with_set destroyed s)
    × AreSatisfied processes policies (without_set left s)

-- the same three as tests
abbrev pub all_short : List Locality → List Tree → (ℕ → Bool) → Bool
all_short processes policies s = list_all (λ P. not (satisfies processes P s)) policies

-- each policy is satisfied, as a test
abbrev pub all_satisfied : List Locality → List Tree → (ℕ → Bool) → Bool
all_satisfied processes policies s = list_all (λ P. satisfies processes P s) policies

-- what `MayDestroy` says, as a test that computes
abbrev pub may_destroy : List Locality → List Tree → (destroyed left s : ℕ → Bool) → Loss → Bool
may_destroy processes policies destroyed left s Emptied =
    all_short processes policies (with_set destroyed s)
may_destroy processes policies destroyed left s Gone =
    all_short processes policies (with_set destroyed s)
    && all_satisfied processes policies (without_set left s)

-- the place of the first policy that a set satisfies
abbrev pub first_satisfied : List Locality → List Tree → (ℕ → Bool) → Option ℕ
first_satisfied processes policies s = position (λ P. satisfies processes P s) policies

-- the place of the first policy that a set is short of
abbrev pub first_short : List Locality → List Tree → (ℕ → Bool) → Option ℕ
first_short processes policies s = position (λ P. not (satisfies processes P s)) policies

-- the place of the first policy that all processes together don't satisfy
abbrev pub first_unmet : List Locality → List Tree → Option ℕ
first_unmet processes policies = first_short processes policies (everyone processes)
