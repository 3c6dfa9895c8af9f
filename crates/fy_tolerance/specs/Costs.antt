-- how many processes it takes to satisfy a policy, and to keep those left from it
use Rattle.std.specs.Prelude.{◌≡◌, ℕ, ◌-◌, ◌*◌, ◌≤◌, Bool, true, false, not, ◌&&◌, ◌||◌, List, length, nat_le, sum_by}
use Rattle.std.specs.List.{AllByRecursion, count_by}
use Rattle.std.specs.Ordering.{nat_cmp}
use Rattle.std.specs.FinSet as sets
use Rattle.fy_locality.specs.declared.locality.Locality.{Locality}
use Rattle.fy_locality.specs.declared.TheConstants.{MOST_PROCESSES}
use Rattle.fy_policy.specs.Counted.{number_of}
use Rattle.fy_policy.specs.Sat.{satisfies}
use Rattle.fy_policy.specs.Tree.{Tree, one, across, every}
use Rattle.fy_tolerance.specs.declared.parts.Part.{Part}

-- each member of a set is in the other
abbrev pub IsWithin : (ℕ → Bool) → (ℕ → Bool) → Type 0
IsWithin s t = (p : ℕ) → s p ≡ true → t p ≡ true

-- a set within a group that satisfies the policy has so many processes or more, the free ones not
-- counted
abbrev pub NeedsAtLeast : List Locality → Tree → (group free : ℕ → Bool) → ℕ → Type 0
NeedsAtLeast processes policy group free count =
    (s : ℕ → Bool) → IsWithin s group → satisfies processes policy s ≡ true
    → count ≤ number_of (λ p. s p && not (free p)) (length processes)

-- a set within a group that doesn't satisfy the policy lacks so many processes of the group or more
abbrev pub LacksAtLeast : List Locality → Tree → (group : ℕ → Bool) → ℕ → Type 0
LacksAtLeast processes policy group count =
    (s : ℕ → Bool) → IsWithin s group → satisfies processes policy s ≡ false
    → count ≤ number_of (λ p. group p && not (s p)) (length processes)

-- the policy has no And
abbrev pub HasNoAnd : Tree → Type 0
HasNoAnd one = Unit {0}
HasNoAnd (across n key policy) = HasNoAnd policy
HasNoAnd (every parts) = ⊥

-- with the free ones of the group, the set found satisfies the policy; it has no more processes
-- than it takes
pub record IsEnough
    (processes : List Locality) (policy : Tree) (group free : ℕ → Bool) (found : Part) : Type 0
  where
    pub small : number_of (sets.contains found.set) (length processes) ≤ found.least
    pub enough : satisfies processes policy
        (λ p. sets.contains found.set p || (group p && free p)) ≡ true

-- without the set found the group doesn't satisfy the policy; the set has no more processes than it
-- takes
pub record IsBreaking
    (processes : List Locality) (policy : Tree) (group : ℕ → Bool) (found : Part) : Type 0 where
  pub small : number_of (sets.contains found.set) (length processes) ≤ found.least
  pub broken : satisfies processes policy
      (λ p. group p && not (sets.contains found.set p)) ≡ false

-- any so many of the parts take the least together: a part takes the level or more, but for what it
-- falls short of it
pub record IsLeastOf (parts : List Part) (many least : ℕ) : Type 0 where
  pub level : ℕ
  pub taken : ℕ
  pub few : taken ≤ many
  pub within : least ≤ taken * level - sum_by (λ part. level - part.least) parts

-- a part that takes no more processes than there can be lies in a set
abbrev pub lies_in : sets.FinSet nat_cmp → Part → Bool
lies_in set part = nat_le part.least MOST_PROCESSES && sets.is_subset part.set set

-- the set of a part has, among so many first processes, no more than the part takes, unless that is
-- more than there can be
abbrev pub IsSized : ℕ → Part → Type 0
IsSized count part =
    part.least ≤ MOST_PROCESSES → number_of (sets.contains part.set) count ≤ part.least

-- so it is for each part
abbrev pub AreSized : ℕ → List Part → Type 0
AreSized count parts = AllByRecursion (IsSized count) parts

-- so many of the parts lie in the set found, and it is as small as they are together
pub record IsTaken (count : ℕ) (parts : List Part) (many : ℕ) (found : Part) : Type 0 where
  pub enough : many ≤ count_by (lies_in found.set) parts
  pub small : AreSized count parts → number_of (sets.contains found.set) count ≤ found.least
