-- what is taken out of a set of processes, by the value of a key
use Rattle.std.specs.Prelude.{◌≡◌, ℕ, List, Some, None}
use Rattle.std.specs.Ordering.{nat_cmp}
use Rattle.std.specs.FinSet as sets
use Rattle.fy_locality.specs.declared.locality.Locality.{Locality}
use Rattle.fy_locality.specs.declared.key.Key.{Key}
use Rattle.fy_locality.specs.Locality.{value_of}
use Rattle.fy_policy.specs.Sat.{group, outside}

-- process p has no value of the key, and went out of the set alone
pub record HasSkipped
    (processes : List Locality) (key : Key) (p : ℕ) (old new : sets.FinSet nat_cmp) : Type 0 where
  pub none : value_of processes key p ≡ None
  pub left : new ≡ sets.remove old p

-- those of the set with the value that process p has of the key went out of it
pub record HasTaken
    (processes : List Locality) (key : Key) (p : ℕ) (old members new : sets.FinSet nat_cmp) : Type 0
  where
    pub value : List ℕ
    pub had : value_of processes key p ≡ Some value
    pub taken : (q : ℕ) → sets.contains members q ≡ group processes key value (sets.contains old) q
    pub left : (q : ℕ) → sets.contains new q ≡ outside processes key value (sets.contains old) q
