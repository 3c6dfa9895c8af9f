-- operations whose values are any numbers, and what is judged of them
use Rattle.std.specs.Prelude.{◌≡◌, ℕ, ◌<◌, ◌≤◌, List, [], ◌∷◌, ◌++◌, length, map, Option, Some, None, All, AllPairs, slice_get, unwrap_or, nat_eq, ◌⊎◌}
use Rattle.std.specs.List.{IsDistinct}
use Rattle.fy_registers.specs.declared.operation.Act.{Act}
use Rattle.fy_registers.specs.declared.operation.Operation.{Operation}
use Rattle.fy_registers.specs.declared.evidence.Judgement.{Judgement}
use Rattle.fy_registers.specs.Linear.{value_of, value_in}
use Rattle.fy_registers.specs.Evidence.{Judges}
use Rattle.fy_values.specs.Renumbering.{act_by, operation_by}

-- an operation didn't end before it began
abbrev pub EndsInTime : Operation → Type 0
EndsInTime o = (end : ℕ) → o.ended ≡ Some end → o.began ≤ end

-- operations in the order in which they began, no two at one place, and none ended before it began
pub record IsInTime (h : List Operation) : Type 0 where
  pub in_order : AllPairs (λ one later. one.began < later.began) h
  pub each : All EndsInTime h

-- what is judged of operations in time; of others nothing is
abbrev pub IsJudgedInTime : List Operation → Option Judgement → Type 0
IsJudgedInTime h None = IsInTime h → ⊥
IsJudgedInTime h (Some judgement) = Judges h judgement

-- the value that stands at a place, which is its number
abbrev pub value_at : List ℕ → (number : ℕ) → ℕ
value_at values number = unwrap_or (slice_get values number) 0

-- a value has this number among values, to which it was added where it wasn't there
pub record IsNumberOf (before values : List ℕ) (value number : ℕ) : Type 0 where
  pub added : (values ≡ before) ⊎ (values ≡ before ++ value ∷ [])
  pub once : IsDistinct nat_eq values
  pub within : number < length values
  pub at : value_at values number ≡ value

-- an act has in place of its value the number that this has among values, to which it was added
-- where it wasn't there
pub record IsActOf (before values : List ℕ) (act numbered : Act) : Type 0 where
  pub added : (values ≡ before) ⊎ ((value : ℕ) × (values ≡ before ++ value ∷ []))
  pub once : IsDistinct nat_eq before → IsDistinct nat_eq values
  pub within : (number : ℕ) → value_in numbered ≡ Some number → number < length values
  pub at : act_by (value_at values) numbered ≡ act

-- operations whose values have numbers in their place: each is the place of the value among all of
-- them, which stand there once
pub record AreNumbered (h : List Operation) (values : List ℕ) (numbered : List Operation) : Type 0
  where
    pub same : map (operation_by (value_at values)) numbered ≡ h
    pub within : All (λ o. (number : ℕ) → value_of o ≡ Some number → number < length values) numbered
    pub once : IsDistinct nat_eq values
    pub few : length values ≤ length numbered
