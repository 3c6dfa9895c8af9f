-- what it is for a history of one register to be linearizable
use Rattle.std.specs.Prelude.{◌≡◌, ◌≢◌, ℕ, ◌<◌, ◌≤◌, List, [], ◌∷◌, Contains, length, Option, Some, None, All, AllPairs}
use Rattle.fy_registers.specs.declared.operation.Act.{Act}
use Rattle.fy_registers.specs.declared.operation.Act.TheVariants.{Write, Read}
use Rattle.fy_registers.specs.declared.operation.Operation.{Operation}

-- the value that an act writes or reads; None is what was there before all writes
abbrev pub value_in : Act → Option ℕ
value_in (Write v) = Some v
value_in (Read answer) = answer

-- the value that an operation wrote or read
abbrev pub value_of : Operation → Option ℕ
value_of o = value_in o.act

-- its end is known
abbrev pub HasEnded : Operation → Type 0
HasEnded o = (end : ℕ) × (o.ended ≡ Some end)

-- one ended before the other began
abbrev pub IsBefore : Operation → Operation → Type 0
IsBefore one other = (end : ℕ) × (one.ended ≡ Some end) × (end < other.began)

-- what a register holds after an act
abbrev pub held_after : Option ℕ → Act → Option ℕ
held_after held (Write v) = Some v
held_after held (Read answer) = held

-- a read answers what the register holds
abbrev pub IsAnswered : Option ℕ → Act → Type 0
IsAnswered held (Write v) = Unit {0}
IsAnswered held (Read answer) = answer ≡ held

-- each read of an order answers what was written last before it, or what was held at first
abbrev pub AreAnswered : Option ℕ → List Operation → Type 0
AreAnswered held [] = Unit {0}
AreAnswered held (o ∷ later) = IsAnswered held o.act × AreAnswered (held_after held o.act) later

-- an order of the operations that were done: all that ended, and of the others any. None stands
-- twice, none stands behind one that began after it ended, and each read is answered by the last
-- write
pub record IsLinearization (h order : List Operation) : Type 0 where
  pub taken : (o : Operation) → Contains order o → Contains h o
  pub complete : (o : Operation) → Contains h o → HasEnded o → Contains order o
  pub once : AllPairs (λ one later. one ≢ later) order
  pub in_time : AllPairs (λ one later. IsBefore later one → ⊥) order
  pub answered : AreAnswered None order

-- there is such an order
abbrev pub IsLinearizable : List Operation → Type 0
IsLinearizable h = (order : List Operation) × IsLinearization h order

-- no value is written by two operations
abbrev pub IsWrittenOnce : List Operation → Type 0
IsWrittenOnce h = (one other : Operation) (v : ℕ) → Contains h one → Contains h other →
    one.act ≡ Write v → other.act ≡ Write v → one ≡ other

-- an operation doesn't end before it began, and its value is below a count
pub record IsWithin (count : ℕ) (o : Operation) : Type 0 where
  pub ends : (end : ℕ) → o.ended ≡ Some end → o.began ≤ end
  pub below : (v : ℕ) → value_of o ≡ Some v → v < count

-- operations in the order in which they began, no two at one place; none ended before it began,
-- and each value is below their count
pub record IsHistory (h : List Operation) : Type 0 where
  pub in_order : AllPairs (λ one later. one.began < later.began) h
  pub each : All (IsWithin (length h)) h
