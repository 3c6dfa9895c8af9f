-- what it is for a history of many registers to be linearizable, each of which has a key
use Rattle.std.specs.Prelude.{◌≡◌, ◌≢◌, ℕ, ◌==◌, ◌↔◌, cond, List, [], ◌∷◌, Contains, Option, Some, None, AllPairs, ◌≤◌}
use Rattle.fy_registers.specs.declared.operation.Operation.{Operation}
use Rattle.fy_registers.specs.declared.keyed.Keyed.{Keyed}
use Rattle.fy_registers.specs.Linear.{HasEnded, IsBefore, held_after, IsAnswered, IsLinearizable}

-- the operations of one key, in their order
abbrev pub of_key : ℕ → List Keyed → List Operation
of_key key [] = []
of_key key (o ∷ later) = cond (o.key == key) (o.operation ∷ of_key key later) (of_key key later)

-- what the registers hold after an operation
abbrev pub all_held_after : (ℕ → Option ℕ) → Keyed → ℕ → Option ℕ
all_held_after held o key = cond (o.key == key) (held_after (held key) o.operation.act) (held key)

-- each read of an order answers what was written last to its register before it, or what that held
-- at first
abbrev pub AreAllAnswered : (ℕ → Option ℕ) → List Keyed → Type 0
AreAllAnswered held [] = Unit {0}
AreAllAnswered held (o ∷ later) =
    IsAnswered (held o.key) o.operation.act × AreAllAnswered (all_held_after held o) later

-- an order of the operations of all registers that were done, as `IsLinearization` is of one's
pub record IsLinearizationOfAll (h order : List Keyed) : Type 0 where
  pub taken : (o : Keyed) → Contains order o → Contains h o
  pub complete : (o : Keyed) → Contains h o → HasEnded o.operation → Contains order o
  pub once : AllPairs (λ one later. one ≢ later) order
  pub in_time : AllPairs (λ one later. IsBefore later.operation one.operation → ⊥) order
  pub answered : AreAllAnswered (λ key. None) order

-- there is such an order
abbrev pub AreLinearizable : List Keyed → Type 0
AreLinearizable h = (order : List Keyed) × IsLinearizationOfAll h order

-- no operation ended before it began
abbrev pub NoneEndsEarly : List Keyed → Type 0
NoneEndsEarly h = (o : Keyed) → Contains h o → (end : ℕ) → o.operation.ended ≡ Some end →
    o.operation.began ≤ end

-- registers are linearizable together exactly where each by itself is
abbrev pub EachByItself : Type 0
EachByItself = (h : List Keyed) → NoneEndsEarly h →
    AreLinearizable h ↔ ((key : ℕ) → IsLinearizable (of_key key h))
