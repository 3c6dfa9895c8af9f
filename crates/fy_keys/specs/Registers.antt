-- what it is for the operations of a key of a history to have an order, with the texts that the
-- history has as values
use Rattle.std.specs.Prelude.{◌≡◌, ◌≢◌, List, [], ◌∷◌, Contains, Option, Some, None, option_map, AllPairs}
use Rattle.fy_history.specs.Names.{text_at, number_of}
use Rattle.fy_history.specs.Progress.{Text}
use Rattle.fy_history.specs.declared.history.History.{History}
use Rattle.fy_registers.specs.declared.operation.Act.{Act}
use Rattle.fy_registers.specs.declared.operation.Act.TheVariants.{Write, Read}
use Rattle.fy_registers.specs.declared.operation.Operation.{Operation}
use Rattle.fy_registers.specs.Keys.{of_key}
use Rattle.fy_registers.specs.Linear.{HasEnded, IsBefore}
use Rattle.fy_keys.specs.Operations.{all_of}

-- the operations of a key
abbrev pub operations_of : History → (key : Text) → List Operation
operations_of history key = of_key (number_of history.names key) (all_of history)

-- the text that a register holds after an act
abbrev pub holds_after : (names : List Text) → Option Text → Act → Option Text
holds_after names held (Write value) = Some (text_at names value)
holds_after names held (Read answer) = held

-- a read finds what the register holds: a text, or nothing
abbrev pub Finds : (names : List Text) → Option Text → Act → Type 0
Finds names held (Write value) = Unit {0}
Finds names held (Read answer) = option_map (text_at names) answer ≡ held

-- each read of an order finds the text that was written last before it, or what was held at first
abbrev pub AllFind : (names : List Text) → Option Text → List Operation → Type 0
AllFind names held [] = Unit {0}
AllFind names held (o ∷ later) = Finds names held o.act × AllFind names (holds_after names held o.act) later

-- an order of the operations that were done: all that ended, and of the others any. None stands
-- twice, none stands behind one that began after it ended, and each read finds the text that was
-- written last, or nothing where none was
pub record IsOrder (names : List Text) (h order : List Operation) : Type 0 where
  pub taken : (o : Operation) → Contains order o → Contains h o
  pub complete : (o : Operation) → Contains h o → HasEnded o → Contains order o
  pub once : AllPairs (λ one later. one ≢ later) order
  pub in_time : AllPairs (λ one later. IsBefore later one → ⊥) order
  pub found : AllFind names None order

-- LINEARIZABLE: the operations of a key have such an order
abbrev pub IsLinear : History → (key : Text) → Type 0
IsLinear history key = (order : List Operation) × IsOrder history.names (operations_of history key) order
