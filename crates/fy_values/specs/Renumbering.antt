-- other numbers in place of the values of operations
use Rattle.std.specs.Prelude.{◌≡◌, ◌↔◌, ℕ, List, map, Contains, Some, option_map}
use Rattle.fy_registers.specs.declared.operation.Act.{Act}
use Rattle.fy_registers.specs.declared.operation.Act.TheVariants.{Write, Read}
use Rattle.fy_registers.specs.declared.operation.Operation.{Operation}
use Rattle.fy_registers.specs.declared.evidence.Span.{Span}
use Rattle.fy_registers.specs.declared.evidence.Evidence.{Evidence}
use Rattle.fy_registers.specs.declared.evidence.Evidence.TheVariants.{Unwritten, BeforeWrite, Nothing, Conflict}
use Rattle.fy_registers.specs.declared.evidence.Judgement.{Judgement}
use Rattle.fy_registers.specs.declared.evidence.Judgement.TheVariants.{Linearizable, Not, Twice}
use Rattle.fy_registers.specs.Linear.{value_of, IsLinearizable}

-- an act with another number in place of its value
abbrev pub act_by : (ℕ → ℕ) → Act → Act
act_by f (Write value) = Write (f value)
act_by f (Read answer) = Read (option_map f answer)

-- an operation with another number in place of its value
abbrev pub operation_by : (ℕ → ℕ) → Operation → Operation
operation_by f o = record { act = act_by f o.act; began = o.began; ended = o.ended }

-- two operations of a value with another number in its place
abbrev pub span_by : (ℕ → ℕ) → Span → Span
span_by f span = record { first = operation_by f span.first; last = operation_by f span.last }

-- evidence with other numbers in place of values
abbrev pub evidence_by : (ℕ → ℕ) → Evidence → Evidence
evidence_by f (Unwritten read) = Unwritten (operation_by f read)
evidence_by f (BeforeWrite read write) = BeforeWrite (operation_by f read) (operation_by f write)
evidence_by f (Nothing ended read) = Nothing (operation_by f ended) (operation_by f read)
evidence_by f (Conflict one other) = Conflict (span_by f one) (span_by f other)

-- a judgement with other numbers in place of values
abbrev pub judgement_by : (ℕ → ℕ) → Judgement → Judgement
judgement_by f Linearizable = Linearizable
judgement_by f (Not evidence) = Not (evidence_by f evidence)
judgement_by f (Twice one other) = Twice (operation_by f one) (operation_by f other)

-- no two values of operations become one
abbrev pub KeepsApart : (ℕ → ℕ) → List Operation → Type 0
KeepsApart f h = (one other : Operation) (v w : ℕ) → Contains h one → Contains h other →
    value_of one ≡ Some v → value_of other ≡ Some w → f v ≡ f w → v ≡ w

-- where no two values become one, operations have an order exactly where they had one before
abbrev pub RenumberingKeeps : Type 0
RenumberingKeeps = (f : ℕ → ℕ) (h : List Operation) → KeepsApart f h →
    IsLinearizable h ↔ IsLinearizable (map (operation_by f) h)
