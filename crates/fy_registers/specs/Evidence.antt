-- what shows that a history of one register isn't linearizable
use Rattle.std.specs.Prelude.{◌≡◌, ◌≢◌, ℕ, List, Contains, Option, Some, None, ◌⊎◌}
use Rattle.fy_registers.specs.declared.operation.Act.TheVariants.{Write, Read}
use Rattle.fy_registers.specs.declared.operation.Operation.{Operation}
use Rattle.fy_registers.specs.declared.evidence.Span.{Span}
use Rattle.fy_registers.specs.declared.evidence.Evidence.{Evidence}
use Rattle.fy_registers.specs.declared.evidence.Evidence.TheVariants.{Unwritten, BeforeWrite, Nothing, Conflict}
use Rattle.fy_registers.specs.declared.evidence.Judgement.{Judgement}
use Rattle.fy_registers.specs.declared.evidence.Judgement.TheVariants.{Linearizable, Not, Twice}
use Rattle.fy_registers.specs.Linear.{value_of, HasEnded, IsBefore, IsLinearizable, IsWrittenOnce, IsHistory}

-- a read of the history that answered so
pub record IsReadOf (h : List Operation) (answer : Option ℕ) (o : Operation) : Type 0 where
  pub within : Contains h o
  pub act : o.act ≡ Read answer
  pub ended : HasEnded o

-- a write of the history that wrote so, whether its end is known or not
pub record IsWriteOf (h : List Operation) (v : ℕ) (o : Operation) : Type 0 where
  pub within : Contains h o
  pub act : o.act ≡ Write v

-- two operations that wrote or read a value: the first ended, and the last is its write or ended
pub record IsSpanOf (h : List Operation) (v : ℕ) (span : Span) : Type 0 where
  pub first : Contains h span.first
  pub first_value : value_of span.first ≡ Some v
  pub last : Contains h span.last
  pub last_value : value_of span.last ≡ Some v
  pub last_done : HasEnded span.last ⊎ (span.last.act ≡ Write v)

-- Unwritten: a read answered a value that nobody wrote. BeforeWrite: it ended before the write of
-- its value began. Nothing: an operation of a value ended before a read that found nothing began.
-- Conflict: of two values each was there before the other
abbrev pub Shows : List Operation → Evidence → Type 0
Shows h (Unwritten read) =
    (v : ℕ) × IsReadOf h (Some v) read × ((o : Operation) → IsWriteOf h v o → ⊥)
Shows h (BeforeWrite read write) =
    (v : ℕ) × IsReadOf h (Some v) read × IsWriteOf h v write × IsBefore read write
Shows h (Nothing ended read) =
    (v : ℕ) × Contains h ended × (value_of ended ≡ Some v) × IsReadOf h None read
    × IsBefore ended read
Shows h (Conflict one other) =
    (v w : ℕ) × (v ≢ w) × IsSpanOf h v one × IsSpanOf h w other × IsBefore one.first other.last
    × IsBefore other.first one.last

-- where evidence is shown there is no order
abbrev pub EvidenceRefutes : Type 0
EvidenceRefutes = (h : List Operation) (evidence : Evidence) → IsWrittenOnce h →
    Shows h evidence → IsLinearizable h → ⊥

-- two operations write one value
abbrev pub IsTwice : List Operation → Operation → Operation → Type 0
IsTwice h one other = (v : ℕ) × IsWriteOf h v one × IsWriteOf h v other × (one ≢ other)

-- a judgement holds of a history: there is an order; or there is none, and this shows it; or two
-- operations write one value
abbrev pub Judges : List Operation → Judgement → Type 0
Judges h Linearizable = IsWrittenOnce h × IsLinearizable h
Judges h (Not evidence) = IsWrittenOnce h × Shows h evidence × (IsLinearizable h → ⊥)
Judges h (Twice one other) = IsTwice h one other

-- a judgement holds of operations that are a history; there is none where they are none
abbrev pub IsJudged : List Operation → Option Judgement → Type 0
IsJudged h None = IsHistory h → ⊥
IsJudged h (Some judgement) = IsHistory h × Judges h judgement
