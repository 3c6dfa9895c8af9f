-- what the judge knows of the operations of a value
use Rattle.std.specs.Prelude.{◌≡◌, ℕ, ◌+◌, ◌*◌, ◌<◌, ◌≤◌, ◌==◌, nat_lt, if◌then◌else◌, List, Contains, Option, Some, None, min, count_by, ◌⊎◌, length, slice_index_or}
use Rattle.fy_registers.specs.declared.operation.Act.{Act}
use Rattle.fy_registers.specs.declared.operation.Act.TheVariants.{Write, Read}
use Rattle.fy_registers.specs.declared.operation.Operation.{Operation}
use Rattle.fy_registers.specs.declared.evidence.Evidence.{Evidence}
use Rattle.fy_registers.specs.declared.evidence.Evidence.TheVariants.{Unwritten, BeforeWrite, Nothing, Conflict}
use Rattle.fy_registers.specs.declared.zone.Ended.{Ended}
use Rattle.fy_registers.specs.declared.zone.Seen.{Seen}
use Rattle.fy_registers.specs.declared.zone.Zone.{Zone}
use Rattle.fy_registers.specs.declared.zone.Found.{Found}
use Rattle.fy_registers.specs.declared.zone.Found.TheVariants.{Zones, Judged}
use Rattle.fy_registers.specs.Linear.{value_of, HasEnded, IsWrittenOnce}
use Rattle.fy_registers.specs.Evidence.{IsReadOf, IsWriteOf, Judges}

-- the write of a value, after an operation more
abbrev pub next_write : Option Operation → Operation → Act → Option Operation
next_write write o (Write v) = Some o
next_write write o (Read answer) = write

-- those that ended, after an operation more that began last
abbrev pub next_ended : Option Ended → Operation → Option ℕ → Option Ended
next_ended ended o None = ended
next_ended None o (Some end) = Some (record { first = o; end = end; last = o })
next_ended (Some ended) o (Some end) = Some
    (if nat_lt end ended.end then record { first = o; end = end; last = o } else record { first = ended.first; end = ended.end; last = o })

-- of the operations of a value that ended: the one that ended first, and the one that began last
pub record AreEnded (h : List Operation) (v : ℕ) (ended : Ended) : Type 0 where
  pub first : Contains h ended.first
  pub first_value : value_of ended.first ≡ Some v
  pub first_end : ended.first.ended ≡ Some ended.end
  pub least : (o : Operation) → Contains h o → value_of o ≡ Some v → (end : ℕ) →
      o.ended ≡ Some end → ended.end ≤ end
  pub last : Contains h ended.last
  pub last_value : value_of ended.last ≡ Some v
  pub last_ended : HasEnded ended.last
  pub latest : (o : Operation) → Contains h o → value_of o ≡ Some v → HasEnded o →
      o.began ≤ ended.last.began

-- what is seen of a value in a history: a write where there is one, and those that ended
pub record IsSeen (h : List Operation) (v : ℕ) (seen : Seen) : Type 0 where
  pub write : (o : Operation) → seen.write ≡ Some o → IsWriteOf h v o
  pub written : (o : Operation) → IsWriteOf h v o → (w : Operation) × (seen.write ≡ Some w)
  pub ended : (e : Ended) → seen.ended ≡ Some e → AreEnded h v e
  pub all_ended : (o : Operation) → Contains h o → value_of o ≡ Some v → HasEnded o →
      (e : Ended) × (seen.ended ≡ Some e)

-- each value of a history is below a number
abbrev pub HasRoom : List Operation → ℕ → Type 0
HasRoom h count = (o : Operation) → Contains h o → (v : ℕ) → value_of o ≡ Some v → v < count

-- a table of what is seen of each value of a history
pub record AreSeen (h : List Operation) (table : List Seen) : Type 0 where
  pub room : HasRoom h (length table)
  pub each : (v : ℕ) (d : Seen) → v < length table → IsSeen h v (slice_index_or table v d)

-- the operations of a value: its write, the one that ended first, and of the write and those that
-- ended the one that began last; none ended before the write began
pub record IsZone (h : List Operation) (z : Zone) : Type 0 where
  pub write : IsWriteOf h z.value z.write
  pub first : Contains h z.first
  pub first_value : value_of z.first ≡ Some z.value
  pub first_end : z.first.ended ≡ Some z.end
  pub least : (o : Operation) → Contains h o → value_of o ≡ Some z.value → (end : ℕ) →
      o.ended ≡ Some end → z.end ≤ end
  pub last : Contains h z.last
  pub last_value : value_of z.last ≡ Some z.value
  pub last_done : HasEnded z.last ⊎ (z.last.act ≡ Write z.value)
  pub latest : (o : Operation) → Contains h o → value_of o ≡ Some z.value → HasEnded o →
      o.began ≤ z.last.began
  pub after_write : z.write.began ≤ z.last.began
  pub written : z.write.began ≤ z.end

-- the zone of what is seen of a value, or none where nothing ended
abbrev pub IsZoneOf : ℕ → Seen → Option Zone → Type 0
IsZoneOf v seen None = seen.ended ≡ None
IsZoneOf v seen (Some z) =
    (e : Ended) × (seen.ended ≡ Some e) × (seen.write ≡ Some z.write) × (z.value ≡ v)
    × (z.first ≡ e.first) × (z.end ≡ e.end) × (z.write.began ≤ z.end)
    × (z.write.began ≤ z.last.began) × (e.last.began ≤ z.last.began)
    × ((z.last ≡ e.last) ⊎ (z.last ≡ z.write))

-- what ended has no write, or ended before it began
abbrev pub IsNoZoneOf : Seen → Evidence → Type 0
IsNoZoneOf seen (Unwritten read) =
    (e : Ended) × (seen.ended ≡ Some e) × (seen.write ≡ None) × (read ≡ e.first)
IsNoZoneOf seen (BeforeWrite read write) =
    (e : Ended) × (seen.ended ≡ Some e) × (seen.write ≡ Some write) × (read ≡ e.first)
    × (e.end < write.began)
IsNoZoneOf seen (Nothing ended read) = ⊥
IsNoZoneOf seen (Conflict one other) = ⊥

-- zones of a history, one of each value that an operation that ended wrote or answered
pub record AreZones (h : List Operation) (zones : List Zone) : Type 0 where
  pub each : (z : Zone) → Contains zones z → IsZone h z
  pub all : (o : Operation) → Contains h o → HasEnded o → (v : ℕ) → value_of o ≡ Some v →
      (z : Zone) × Contains zones z × (z.value ≡ v)
  pub apart : (v : ℕ) → count_by (λ z. z.value == v) zones ≤ 1

-- what is found of a history
abbrev pub AreFound : List Operation → Found → Type 0
AreFound h (Zones zones) = IsWrittenOnce h × AreZones h zones.items
AreFound h (Judged judgement) = Judges h judgement

-- where a zone begins: at its first end, or at its last begin where that comes first
abbrev pub zone_key : Zone → ℕ
zone_key z = min (z.end * 2 + 1) (z.last.began * 2)

-- each operation of the one value may stand before each of the other
abbrev pub MayPrecede : Zone → Zone → Type 0
MayPrecede one other = one.last.began ≤ other.end

-- a zone of a row and a later one that conflict: an operation of the later ended before one of the
-- earlier began, and the earlier doesn't begin behind it
pub record AreTorn (zones : List Zone) (one other : Zone) : Type 0 where
  pub places : (i j : ℕ) × (i < j) × (j < length zones) × (slice_index_or zones i one ≡ one)
      × (slice_index_or zones j other ≡ other)
  pub late : other.end < one.last.began
  pub ordered : zone_key one ≤ zone_key other

-- the last read that found nothing, where there is one
pub record IsLastOfNothing (h : List Operation) (last : Option Operation) : Type 0 where
  pub found : (r : Operation) → last ≡ Some r → IsReadOf h None r
  pub latest : (o : Operation) → IsReadOf h None o →
      (r : Operation) × (last ≡ Some r) × (o.began ≤ r.began)

-- no operation of a zone ended before a read that found nothing began
abbrev pub IsNothingFirst : List Operation → List Zone → Type 0
IsNothingFirst h zones = (r : Operation) → IsReadOf h None r → (z : Zone) → Contains zones z →
    r.began ≤ z.end
