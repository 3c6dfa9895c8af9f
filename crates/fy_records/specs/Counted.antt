-- how many records became of what
use Rattle.std.specs.Prelude.{◌≡◌, ℕ, zero, suc, ◌+◌, ◌*◌, ◌/◌, ◌-◌, ◌≤◌, Bool, true, false, not, ◌&&◌, ◌||◌, nat_lt, nat_le, List, [], ◌∷◌, length, filter_map, count_by, slice_index, min, Option, Some, None, is_some, if◌then◌else◌}
use Rattle.std.specs.Option.{option_map_or}
use Rattle.std.specs.List.Sorted.{IsPermutation, IsNonDecreasingBy}
use Rattle.fy_history.specs.declared.history.End.{End}
use Rattle.fy_history.specs.declared.history.End.TheVariants as end
use Rattle.fy_history.specs.declared.history.Place.{Place}
use Rattle.fy_history.specs.declared.history.Write.{Write}
use Rattle.fy_records.specs.declared.counts.Counts.{Counts}
use Rattle.fy_records.specs.declared.counts.KeyCounts.{KeyCounts}
use Rattle.fy_records.specs.declared.counts.Marks.{Marks}
use Rattle.fy_records.specs.declared.verdict.Judged.{Judged}
use Rattle.fy_records.specs.declared.verdict.Verdict.{Verdict}
use Rattle.fy_records.specs.declared.verdict.Verdict.TheVariants.{Lost, Wrong, Missing, Unreadable, Stale, Kept}
use Rattle.fy_records.specs.Lines.{Lines, some_read, writes_of, record_of, acknowledged_at}
use Rattle.fy_records.specs.Reads.{Reads, is_answered, tells, ended_before}
use Rattle.fy_records.specs.Traces.{is_on_disk}
use Rattle.fy_records.specs.Verdicts.{case_since, is_lost_by_store, is_lost_by_process, is_told_at_end}

-- how many of the first numbers pass a test
abbrev pub count_below : ℕ → (ℕ → Bool) → ℕ
count_below zero test = 0
count_below (suc n) test = count_below n test + (if test n then 1 else 0)

-- a write may have been done, and wasn't acknowledged
abbrev pub is_open : End → Bool
is_open end.Open = true
is_open end.Refused = true
is_open end.Unknown = true
is_open end.Done = false
is_open end.Undone = false

-- the store said no to a write
abbrev pub is_refused : End → Bool
is_refused end.Refused = true
is_refused _ = false

-- the record of a key that wasn't acknowledged
abbrev pub open_only : Option Write → Option Write
open_only None = None
open_only (Some write) = if is_open write.end then Some write else None

-- the key has several writes
abbrev pub is_register : Lines → (key : ℕ) → Bool
is_register h key = nat_lt 1 (length (writes_of h key))

-- of the record of a key that wasn't acknowledged so holds
abbrev pub of_open : Lines → (key : ℕ) → (Write → Bool) → Bool
of_open h key test = option_map_or test (open_only (record_of h key)) false

-- a read at the end told the record of a write
abbrev pub is_recovered : Lines → Write → Bool
is_recovered h write = is_told_at_end (some_read h write.key) (case_since h write write.began)

-- the store refused a write, and a read told its record or a disk has it
abbrev pub is_refused_and_there : Lines → Write → Bool
is_refused_and_there h write =
    is_refused write.end
    && (some_read h write.key (tells write.value) || is_on_disk h.disks write.key write.value)

-- at this place the first read ended that told a value
abbrev pub is_first_told : Reads → (value : ℕ) → Place → Bool
is_first_told some value place =
    not (some (λ other. tells value other && ended_before place.line other))

-- a record is lost by (a) or (b) from a place on
abbrev pub is_lost_since : Lines → Write → Place → Bool
is_lost_since h write place =
    is_lost_by_store (some_read h write.key) (case_since h write place)
    || is_lost_by_process (some_read h write.key) (case_since h write place)

-- the record is lost so from the end of a read on, if that is the first that told it
abbrev pub is_gone_since : Lines → Write → Option Place → Bool
is_gone_since h write None = false
is_gone_since h write (Some place) =
    is_first_told (some_read h write.key) write.value place && is_lost_since h write place

-- a read told the record, and it is lost since the first of these ended
abbrev pub is_gone : Lines → Write → Bool
is_gone h write =
    some_read h write.key (λ first.
    tells write.value first && is_gone_since h write first.read.ended)

-- the key has an acknowledged record
abbrev pub is_acknowledged : Lines → (key : ℕ) → Bool
is_acknowledged h key = is_some (acknowledged_at h key)

-- a read of a key that has no acknowledged record told what nobody wrote
abbrev pub is_unwritten : Lines → (key : ℕ) → Bool
is_unwritten h key = not (is_acknowledged h key) && some_read h key (λ seen. seen.wrong)

-- an answer told the key several times
abbrev pub is_twice : Lines → (key : ℕ) → Bool
is_twice h key = some_read h key (λ seen. is_answered seen && nat_le 2 seen.read.times)

-- the record is lost
abbrev pub is_lost : Verdict → Bool
is_lost (Lost loss) = true
is_lost _ = false

-- it was told wrongly
abbrev pub is_wrong : Verdict → Bool
is_wrong Wrong = true
is_wrong _ = false

-- it is missing
abbrev pub is_missing : Verdict → Bool
is_missing Missing = true
is_missing _ = false

-- it is unreadable
abbrev pub is_unreadable : Verdict → Bool
is_unreadable Unreadable = true
is_unreadable _ = false

-- it is stale
abbrev pub is_stale : Verdict → Bool
is_stale Stale = true
is_stale _ = false

-- it is kept
abbrev pub is_kept : Verdict → Bool
is_kept Kept = true
is_kept _ = false

-- how many of the records have such a verdict
abbrev pub count_of : (Verdict → Bool) → List Judged → ℕ
count_of test records = count_by (λ judged. test judged.verdict) records

-- what is counted of a key beside its verdict
pub record AreMarks (h : Lines) (key : ℕ) (marks : Marks) : Type 0 where
  pub register : marks.register ≡ is_register h key
  pub recovered : marks.recovered ≡ of_open h key (is_recovered h)
  pub refused : marks.refused ≡ of_open h key (is_refused_and_there h)
  pub gone : marks.gone ≡ of_open h key (is_gone h)
  pub unwritten : marks.unwritten ≡ is_unwritten h key
  pub twice : marks.twice ≡ is_twice h key

-- how many of the first keys have which mark
pub record AreKeyCounts (h : Lines) (keys : ℕ) (counts : KeyCounts) : Type 0 where
  pub registers : counts.registers ≡ count_below keys (is_register h)
  pub recovered : counts.recovered ≡ count_below keys (λ key. of_open h key (is_recovered h))
  pub refused : counts.refused ≡ count_below keys (λ key. of_open h key (is_refused_and_there h))
  pub gone : counts.gone ≡ count_below keys (λ key. of_open h key (is_gone h))
  pub unwritten : counts.unwritten ≡ count_below keys (is_unwritten h)
  pub twice : counts.twice ≡ count_below keys (is_twice h)

-- for how long a stale record was known
abbrev pub stale_time : Judged → Option ℕ
stale_time judged = if is_stale judged.verdict then Some judged.stale_nanos else None

-- for how long the stale records were known
abbrev pub stale_times : List Judged → List ℕ
stale_times records = filter_map stale_time records

-- of numbers that rise, that which is at least as great as so many of a hundred of them
abbrev pub at_percent : List ℕ → (percent : ℕ) → ℕ
at_percent numbers percent =
    slice_index numbers (min (length numbers - 1) (length numbers * percent / 100))

-- the numbers at 0, 50, 95, 99 and 100 percent, where there is one
abbrev pub quantiles_of : List ℕ → Option (List ℕ)
quantiles_of [] = None
quantiles_of (number ∷ numbers) =
    let all = number ∷ numbers in
    Some (
    at_percent all 0 ∷ at_percent all 50 ∷ at_percent all 95 ∷ at_percent all 99
    ∷ at_percent all 100 ∷ []
    )

-- what is counted of the judged records
pub record AreCounts (records : List Judged) (counts : Counts) : Type 0 where
  pub acknowledged : counts.acknowledged ≡ length records
  pub lost : counts.lost ≡ count_of is_lost records
  pub wrong : counts.wrong ≡ count_of is_wrong records
  pub missing : counts.missing ≡ count_of is_missing records
  pub unreadable : counts.unreadable ≡ count_of is_unreadable records
  pub stale : counts.stale ≡ count_of is_stale records
  pub kept : counts.kept ≡ count_of is_kept records

-- what is counted of keys, among all counts
abbrev pub key_counts_of : Counts → KeyCounts
key_counts_of counts = record {
  registers = counts.registers;
  recovered = counts.recovered;
  refused = counts.refused;
  gone = counts.gone;
  unwritten = counts.unwritten;
  twice = counts.twice;
}

-- the quantiles of the times for which stale records were known
abbrev pub IsStaleness : List Judged → Option (List ℕ) → Type 0
IsStaleness records staleness =
    (sorted : List ℕ) × IsPermutation (stale_times records) sorted
    × IsNonDecreasingBy (λ x. x) sorted × (staleness ≡ quantiles_of sorted)

-- counts that are no greater than the number of keys
pub record AreAtMost (keys : ℕ) (counts : KeyCounts) : Type 0 where
  pub registers : counts.registers ≤ keys
  pub recovered : counts.recovered ≤ keys
  pub refused : counts.refused ≤ keys
  pub gone : counts.gone ≤ keys
  pub unwritten : counts.unwritten ≤ keys
  pub twice : counts.twice ≤ keys
