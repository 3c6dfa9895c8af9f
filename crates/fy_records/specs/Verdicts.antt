-- what became of a record
use Rattle.std.specs.Prelude.{◌≡◌, ℕ, zero, suc, [], ◌++◌, ◌+◌, ◌-◌, Bool, true, false, not, ◌&&◌, ◌||◌, nat_lt, nat_le, List, Contains, ⊤, option_map, Option, Some, None, if◌then◌else◌, ◌⊎◌}
use Rattle.std.specs.List.{list_any}
use Rattle.std.specs.List.Sorted.{IsPermutation, IsNonDecreasingBy}
use Rattle.fy_history.specs.declared.history.Place.{Place}
use Rattle.fy_history.specs.declared.history.Read.{Read}
use Rattle.fy_history.specs.declared.history.Write.{Write}
use Rattle.fy_records.specs.declared.TheConstants.{MINUTE_NANOS}
use Rattle.fy_records.specs.declared.judge.Case.{Case}
use Rattle.fy_records.specs.declared.seen.Seen.{Seen}
use Rattle.fy_records.specs.declared.verdict.Judged.{Judged}
use Rattle.fy_records.specs.declared.verdict.Loss.TheVariants.{Store, Process, Disks}
use Rattle.fy_records.specs.declared.verdict.Verdict.{Verdict}
use Rattle.fy_records.specs.declared.verdict.Verdict.TheVariants.{Lost, Wrong, Missing, Unreadable, Stale, Kept}
use Rattle.fy_records.specs.Lines.{Lines, reads_of, some_read, record_of, acked_at, acknowledged_at, list_of}
use Rattle.fy_records.specs.Reads.{Reads, is_answered, lacks, tells, began_after, ended_before, is_at_end, is_of_store, same_process, is_store_read}
use Rattle.fy_records.specs.Traces.{is_on_disk, is_on_no_disk}

-- a read that told the value began after another
abbrev pub is_told_later : Reads → (value : ℕ) → Seen → Bool
is_told_later some value seen =
    some (λ later. tells value later && began_after seen.read.began.line later)

-- (a) an answered read of the store as a whole, since the record has to be there, lacked it; no
-- such read began later, nor any that told it
abbrev pub shows_store_loss : Reads → Case → Seen → Bool
shows_store_loss some c seen =
    lacks seen && is_store_read c.since.line seen
    && not (some (λ later.
    is_store_read c.since.line later && began_after seen.read.began.line later))
    && not (is_told_later some c.value seen)

-- the last answer of a process at the end: an answered read at the end that asked no other process
-- later
abbrev pub is_last_answer : Reads → (written : Option Place) → Seen → Bool
is_last_answer some written seen =
    not (is_of_store seen) && is_at_end written seen && is_answered seen
    && not (some (λ later.
    same_process seen later && is_answered later && is_at_end written later
    && began_after seen.read.began.line later))

-- a read began a minute or more after a read at the end of the same process
abbrev pub is_minute_behind : Reads → (written : Option Place) → Seen → Bool
is_minute_behind some written seen =
    some (λ first.
    same_process seen first && is_at_end written first
    && nat_le (first.read.began.nanos + MINUTE_NANOS) seen.read.began.nanos)

-- a process lacks it to the end: its last answer does, a minute or more after it was asked first
abbrev pub lacks_to_end : Reads → (written : Option Place) → Seen → Bool
lacks_to_end some written seen =
    lacks seen && is_last_answer some written seen && is_minute_behind some written seen

-- (b) a process lacks it to the end, and no read told it that began later
abbrev pub shows_process_loss : Reads → Case → Seen → Bool
shows_process_loss some c seen =
    lacks_to_end some c.written seen && not (is_told_later some c.value seen)

-- lost by (a)
abbrev pub is_lost_by_store : Reads → Case → Bool
is_lost_by_store some c = some (shows_store_loss some c)

-- lost by (b): the store as a whole answered no read, and a process shows it
abbrev pub is_lost_by_process : Reads → Case → Bool
is_lost_by_process some c =
    not (some (is_store_read c.since.line)) && some (shows_process_loss some c)

-- a read at the end was answered
abbrev pub is_answered_at_end : Reads → Case → Bool
is_answered_at_end some c = some (λ seen. is_answered seen && is_at_end c.written seen)

-- lost by (c): no read at the end was answered, and each disk is known not to have it
abbrev pub is_lost_on_disks : Reads → Case → (on_no_disk : Bool) → Bool
is_lost_on_disks some c on_no_disk = not (is_answered_at_end some c) && on_no_disk

-- a read told what nobody wrote
abbrev pub is_told_wrongly : Reads → Bool
is_told_wrongly some = some (λ seen. seen.wrong)

-- a read at the end told it
abbrev pub is_told_at_end : Reads → Case → Bool
is_told_at_end some c = some (λ seen. is_at_end c.written seen && tells c.value seen)

-- a process that counts as whole lacks it to the end
abbrev pub shows_missing : Reads → Case → Seen → Bool
shows_missing some c seen = lacks_to_end some c.written seen && seen.whole

-- some process that counts as whole does
abbrev pub is_missing : Reads → Case → Bool
is_missing some c = some (shows_missing some c)

-- no read at the end told it, and no disk has it
abbrev pub is_unreadable : Reads → Case → (on_disk : Bool) → Bool
is_unreadable some c on_disk = not (is_told_at_end some c) && not on_disk

-- it was known before a line: acknowledged, or told by a read that ended
abbrev pub is_known_before : Reads → Case → (line : ℕ) → Bool
is_known_before some c line =
    nat_lt c.since.line line || some (λ seen. tells c.value seen && ended_before line seen)

-- a read lacked it that began after it was known
abbrev pub is_stale : Reads → Case → Bool
is_stale some c = some (λ seen. lacks seen && is_known_before some c seen.read.began.line)

-- the last read that lacked it
abbrev pub is_last_lacking : Reads → Seen → Bool
is_last_lacking some seen =
    lacks seen && not (some (λ later. lacks later && began_after seen.read.began.line later))

-- the first of these that applies; `on_disk` says that a disk has it, and `on_no_disk` that each is
-- known not to
abbrev pub first_verdict : Reads → Case → (on_disk on_no_disk : Bool) → Verdict
first_verdict some c on_disk on_no_disk =
    if is_lost_by_store some c then Lost Store
    else if is_lost_by_process some c then Lost Process
    else if is_lost_on_disks some c on_no_disk then Lost Disks
    else if is_told_wrongly some then Wrong
    else if is_missing some c then Missing
    else if is_unreadable some c on_disk then Unreadable
    else if is_stale some c then Stale
    else Kept

-- what a record is judged by that has to be there from a place on
abbrev pub case_since : Lines → Write → (since : Place) → Case
case_since h write since = record { value = write.value; since = since; written = h.written }

-- the verdict of a record that was acknowledged at a place
abbrev pub verdict_of : Lines → Write → (acked : Place) → Verdict
verdict_of h write acked =
    first_verdict (some_read h write.key) (case_since h write acked)
    (is_on_disk h.disks write.key write.value)
    (is_on_no_disk h.disks h.processes write.key write.value)

-- a read that shows such a verdict, where a single one does
abbrev pub shows : Reads → Case → Verdict → Option (Seen → Bool)
shows some c (Lost Store) = Some (shows_store_loss some c)
shows some c (Lost Process) = Some (shows_process_loss some c)
shows some c (Lost Disks) = None
shows some c Wrong = Some (λ seen. seen.wrong)
shows some c Missing = Some (shows_missing some c)
shows some c Unreadable = None
shows some c Stale = Some (is_last_lacking some)
shows some c Kept = None

-- one of these reads that passes the test, where one is wanted
abbrev pub IsShown : List Seen → Option (Seen → Bool) → Option Seen → Type 0
IsShown reads None seen = seen ≡ None
IsShown reads (Some test) None = ⊥
IsShown reads (Some test) (Some seen) = Contains reads seen × (test seen ≡ true)

-- a read that told a value ended at this place, if there is one
abbrev pub IsToldAt : List Seen → (value : ℕ) → Option Place → Type 0
IsToldAt reads value None = ⊤
IsToldAt reads value (Some place) =
    (seen : Seen) × Contains reads seen × (tells value seen ≡ true) × (seen.read.ended ≡ Some place)

-- where it was first known that the record is there: at its ack, or where a read ended that told it
pub record IsKnown (reads : List Seen) (c : Case) (known : Place) : Type 0 where
  pub there : (known ≡ c.since) ⊎ IsToldAt reads c.value (Some known)
  pub first : is_known_before (λ test. list_any test reads) c known.line ≡ false

-- so long it was known when a read began
abbrev pub IsLag : List Seen → Case → Read → (nanos : ℕ) → Type 0
IsLag reads c read nanos =
    (known : Place) × IsKnown reads c known × (nanos ≡ read.began.nanos - known.nanos)

-- for how long a stale record was known when the read began that shows it; 0 of another
abbrev pub IsStaleFor : List Seen → Case → Verdict → Option Seen → (nanos : ℕ) → Type 0
IsStaleFor reads c Stale None nanos = ⊥
IsStaleFor reads c Stale (Some seen) nanos = IsLag reads c seen.read nanos
IsStaleFor reads c (Lost loss) seen nanos = nanos ≡ 0
IsStaleFor reads c Wrong seen nanos = nanos ≡ 0
IsStaleFor reads c Missing seen nanos = nanos ≡ 0
IsStaleFor reads c Unreadable seen nanos = nanos ≡ 0
IsStaleFor reads c Kept seen nanos = nanos ≡ 0

-- a read with what the history says of it shows a verdict, and for how long the record was known
abbrev pub AreShownBy : List Seen → Case → Verdict → Option Seen → (nanos : ℕ) → Type 0
AreShownBy reads c verdict seen nanos =
    IsShown reads (shows (λ test. list_any test reads) c verdict) seen
    × IsStaleFor reads c verdict seen nanos

-- an acknowledged record with its verdict, and what shows it
pub record IsJudged (h : Lines) (write : Write) (acked : Place) (judged : Judged) : Type 0 where
  pub write_is : judged.write ≡ write
  pub acked_is : judged.acked ≡ acked
  pub verdict_is : judged.verdict ≡ verdict_of h write acked
  pub shown : (seen : Option Seen) × (judged.read ≡ option_map (λ (s : Seen). s.read) seen)
      × AreShownBy (reads_of h write.key) (case_since h write acked) judged.verdict seen
      judged.stale_nanos

-- the judged record of a key: none where the key has no acknowledged record
abbrev pub IsJudgedKey : Lines → (key : ℕ) → Option Judged → Type 0
IsJudgedKey h key None = acknowledged_at h key ≡ None
IsJudgedKey h key (Some judged) =
    (write : Write) × (acked : Place) × (record_of h key ≡ Some write)
    × (acked_at write ≡ Some acked) × IsJudged h write acked judged

-- the judged records of the first keys, by key
abbrev pub AreJudgedBelow : Lines → ℕ → List Judged → Type 0
AreJudgedBelow h zero records = records ≡ []
AreJudgedBelow h (suc key) records =
    (before : List Judged) × (own : Option Judged) × AreJudgedBelow h key before
    × IsJudgedKey h key own × (records ≡ before ++ list_of own)

-- all acknowledged records of a history, judged, by the line of their acks
pub record AreJudged (h : Lines) (records : List Judged) : Type 0 where
  pub by_key : List Judged
  pub all : AreJudgedBelow h h.names by_key
  pub same : IsPermutation by_key records
  pub order : IsNonDecreasingBy (λ (judged : Judged). judged.acked.line) records
