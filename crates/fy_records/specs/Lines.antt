-- the lines of a history by which records are judged
use Rattle.std.specs.Prelude.{ℕ, Bool, true, false, not, ◌&&◌, ◌==◌, List, [], ◌∷◌, filter, option_and_then, Option, Some, None, if◌then◌else◌}
use Rattle.std.specs.List.{list_any}
use Rattle.fy_history.specs.declared.history.Answer.{Answer}
use Rattle.fy_history.specs.declared.history.Answer.TheVariants.{Unanswered, Nothing, Value}
use Rattle.fy_history.specs.declared.history.DiskLine.{DiskLine}
use Rattle.fy_history.specs.declared.history.End.{End}
use Rattle.fy_history.specs.declared.history.End.TheVariants as end
use Rattle.fy_history.specs.declared.history.History.{History}
use Rattle.fy_history.specs.declared.history.Place.{Place}
use Rattle.fy_history.specs.declared.history.Read.{Read}
use Rattle.fy_history.specs.declared.history.Write.{Write}
use Rattle.fy_records.specs.declared.seen.Seen.{Seen}
use Rattle.fy_records.specs.Reads.{Reads}

-- the writes and reads of a history, whether the process of each read counted as whole when it
-- answered, what was found on disks, where the reads at the end begin, how many processes the
-- cluster has, and how many texts the history
pub record Lines : Type 0 where
  pub writes : List Write
  pub reads : List Read
  pub wholes : List Bool
  pub disks : List DiskLine
  pub written : Option Place
  pub processes : ℕ
  pub names : ℕ

-- the lines of a history
abbrev pub lines_of : History → (wholes : List Bool) → (processes names : ℕ) → Lines
lines_of history wholes processes names = record {
  writes = history.writes.items;
  reads = history.reads.items;
  wholes = wholes;
  disks = history.disks.items;
  written = history.written;
  processes = processes;
  names = names;
}

-- a write is known not to be done
abbrev pub is_undone : End → Bool
is_undone end.Undone = true
is_undone _ = false

-- a write was acknowledged
abbrev pub is_done : End → Bool
is_done end.Done = true
is_done _ = false

-- some write gave a key this value, or may have
abbrev pub is_written : List Write → (key value : ℕ) → Bool
is_written writes key value =
    list_any (λ write.
    (write.key == key) && (write.value == value) && not (is_undone write.end)) writes

-- an answer tells a value that no write gave the key
abbrev pub is_wrong : List Write → (key : ℕ) → Answer → Bool
is_wrong writes key Unanswered = false
is_wrong writes key Nothing = false
is_wrong writes key (Value told) = not (is_written writes key told)

-- a read as it is judged: whether its process counted as whole, and whether it told what nobody
-- wrote
abbrev pub seen_of : List Write → Read → (whole : Bool) → Seen
seen_of writes read whole =
    record { read = read; whole = whole; wrong = is_wrong writes read.key read.answer }

-- the reads as they are judged
abbrev pub seen_reads : List Write → List Read → (wholes : List Bool) → List Seen
seen_reads writes [] wholes = []
seen_reads writes (read ∷ reads) [] = []
seen_reads writes (read ∷ reads) (whole ∷ wholes) =
    seen_of writes read whole ∷ seen_reads writes reads wholes

-- all reads of a history as they are judged
abbrev pub all_reads : Lines → List Seen
all_reads h = seen_reads h.writes h.reads h.wholes

-- the reads of a key
abbrev pub reads_of : Lines → (key : ℕ) → List Seen
reads_of h key = filter (λ seen. seen.read.key == key) (all_reads h)

-- whether some read of a key passes a test
abbrev pub some_read : Lines → (key : ℕ) → Reads
some_read h key test = list_any test (reads_of h key)

-- the one write of a list; none where there are several
abbrev pub only : List Write → Option Write
only [] = None
only (write ∷ []) = Some write
only (write ∷ other ∷ writes) = None

-- the writes of a key
abbrev pub writes_of : Lines → (key : ℕ) → List Write
writes_of h key = filter (λ write. write.key == key) h.writes

-- the record of a key: its write, where it has one only
abbrev pub record_of : Lines → (key : ℕ) → Option Write
record_of h key = only (writes_of h key)

-- where a write was acknowledged
abbrev pub acked_at : Write → Option Place
acked_at write = if is_done write.end then write.ended else None

-- where the record of a key was acknowledged
abbrev pub acknowledged_at : Lines → (key : ℕ) → Option Place
acknowledged_at h key = option_and_then acked_at (record_of h key)

-- a list of one element, or of none
abbrev pub list_of : {X : Type 0} → Option X → List X
list_of None = []
list_of (Some x) = x ∷ []
