-- what is found among the reads of a key
use Rattle.std.specs.Prelude.{◌≡◌, ◌≤◌, [], ◌∷◌, ⊤, ℕ, ◌+◌, nat_le, Bool, true, false, List, Contains, Option, Some, None}
use Rattle.std.specs.List.{list_any}
use Rattle.fy_records.specs.declared.seen.Seen.{Seen}
use Rattle.fy_records.specs.Reads.{Reads, process_of, same_process}

-- whether one of these reads passes a test
abbrev pub some_of : List Seen → Reads
some_of reads test = list_any test reads

-- one of the reads that passes the test, and none where no read does
abbrev pub FindsOne : (Seen → Bool) → List Seen → Option Seen → Type 0
FindsOne test reads None = list_any test reads ≡ false
FindsOne test reads (Some seen) = Contains reads seen × (test seen ≡ true)

-- all reads asked the same process
abbrev pub AreOfOne : List Seen → Type 0
AreOfOne reads = (a b : Seen) → Contains reads a → Contains reads b → same_process a b ≡ true

-- a time is so much behind another, if there is one
abbrev pub reaches : Option ℕ → (more nanos : ℕ) → Bool
reaches None more nanos = false
reaches (Some first) more nanos = nat_le (first + more) nanos

-- no read of one list asked the process of a read of another
abbrev pub AreApart : List Seen → List Seen → Type 0
AreApart reads others =
    (a b : Seen) → Contains reads a → Contains others b
    → (same_process a b ≡ false) × (same_process b a ≡ false)

-- the reads of each process stand together: none asked an earlier process than one before
abbrev pub AreGathered : List Seen → Type 0
AreGathered [] = ⊤
AreGathered (seen ∷ reads) =
    ((later : Seen) → Contains reads later → process_of seen ≤ process_of later) × AreGathered reads
