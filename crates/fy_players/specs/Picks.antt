-- what a word picks
use Rattle.std.specs.Prelude.{ℕ, ◌*◌, ◌+◌, ◌/◌, ◌%◌, ◌==◌, ◌||◌, nat_lt, codes, List, length, replicate, Option, Some, None, option_and_then, unwrap_or, slice_get, if◌then◌else◌}
use Rattle.fy_locality.specs.declared.ProcId.{ProcId}
use Rattle.fy_locality.specs.declared.key.Key.{Key}
use Rattle.fy_locality.specs.declared.key.Key.TheVariants.{Process, Machine, Zone, DataHall, DataCenter}
use Rattle.fy_locality.specs.declared.locality.Locality.{Locality}
use Rattle.fy_locality.specs.Locality.{values_of}
use Rattle.fy_kinds.specs.declared.kind.Kind.{Kind}
use Rattle.fy_kinds.specs.declared.kind.Kind.TheVariants.{RebootProcess, Reboot, RebootAndDelete, KillInstantly}
use Rattle.fy_kinds.specs.declared.order.Target.{Target}
use Rattle.fy_kinds.specs.Kinds.{rank, only, every_deed, Striking, Clogging}
use Rattle.fy_kinds.specs.Members.{Members}
use Rattle.fy_players.specs.declared.picks.TheConstants.{NOBODY, NO_TICKS, TICKS_AT_ONCE, TOO_LONG}

-- a place among so many; once in 64, and where there is none, no place
abbrev pub place_of : ℕ → ℕ → Option ℕ
place_of word count =
    if count == 0 || word % 64 == 63 then None else Some (word / 64 % count)

-- a number below a count, or a number that nothing has
abbrev pub pick : ℕ → ℕ → ℕ
pick word count = unwrap_or (place_of word count) NOBODY

-- a process, or one that isn't there
abbrev pub process_of : ℕ → List Locality → ProcId
process_of word processes = record { 0 = pick word (length processes) }

-- a kind of kill
abbrev pub kind_of : ℕ → Kind
kind_of word =
    if word % 4 == 0 then RebootProcess
    else (if word % 4 == 1 then Reboot
    else (if word % 4 == 2 then RebootAndDelete else KillInstantly))

-- the second kind, unless it is above the first
abbrev pub lower : Kind → Kind → Kind
lower kind other = if nat_lt (rank kind) (rank other) then kind else other

-- once in four any floor that isn't above the kind, else the mildest
abbrev pub floor_of : ℕ → Kind → Kind
floor_of word kind =
    if word % 4 == 0 then lower kind (kind_of (word / 4)) else RebootProcess

-- clogging, all deeds, or a kind of kill
abbrev pub kinds_of : ℕ → Members
kinds_of word =
    if word % 6 == 4 then only Clogging
    else (if word % 6 == 5 then every_deed else only (Striking (kind_of (word / 6))))

-- a key: of 32 words eight are for machines, four for zones, one for data centres and one for data
-- halls, and the others for processes
abbrev pub key_of : ℕ → Key
key_of word =
    let k = word % 32 in
    if nat_lt k 8 then Machine
    else (if nat_lt k 12 then Zone
    else (if nat_lt k 13 then DataCenter
    else (if nat_lt k 14 then DataHall else Process)))

-- the value at a place among those of a key, or a name that nothing has
abbrev pub value_at : List Locality → Key → Option ℕ → List ℕ
value_at processes key place =
    unwrap_or (option_and_then (slice_get (values_of processes key)) place) (codes "nowhere")

-- the processes with one value of a key
abbrev pub target_of : ℕ → Key → List Locality → Target
target_of word key processes = record {
  key = key;
  value = value_at processes key (place_of word (length (values_of processes key)));
}

-- up to 256 bytes, all the same, and once in 64 one more than a record may have
abbrev pub bytes_of : ℕ → List ℕ
bytes_of word =
    replicate (if word % 64 == 63 then TOO_LONG else word / 64 % TOO_LONG) (word % 251)

-- up to 15 times so many ticks, and once in 64 more than the clock has
abbrev pub ticks_of : ℕ → ℕ
ticks_of word = if word % 64 == 63 then NO_TICKS else TICKS_AT_ONCE * (word / 64 % 16)

-- a tear of two words
abbrev pub tear_of : ℕ → ℕ → ℕ
tear_of high low = high * 4294967296 + low
